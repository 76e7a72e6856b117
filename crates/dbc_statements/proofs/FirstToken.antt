-- The first token that is read from an offset of a text on, and what is read after it.
use Rattle.dbc_statements.proofs.Common.{◌≡◌, ◌≤◌, ℕ, List, [], ◌∷◌, ◌++◌, length, drop, min, Option, Some, None, refl}
use Rattle.dbc_statements.proofs.Common.{sym, ap, subst, ◌∙◌, arith, append_assoc, length-append, drop_at, LexFault}
use Rattle.dbc_statements.proofs.Common.{Lexed, lexed, Token, TokenKind, IsRead, first_of, read_is_there, there_is_read}
use Rattle.std.proofs.Common.{◌-◌, take, slice_range}
use Rattle.std.proofs.lemmas.List.{length-take, take-append-drop, take_at, at_drop_all}
use Rattle.dbc_grammar.specs.Tokens.{IsFirst}
use Rattle.dbc_statements.specs.Tokens.{AreTokens, EndsThere, AreSpelled, tokens_from}
use Rattle.dbc_statements.proofs.Spelled.{read_are_spelled}

-- the token is within the text, and those are the tokens after its end
record IsHere (source : List ℕ) (t : Token) (ts : List Token) : Type 0 where
  ordered : t.start ≤ t.end
  within : t.end ≤ length source
  text : slice_range source t.start t.end ≡ t.text
  others : (lexed t.end (drop t.end source)).tokens ≡ ts

first_is_here : (source : List ℕ) (offset : ℕ) (t : Token) (rest : List ℕ) (ts : List Token) (o : Option LexFault)
    → offset ≤ length source
    → IsFirst offset (drop offset source) t rest → IsRead t.end rest ts o → IsHere source t ts
first_is_here source offset t rest ts o here f more =
    let before = take offset source ++ f.gap in
    let whole : source ≡ before ++ (t.text ++ rest) =
    sym (take-append-drop offset source) ∙ ap (λ (l : List ℕ). take offset source ++ l) f.parts
    ∙ sym (append_assoc (take offset source) f.gap (t.text ++ rest)) in
    let split : source ≡ (before ++ t.text) ++ rest = whole ∙ sym (append_assoc before t.text rest) in
    let long : length before ≡ t.start =
    omega (arith, here, f.start, length-append (take offset source) f.gap, length-take offset source) in
    let longer : length (before ++ t.text) ≡ t.end = omega (arith, long, f.end, length-append before t.text) in
    let from_it : drop t.start source ≡ t.text ++ rest = ap (drop t.start) whole
    ∙ drop_at before (t.text ++ rest) t.start long in
    let after_it : drop t.end source ≡ rest = ap (drop t.end) split ∙ drop_at (before ++ t.text) rest t.end longer in
    record {
      ordered = omega (arith, f.end);
      within = omega (arith, longer, ap length split, length-append (before ++ t.text) rest);
      text = ap (take (t.end - t.start)) from_it ∙ take_at t.text rest (t.end - t.start) (omega (arith, f.end));
      others = ap (λ (l : List ℕ). (lexed t.end l).tokens) after_it
          ∙ ap (λ (l : Lexed). l.tokens) (there_is_read t.end rest ts o more);
    }

-- what the lexer at an offset reads
pub at_offset : (source : List ℕ) (offset : ℕ) (lexer : Lexed) → offset ≤ length source
    → lexer ≡ lexed (min offset (length source)) (drop offset source)
    → lexer ≡ lexed offset (drop offset source)
at_offset source offset lexer here at = at ∙ ap (λ n. lexed n (drop offset source)) (omega (arith, here))

-- a token that the lexer gives at an offset
module _ (source : List ℕ) (offset : ℕ) (here : offset ≤ length source) (lexer : Lexed)
    (at : lexer ≡ lexed (min offset (length source)) (drop offset source)) (t : Token) (ts : List Token)
    (first : lexer.tokens ≡ t ∷ ts) where
  read_here : (lexed offset (drop offset source)).tokens ≡ t ∷ ts
  read_here = ap (λ (l : Lexed). l.tokens) (sym (at_offset source offset lexer here at)) ∙ first

  is_here : IsHere source t ts
  is_here =
      let o = (lexed offset (drop offset source)).fault in
      let read : IsRead offset (drop offset source) (t ∷ ts) o =
      subst (λ (l : List Token). IsRead offset (drop offset source) l o) read_here
      (read_is_there offset (drop offset source)) in
      let (rest, f, more) = first_of offset (drop offset source) t ts o read in
      first_is_here source offset t rest ts o here f more

  pub tokens_are : tokens_from source (Some t.kind) t.start t.end ≡ (lexed offset (drop offset source)).tokens
  tokens_are =
      ap (λ (text : List ℕ). record { kind = t.kind; start = t.start; end = t.end; text = text }
      ∷ (lexed t.end (drop t.end source)).tokens) is_here.text
      ∙ ap (λ (l : List Token). t ∷ l) is_here.others ∙ sym read_here

  pub begin_with : tokens_from source (Some t.kind) t.start t.end ≡ t ∷ ts
  begin_with = tokens_are ∙ read_here

  pub are_tokens : AreTokens source (Some t.kind) t.start t.end
  are_tokens = record {
    ordered = is_here.ordered;
    within = is_here.within;
    ends = tt;
    spelled = subst AreSpelled (sym tokens_are) (read_are_spelled offset (drop offset source));
  }

-- without the first token, what is read after its end is left
pub after_first : (source : List ℕ) (kind : Option TokenKind) (start end : ℕ) → EndsThere source kind end
    → (lexed end (drop end source)).tokens ≡ drop 1 (tokens_from source kind start end)
after_first source None start end over =
    at_drop_all (λ (l : List ℕ). (lexed end l).tokens) source end (omega (arith, over))
    ∙ ap (λ (l : Lexed). l.tokens) (there_is_read end [] [] None refl)
after_first source (Some kind) start end over = refl
