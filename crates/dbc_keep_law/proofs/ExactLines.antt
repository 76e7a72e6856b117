-- Whole lines, one after the other in a text, have their tokens, and each line is what the text has between them.
use Rattle.dbc_keep_law.proofs.Common.{◌≡◌, ◌+◌, ◌-◌, ℕ, List, [], ◌∷◌, ◌++◌, length, take, drop, refl, sym, ap, subst}
use Rattle.dbc_keep_law.proofs.Common.{◌∙◌, append_assoc, arith, AllByRecursion, flat_map, length-append, drop_at}
use Rattle.dbc_keep_law.proofs.Common.{take_at, Line, Piece, line_text, Rule, many, Token, HasTokens, line, token_of}
use Rattle.dbc_keep_law.proofs.Common.{pieces_text}
use Rattle.dbc_keep_law.specs.Passages.{line_of, pieces_from}
use Rattle.dbc_keep_law.proofs.LegibleLines.{AreWhole, after_gap, end_of}

-- the first tokens are those of the line, whose pieces are the text's bytes from an offset on
pub record ExactLine (text : List ℕ) (ts : List Token) (l : Line) (rest : List Token) : Type 0 where
  pub at : ℕ
  pub run : List Token
  pub parts : ts ≡ run ++ rest
  pub same : pieces_from text at run ≡ l
  pub is_line : line ts l rest

abbrev pub exact_line : List ℕ → Rule Line
exact_line text = λ ts l rest. ExactLine text ts l rest

record PiecesExact (text : List ℕ) (offset : ℕ) (ps : List Piece) (more : List ℕ) (ts : List Token) : Type 0 where
  tokens : List Token
  has : HasTokens offset (pieces_text ps ++ 10 ∷ more) tokens
  run : List Token
  parts : tokens ≡ run ++ ts
  same : pieces_from text offset run ≡ ps
  is_line : line tokens ps ts

pieces_exact : (text front : List ℕ) (offset : ℕ) (ps : List Piece) (more : List ℕ) (ts : List Token)
    → text ≡ front ++ (pieces_text ps ++ 10 ∷ more) → length front ≡ offset
    → AreWhole ps → HasTokens (end_of offset ps) (10 ∷ more) ts → PiecesExact text offset ps more ts
pieces_exact text front offset [] more ts e at whole has =
    record { tokens = ts; has = has; run = []; parts = refl; same = refl; is_line = refl }
pieces_exact text front offset (p ∷ ps) more ts e at whole has =
    let start = offset + length p.gap in
    let end = offset + length p.gap + length p.text in
    let rest = pieces_text ps ++ 10 ∷ more in
    let next : text ≡ (front ++ (p.gap ++ p.text)) ++ rest = e ∙ simp append_assoc in
    let next_at : length (front ++ (p.gap ++ p.text)) ≡ end =
    omega (arith, at, length-append front (p.gap ++ p.text), length-append p.gap p.text) in
    let tail = pieces_exact text (front ++ (p.gap ++ p.text)) end ps more ts next next_at whole.1 has in
    let long : length p.gap ≡ start - offset = omega arith in
    let here : text ≡ front ++ (p.gap ++ (p.text ++ rest)) = e ∙ simp append_assoc in
    let dropped : drop offset text ≡ p.gap ++ (p.text ++ rest) =
    ap (drop offset) here ∙ drop_at front (p.gap ++ (p.text ++ rest)) offset at in
    let gap : take (start - offset) (drop offset text) ≡ p.gap =
    ap (take (start - offset)) dropped ∙ take_at p.gap (p.text ++ rest) (start - offset) long in
    record {
      tokens = token_of p start end ∷ tail.tokens;
      has = (
        rest,
        record {
          gap = p.gap;
          parts = simp append_assoc;
          gap_is = whole.0.gap;
          start = refl;
          end = refl;
          spelled = whole.0.spelled;
          longest = whole.0.longest more;
        },
        tail.has,
      );
      run = token_of p start end ∷ tail.run;
      parts = ap (λ (l : List Token). token_of p start end ∷ l) tail.parts;
      same = λ i. record { gap = gap i; kind = p.kind; text = p.text } ∷ tail.same i;
      is_line = (tail.tokens, record { start = start; end = end; front = refl }, tail.is_line);
    }

end_is : (offset : ℕ) (ps : List Piece) → end_of offset ps ≡ offset + length (pieces_text ps)
end_is offset [] = omega arith
end_is offset (p ∷ ps) =
    omega (
      arith,
      end_is (offset + length p.gap + length p.text) ps,
      length-append (p.gap ++ p.text) (pieces_text ps),
      length-append p.gap p.text,
    )

pub lines_exact : (text front : List ℕ) (offset : ℕ) (ls : List Line) → text ≡ front ++ flat_map line_text ls
    → length front ≡ offset → AllByRecursion AreWhole ls
    → (ts : List Token) × HasTokens offset (flat_map line_text ls) ts × many (exact_line text) ts ls []
lines_exact text front offset [] e at whole = ([], refl, refl)
lines_exact text front offset (l ∷ ls) e at whole =
    let more = flat_map line_text ls in
    let next : text ≡ (front ++ line_text l) ++ more = e ∙ sym (append_assoc front (line_text l) more) in
    let next_at : length (front ++ line_text l) ≡ end_of offset l + 1 =
    omega (arith, at, length-append front (line_text l), length-append (pieces_text l) (10 ∷ []), end_is offset l) in
    let (ts, has, rest_is) = lines_exact text (front ++ line_text l) (end_of offset l + 1) ls next next_at whole.1 in
    let parts : line_text l ++ more ≡ pieces_text l ++ 10 ∷ more = simp append_assoc in
    let here : text ≡ front ++ (pieces_text l ++ 10 ∷ more) = e ∙ ap (λ v. front ++ v) parts in
    let first = pieces_exact text front offset l more ts here at whole.0
    (after_gap (end_of offset l) (10 ∷ []) more ts refl has) in (
      first.tokens,
      subst (λ v. HasTokens offset v first.tokens) (sym parts) first.has,
      (
        ts,
        record { at = offset; run = first.run; parts = first.parts; same = first.same; is_line = first.is_line },
        rest_is,
      ),
    )

-- ---- the line of its run

abbrev pub first_gap : Line → List ℕ
first_gap [] = []
first_gap (p ∷ ps) = p.gap

pub line_from : (text : List ℕ) (at : ℕ) (run : List Token) (l : Line) → pieces_from text at run ≡ l → first_gap l ≡ []
    → line_of text run ≡ l
line_from text at [] l same tight = same
line_from text at (t ∷ run) l same tight =
    let none : t.start - t.start ≡ 0 = omega arith in
    let here : take (t.start - t.start) (drop t.start text) ≡ [] = rw none refl in
    let there : take (t.start - at) (drop at text) ≡ [] = ap first_gap same ∙ tight in
    let gap = here ∙ sym there in
    let heads : line_of text (t ∷ run) ≡ pieces_from text at (t ∷ run) =
    λ i. record { gap = gap i; kind = t.kind; text = t.text } ∷ pieces_from text t.end run in
    heads ∙ same
