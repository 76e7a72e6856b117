-- What is read first is the first token, and where none is read none is there.
use Rattle.dbc_grammar.proofs.Common.{◌≡◌, ℕ, ◌+◌, Bool, true, false, List, [], ◌∷◌, ◌++◌, length, take, drop, Option}
use Rattle.dbc_grammar.proofs.Common.{Some, None, Result, Ok, Err, refl, sym, ap, subst, ◌∙◌, arith, append_assoc}
use Rattle.dbc_grammar.proofs.Common.{prefix_len, and_from, eqb-true, append-nil, length-append, drop_at}
use Rattle.dbc_grammar.proofs.Common.{length-prefix_len, Stops, prefix_all, prefix_exact}
use Rattle.std.proofs.Common.{add-zero, if◌then◌else◌}
use Rattle.std.proofs.lemmas.List.{length-take-le, take-append-drop}
use Rattle.std.proofs.lemmas.List.Folds.{list_all-append}
use Rattle.dbc_grammar.specs.declared.token.TokenKind.{TokenKind}
use Rattle.dbc_grammar.specs.declared.token.TokenKind.TheVariants.{Text}
use Rattle.dbc_grammar.specs.Lexing.{LexFault, StrayByte, UnclosedText, first_token, kind_of, of_kind, token_at}
use Rattle.dbc_grammar.specs.Lexing.{token_or_fault, word_len}
use Rattle.dbc_grammar.specs.Spelling.{is_gap, is_quote}
use Rattle.dbc_grammar.specs.Token.{Token}
use Rattle.dbc_grammar.specs.TokenLaw.{NoToken}
use Rattle.dbc_grammar.specs.Tokens.{IsFirst, IsGap, IsLongest}
use Rattle.dbc_grammar.proofs.TokenBytes.{Begins, begins_further, kind_is_no_gap}
use Rattle.dbc_grammar.proofs.TokenRuns.{prefix_stops}
use Rattle.dbc_grammar.proofs.TokensOnce.{after_first_gap, first_once, gap_has_none}
use Rattle.dbc_grammar.proofs.TokenWords.{IsFound, longest_of_all, of_that_kind, word_found}

-- what it means to read this of bytes at the offset
abbrev pub Means : ℕ → List ℕ → Result (Option Token) LexFault → Type 0
Means offset bytes (Err fault) = NoToken offset bytes fault
Means offset bytes (Ok None) = IsGap bytes
Means offset bytes (Ok (Some token)) = (rest : List ℕ) × IsFirst offset bytes token rest

-- ---- where a token begins

word_means : (offset b : ℕ) (bytes : List ℕ) (kind : TokenKind) (o : Option ℕ) → kind_of b ≡ Some kind
    → IsFound kind b bytes o
    → Means offset (b ∷ bytes) (token_or_fault offset (b ∷ bytes) kind o)
word_means offset b bytes kind (Some n) h found =
    let long : length (take n (b ∷ bytes)) ≡ n = length-take-le n (b ∷ bytes) found.within in
    let whole : take n (b ∷ bytes) ++ drop n (b ∷ bytes) ≡ b ∷ bytes = take-append-drop n (b ∷ bytes) in
    let longest : IsLongest n (b ∷ bytes) = longest_of_all b bytes kind n h found in (
      drop n (b ∷ bytes),
      record {
        gap = [];
        parts = sym whole;
        gap_is = refl;
        start = omega arith;
        end = omega (arith, long);
        spelled = found.spelled;
        longest = subst (λ k. IsLongest k (take n (b ∷ bytes) ++ drop n (b ∷ bytes))) (sym long)
            (subst (IsLongest n) (sym whole) longest);
      },
    )
word_means offset b bytes kind None h found = record {
  gap = [];
  first = b;
  after = bytes;
  parts = refl;
  gap_is = refl;
  no_gap = kind_is_no_gap b kind h;
  none = λ k word rest s e. found.1 word rest (of_that_kind b bytes kind h k word rest s e) e;
  fault_is = rw (found.0, add-zero) refl;
}

kind_means : (offset b : ℕ) (bytes : List ℕ) (o : Option TokenKind) → is_gap b ≡ false → kind_of b ≡ o
    → Means offset (b ∷ bytes) (of_kind offset (b ∷ bytes) o)
kind_means offset b bytes (Some kind) g h =
    word_means offset b bytes kind (word_len kind (b ∷ bytes)) h (word_found b bytes kind h)
kind_means offset b bytes None g h = record {
  gap = [];
  first = b;
  after = bytes;
  parts = refl;
  gap_is = refl;
  no_gap = g;
  none = λ kind word rest s e. none kind (begins_further kind word rest s) e;
  fault_is = rw add-zero (by_quote (is_quote b) refl);
}
  where
    none : (kind : TokenKind) {xs : List ℕ} → Begins kind xs → b ∷ bytes ≡ xs → ⊥
    none kind x e =
        let whole : b ∷ bytes ≡ x.first ∷ x.after = e ∙ x.parts in
        let same : b ≡ x.first = cc in
        let no : None ≡ Some kind = sym h ∙ ap kind_of same ∙ x.kind_begins in
        absurd cc

    by_quote : (quote : Bool) → is_quote b ≡ quote
        → StrayByte offset ≡ (if quote then UnclosedText offset else StrayByte offset)
    by_quote false q = refl
    by_quote true q = let no : kind_of b ≡ Some Text = rw (eqb-true b 34 q) refl in let not : None ≡ Some Text =
        sym h ∙ no in absurd cc

token_at_means : (offset : ℕ) (bytes : List ℕ) → Stops is_gap bytes → Means offset bytes (token_at offset bytes)
unfolding token_at
token_at_means offset [] stops = refl
token_at_means offset (b ∷ bytes) stops = kind_means offset b bytes (kind_of b) stops refl

-- ---- after a gap

gaps_join : (xs ys : List ℕ) → IsGap xs → IsGap ys → IsGap (xs ++ ys)
gaps_join xs ys h k = rw list_all-append (and_from _ _ h k)

after_gap : (offset : ℕ) (gap bytes : List ℕ) (r : Result (Option Token) LexFault) → IsGap gap
    → Means (offset + length gap) bytes r → Means offset (gap ++ bytes) r
after_gap offset gap bytes (Err fault) h m =
    let at : offset + length gap + length m.gap ≡ offset + length (gap ++ m.gap) =
    omega (arith, length-append gap m.gap) in
    record {
      gap = gap ++ m.gap;
      first = m.first;
      after = m.after;
      parts = ap (λ v. gap ++ v) m.parts ∙ sym (append_assoc gap m.gap (m.first ∷ m.after));
      gap_is = gaps_join gap m.gap h m.gap_is;
      no_gap = m.no_gap;
      none = m.none;
      fault_is = subst (λ n. fault ≡ (if is_quote m.first then UnclosedText n else StrayByte n)) at m.fault_is;
    }
after_gap offset gap bytes (Ok None) h m = gaps_join gap bytes h m
after_gap offset gap bytes (Ok (Some t)) h (rest, f) = (
  rest,
  record {
    gap = gap ++ f.gap;
    parts = ap (λ v. gap ++ v) f.parts ∙ sym (append_assoc gap f.gap (t.text ++ rest));
    gap_is = gaps_join gap f.gap h f.gap_is;
    start = omega (arith, f.start, length-append gap f.gap);
    end = f.end;
    spelled = f.spelled;
    longest = f.longest;
  },
)

pub first_token_means : (offset : ℕ) (bytes : List ℕ) → Means offset bytes (first_token offset bytes)
unfolding first_token
first_token_means offset bytes =
    let n = prefix_len is_gap bytes in
    let here = token_at_means (offset + n) (drop n bytes) (prefix_stops is_gap bytes) in
    let long : n ≡ length (take n bytes) = sym (length-prefix_len is_gap bytes) in
    let r = token_at (offset + n) (drop n bytes) in
    let there : Means (offset + length (take n bytes)) (drop n bytes) r =
    subst (λ k. Means (offset + k) (drop n bytes) r) long here in
    subst (λ v. Means offset v r) (take-append-drop n bytes)
    (after_gap offset (take n bytes) (drop n bytes) r (prefix_all is_gap bytes) there)

-- ---- what is there is read

-- where no token begins, after a gap
module _ (offset : ℕ) (bytes : List ℕ) (fault : LexFault) (m : NoToken offset bytes fault) where
  stop_len : prefix_len is_gap bytes ≡ length m.gap
  stop_len = ap (prefix_len is_gap) m.parts ∙ prefix_exact is_gap m.gap (m.first ∷ m.after) m.gap_is m.no_gap

  after_stop_gap : drop (prefix_len is_gap bytes) bytes ≡ m.first ∷ m.after
  after_stop_gap = ap (drop (prefix_len is_gap bytes)) m.parts
      ∙ drop_at m.gap (m.first ∷ m.after) (prefix_len is_gap bytes) (sym stop_len)

  stop_is_no_gap : IsGap bytes → ⊥
  stop_is_no_gap h =
      let all : prefix_len is_gap bytes ≡ length bytes = ap (prefix_len is_gap) (sym (append-nil bytes))
      ∙ prefix_exact is_gap bytes [] h tt in
      omega (arith, all, stop_len, ap length m.parts, length-append m.gap (m.first ∷ m.after))

  stop_is_no_token : (t : Token) (rest : List ℕ) → IsFirst offset bytes t rest → ⊥
  stop_is_no_token t rest f =
      m.none t.kind t.text rest f.spelled (sym after_stop_gap ∙ after_first_gap offset bytes t rest f)

one_fault : (offset : ℕ) (bytes : List ℕ) (fault other : LexFault) → NoToken offset bytes fault
    → NoToken offset bytes other → fault ≡ other
one_fault offset bytes fault other m n =
    let gaps : length m.gap ≡ length n.gap = sym (stop_len offset bytes fault m) ∙ stop_len offset bytes other n in
    let here : m.first ∷ m.after ≡ n.first ∷ n.after = sym (after_stop_gap offset bytes fault m)
    ∙ after_stop_gap offset bytes other n in
    let same : m.first ≡ n.first = cc in
    m.fault_is ∙ rw (gaps, same) (sym n.fault_is)

pub stop_is_read : (offset : ℕ) (bytes : List ℕ) (fault : LexFault) → NoToken offset bytes fault
    → first_token offset bytes ≡ Err fault
stop_is_read offset bytes fault n = go (first_token offset bytes) (first_token_means offset bytes)
  where
    go : (r : Result (Option Token) LexFault) → Means offset bytes r → r ≡ Err fault
    go (Err other) m = ap Err (one_fault offset bytes other fault m n)
    go (Ok None) h = absurd (stop_is_no_gap offset bytes fault n h)
    go (Ok (Some t)) (rest, f) = absurd (stop_is_no_token offset bytes fault n t rest f)

pub first_is_read : (offset : ℕ) (bytes : List ℕ) (t : Token) (rest : List ℕ) → IsFirst offset bytes t rest
    → first_token offset bytes ≡ Ok (Some t)
first_is_read offset bytes t rest f = go (first_token offset bytes) (first_token_means offset bytes)
  where
    go : (r : Result (Option Token) LexFault) → Means offset bytes r → r ≡ Ok (Some t)
    go (Err fault) m = absurd (stop_is_no_token offset bytes fault m t rest f)
    go (Ok None) m = absurd (gap_has_none offset bytes t rest m f)
    go (Ok (Some u)) (more, g) = ap (λ v. Ok (Some v)) (first_once offset bytes u t more rest g f).0

pub gap_is_read : (offset : ℕ) (bytes : List ℕ) → IsGap bytes → first_token offset bytes ≡ Ok None
gap_is_read offset bytes h = go (first_token offset bytes) (first_token_means offset bytes)
  where
    go : (r : Result (Option Token) LexFault) → Means offset bytes r → r ≡ Ok None
    go (Err fault) m = absurd (stop_is_no_gap offset bytes fault m h)
    go (Ok None) m = refl
    go (Ok (Some t)) (rest, f) = absurd (gap_has_none offset bytes t rest h f)
