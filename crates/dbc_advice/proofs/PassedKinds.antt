-- The lines of the kinds of skipped statements, after one more statement.
use Rattle.dbc_advice.proofs.Common.{◌≡◌, ◌+◌, ◌<◌, ◌||◌, ℕ, Bool, true, false, List, [], ◌∷◌, ◌++◌, length, take}
use Rattle.dbc_advice.proofs.Common.{get_or, refl, sym, ap, ◌∙◌, append_assoc, if◌then◌else◌, enumerate_from, flat_map}
use Rattle.dbc_advice.proofs.Common.{list_any, bytes_eq, at_drop_more, list_any-append, bytes_eq-Decides, Passed}
use Rattle.std.proofs.lemmas.List.Folds.{list_any_more}
use Rattle.dbc_words.specs.Keyword.{keyword_text}
use Rattle.dbc_words.specs.declared.keyword.Keyword.{Keyword}
use Rattle.dbc_advice.specs.LeftOut.{count_text, has_keyword, kind_count, kind_text, kinds_text, passed_line}

-- these have the keywords of the statements up to an index
abbrev pub HaveKeywords : List Passed → List Passed → ℕ → Type 0
HaveKeywords firsts passed i = (k : Keyword) → has_keyword k firsts ≡ has_keyword k (take i passed)

-- the statement has the keyword
abbrev is_of : Keyword → Passed → Bool
is_of k p = bytes_eq (keyword_text p.keyword) (keyword_text k)

-- what is true already
or_same : (a b : Bool) → (b ≡ true → a ≡ true) → a ≡ (a || b)
or_same true b h = refl
or_same false true h = h refl
or_same false false h = refl

or_false : (a : Bool) → (a || false) ≡ a
or_false true = refl
or_false false = refl

-- one more, whose keyword none of them has, is added
pub keywords_added : (firsts new passed : List Passed) (i : ℕ) (d : Passed) → i < length passed
    → HaveKeywords firsts passed i → new ≡ firsts ++ get_or passed i d ∷ [] → HaveKeywords new passed (i + 1)
keywords_added firsts new passed i d lt have is = λ k.
    let p = get_or passed i d in
    ap (has_keyword k) is ∙ list_any-append (is_of k) firsts (p ∷ [])
    ∙ ap (λ (b : Bool). has_keyword k firsts || b) (or_false (is_of k p))
    ∙ ap (λ (b : Bool). b || is_of k p) (have k) ∙ sym (list_any_more (is_of k) passed i d lt)

-- whether one of them has the text of a keyword
abbrev has_text : List Passed → List ℕ → Bool
has_text firsts t = list_any (λ (q : Passed). bytes_eq (keyword_text q.keyword) t) firsts

-- one of them has the keyword of one more
pub keywords_kept : (firsts passed : List Passed) (i : ℕ) (d : Passed) → i < length passed
    → HaveKeywords firsts passed i → has_keyword (get_or passed i d).keyword firsts ≡ true
    → HaveKeywords firsts passed (i + 1)
keywords_kept firsts passed i d lt have there = λ k.
    let p = get_or passed i d in
    or_same (has_keyword k firsts) (is_of k p)
    (λ is. ap (has_text firsts) (sym ((bytes_eq-Decides (keyword_text p.keyword) (keyword_text k)).0 is)) ∙ there)
    ∙ ap (λ (b : Bool). b || is_of k p) (have k) ∙ sym (list_any_more (is_of k) passed i d lt)

module _ (file text : List ℕ) where
  -- the text of the kinds from an index on begins with that of the statement at the index
  kinds_step : (passed : List Passed) (i : ℕ) (d : Passed) → i < length passed
      → kinds_text file text passed i ≡ kind_text file text passed (i, get_or passed i d) ++ kinds_text file text passed
      (i + 1)
  kinds_step passed i d lt =
      at_drop_more (λ (ps : List Passed). flat_map (kind_text file text passed) (enumerate_from i ps)) passed i d lt

  -- the text of a statement, by whether one before it has its keyword
  abbrev text_if : List Passed → Passed → Bool → List ℕ
  text_if passed p there = if there then [] else passed_line file text p (count_text (kind_count p.keyword passed))

  -- the line of a statement whose keyword none of them has
  pub line_added : (firsts passed : List Passed) (i : ℕ) (d : Passed) (lines line new : List ℕ) → i < length passed
      → HaveKeywords firsts passed i
      → has_keyword (get_or passed i d).keyword firsts ≡ false
      → line ≡ passed_line file text (get_or passed i d) (count_text (kind_count (get_or passed i d).keyword passed))
      → new ≡ lines ++ line → lines ++ kinds_text file text passed i ≡ kinds_text file text passed 0
      → new ++ kinds_text file text passed (i + 1) ≡ kinds_text file text passed 0
  line_added firsts passed i d lines line new lt have absent is e before =
      let p = get_or passed i d in
      let here : kind_text file text passed (i, p) ≡ line = ap (text_if passed p) (sym (have p.keyword) ∙ absent)
      ∙ sym is in
      ap (λ (v : List ℕ). v ++ kinds_text file text passed (i + 1)) e
      ∙ append_assoc lines line (kinds_text file text passed (i + 1))
      ∙ ap (λ (v : List ℕ). lines ++ (v ++ kinds_text file text passed (i + 1))) (sym here)
      ∙ ap (λ (v : List ℕ). lines ++ v) (sym (kinds_step passed i d lt)) ∙ before

  -- a statement whose keyword one of them has adds none
  pub line_kept : (firsts passed : List Passed) (i : ℕ) (d : Passed) (lines : List ℕ) → i < length passed
      → HaveKeywords firsts passed i
      → has_keyword (get_or passed i d).keyword firsts ≡ true
      → lines ++ kinds_text file text passed i ≡ kinds_text file text passed 0
      → lines ++ kinds_text file text passed (i + 1) ≡ kinds_text file text passed 0
  line_kept firsts passed i d lines lt have there before =
      let p = get_or passed i d in
      let here : kind_text file text passed (i, p) ≡ [] = ap (text_if passed p) (sym (have p.keyword) ∙ there) in
      ap (λ (v : List ℕ). lines ++ (v ++ kinds_text file text passed (i + 1))) (sym here)
      ∙ ap (λ (v : List ℕ). lines ++ v) (sym (kinds_step passed i d lt)) ∙ before
