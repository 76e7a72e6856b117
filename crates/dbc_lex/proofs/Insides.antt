-- The bytes between the quotes of a text, as a loop over them reads them.
use Rattle.std.proofs.Common.{◌≡◌, ◌≢◌, ℕ, suc, ◌+◌, ◌≤◌, ◌<◌, inl, inr, Bool, true, false, eqb, List, ◌∷◌, length}
use Rattle.std.proofs.Common.{get_or, drop, Option, Some, None, refl, sym, ap, subst, ◌∙◌, arith, add-zero, eq-eqb}
use Rattle.std.specs.Option.{option_map}
use Rattle.dbc_lex.specs.Offset.{further_by}
use Rattle.std.proofs.lemmas.Bool.{cases_lt, ne_eqb}
use Rattle.std.proofs.lemmas.List.{drop_more, drop_all}
use Rattle.dbc_grammar.specs.Lexing.{inside_len}

-- one byte more, counted first or last
one_further : (n : ℕ) (o : Option ℕ) → further_by (n + 1) o ≡ further_by n (option_map suc o)
one_further n None = refl
one_further n (Some k) = let e : n + 1 + k ≡ n + suc k = omega arith in ap (λ m. Some m) e

module _ (bytes : List ℕ) (n : ℕ) (total : Option ℕ) (there : n < length bytes) where
  -- past a byte that a backslash takes
  pub past_escaped : further_by n (inside_len true (drop n bytes)) ≡ total
      → further_by (n + 1) (inside_len false (drop (n + 1) bytes)) ≡ total
  unfolding inside_len
  past_escaped h = one_further n (inside_len false (drop (n + 1) bytes))
      ∙ ap (λ v. further_by n (inside_len true v)) (sym (drop_more bytes n 0 there)) ∙ h

  -- past any other byte but a quote
  pub past_plain : eqb (get_or bytes n 0) 34 ≡ false → further_by n (inside_len false (drop n bytes)) ≡ total
      → further_by (n + 1) (inside_len (eqb (get_or bytes n 0) 92) (drop (n + 1) bytes)) ≡ total
  unfolding inside_len
  past_plain other h =
      let next = inside_len (eqb (get_or bytes n 0) 92) (drop (n + 1) bytes) in
      let here : further_by n (inside_len false (get_or bytes n 0 ∷ drop (n + 1) bytes))
      ≡ further_by n (option_map suc next) = rw other refl in
      one_further n next ∙ sym here ∙ ap (λ v. further_by n (inside_len false v)) (sym (drop_more bytes n 0 there)) ∙ h

  -- at the quote that ends the text
  pub at_quote : eqb (get_or bytes n 0) 34 ≡ true → further_by n (inside_len false (drop n bytes)) ≡ total
      → Some n ≡ total
  unfolding inside_len
  at_quote quote h =
      let here : further_by n (inside_len false (get_or bytes n 0 ∷ drop (n + 1) bytes)) ≡ Some n =
      rw quote (ap (λ m. Some m) (add-zero n)) in
      sym here ∙ ap (λ v. further_by n (inside_len false v)) (sym (drop_more bytes n 0 there)) ∙ h

-- after the last byte
pub at_end : (bytes : List ℕ) (n : ℕ) (escaped : Bool) (total : Option ℕ) → length bytes ≤ n
    → further_by n (inside_len escaped (drop n bytes)) ≡ total → None ≡ total
unfolding inside_len
at_end bytes n escaped total le h = ap (λ v. further_by n (inside_len escaped v)) (sym (drop_all n bytes le)) ∙ h

-- no quote is found there
nothing_after : (bytes : List ℕ) (n : ℕ) → length bytes ≤ n → further_by n (inside_len false (drop n bytes)) ≡ None
nothing_after bytes n le = sym (at_end bytes n false (further_by n (inside_len false (drop n bytes))) le refl)

-- past a backslash and the byte that it takes, if there is one
pub past_backslash : (bytes : List ℕ) (n : ℕ) (total : Option ℕ) → n < length bytes → get_or bytes n 0 ≡ 92
    → further_by n (inside_len false (drop n bytes)) ≡ total
    → further_by (n + 2) (inside_len false (drop (n + 2) bytes)) ≡ total
past_backslash bytes n total there is h =
    let no_quote : eqb (get_or bytes n 0) 34 ≡ false = rw is refl in
    let taken = subst (λ b. further_by (n + 1) (inside_len b (drop (n + 1) bytes)) ≡ total) (eq-eqb _ 92 is)
    (past_plain bytes n total there no_quote h) in
    elim (cases_lt (n + 1) (length bytes)) [
      | inl more ↦
          let on : n + 1 + 1 ≡ n + 2 = omega arith in
          subst (λ m. further_by m (inside_len false (drop m bytes)) ≡ total) on
          (past_escaped bytes (n + 1) total more taken)
      | inr last ↦ nothing_after bytes (n + 2) (omega (arith, last)) ∙ at_end bytes (n + 1) true total last taken
    ]

-- past any other byte
pub past_other : (bytes : List ℕ) (n : ℕ) (total : Option ℕ) → n < length bytes → get_or bytes n 0 ≢ 34
    → get_or bytes n 0 ≢ 92
    → further_by n (inside_len false (drop n bytes)) ≡ total
    → further_by (n + 1) (inside_len false (drop (n + 1) bytes)) ≡ total
past_other bytes n total there no_quote no_backslash h =
    subst (λ b. further_by (n + 1) (inside_len b (drop (n + 1) bytes)) ≡ total) (ne_eqb _ 92 no_backslash)
    (past_plain bytes n total there (ne_eqb _ 34 no_quote) h)
