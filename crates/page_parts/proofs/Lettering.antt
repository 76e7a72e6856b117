-- The letters of an index.
use Rattle.std.proofs.Common.{◌≡◌, ◌+◌, ◌-◌, ◌/◌, ◌%◌, ◌<◌, ◌≤◌, ◌++◌, ◌∙◌, ℕ, zero, suc, Bool, List, [], ◌∷◌, cond}
use Rattle.std.proofs.Common.{inl, inr, sym, ap, arith}
use Rattle.std.specs.Prelude.{nat_lt}
use Rattle.std.proofs.lemmas.Bool.{cases_lt, le-ltb, lt-ltb}
use Rattle.markup.specs.Html.{escaped}
use Rattle.page_parts.specs.Letters.{first_letter, letter, letters_within}

-- the last letter
abbrev pub last : ℕ → Bool → List ℕ
last i is_small = escaped ((first_letter is_small + i % 26) ∷ [])

-- how many letters there may be makes no difference where they are enough
enough : (k l i : ℕ) (is_small : Bool) → i < k → i < l → letters_within k i is_small ≡ letters_within l i is_small
enough zero l i is_small h g = absurd (omega (arith, h))
enough (suc k) zero i is_small h g = absurd (omega (arith, g))
enough (suc k) (suc l) i is_small h g = elim (cases_lt i 26) [
  | inl few ↦
      ap (λ b. cond b [] (letters_within k (i / 26 - 1) is_small) ++ last i is_small) (lt-ltb i 26 few)
      ∙ sym (ap (λ b. cond b [] (letters_within l (i / 26 - 1) is_small) ++ last i is_small) (lt-ltb i 26 few))
  | inr many ↦
      ap (λ v. cond (nat_lt i 26) [] v ++ last i is_small)
      (enough k l (i / 26 - 1) is_small (omega (arith, h, many)) (omega (arith, g, many)))
]

pub one_letter : (i : ℕ) (is_small : Bool) → i < 26 → letter i is_small ≡ last i is_small
unfolding letter
one_letter i is_small few =
    ap (λ b. cond b [] (letters_within i (i / 26 - 1) is_small) ++ last i is_small) (lt-ltb i 26 few)

pub more_letters : (i : ℕ) (is_small : Bool) → 26 ≤ i
    → letter i is_small ≡ letter (i / 26 - 1) is_small ++ last i is_small
unfolding letter
more_letters i is_small many =
    ap (λ b. cond b [] (letters_within i (i / 26 - 1) is_small) ++ last i is_small) (le-ltb i 26 many)
    ∙ ap (λ v. v ++ last i is_small)
    (enough i (suc (i / 26 - 1)) (i / 26 - 1) is_small (omega (arith, many)) (omega arith))
