-- A number, looked for in blocks that are in order.
use Rattle.office_import.proofs.Common.{◌≡◌, ◌≤◌, Bool, true, false, cond, ℕ, List, length, get_or, refl, sym, ◌∙◌}
use Rattle.office_import.proofs.Common.{arith, false≢true, nat_tests}
use Rattle.std.proofs.Common.{Result, Ok, Err, inl, inr}
use Rattle.std.specs.Prelude.{nat_lt, is_ok}
use Rattle.std.specs.List.{AllAdjacentBelow}
use Rattle.std.specs.List.Sorted.{IsBinarySearchResult, IsNonDecreasingBy, IsSearchInRange}
use Rattle.std.specs.Ordering.{ordering_index}
use Rattle.std.specs.declared.cmp.Ordering.TheVariants.{Less, Equal, Greater}
use Rattle.std.proofs.lemmas.Bool.{cases_lt}
use Rattle.std.proofs.lemmas.List.Folds.{list_any_at, list_any_none}
use Rattle.std.proofs.lemmas.List.Sorted.{IsNonDecreasingBy-from_all_adjacent}
use Rattle.office_types.specs.Block.{in_block}
use Rattle.office_types.specs.declared.block.Block.{Block}
use Rattle.office_rules.specs.Facts.{lies_in}
use Rattle.office_import.specs.Rising.{AreRising, side}

-- a block is at the number where it has it

has_it : (n : ℕ) (b : Block) (p q : Bool) → nat_lt b.last n ≡ p → nat_lt n b.first ≡ q
    → cond p Less (cond q Greater Equal) ≡ Equal → in_block n b ≡ true
has_it n b true q e f h = cc
has_it n b false true e f h = cc
has_it n b false false e f h = grind (arith, nat_tests)

has_not : (n : ℕ) (b : Block) (p q : Bool) → nat_lt b.last n ≡ p → nat_lt n b.first ≡ q
    → (cond p Less (cond q Greater Equal) ≡ Equal → false ≡ true) → in_block n b ≡ false
has_not n b true q e f h = grind (arith, nat_tests)
has_not n b false true e f h = grind (arith, nat_tests)
has_not n b false false e f h = absurd (false≢true (h refl))

at_it : (n : ℕ) (b : Block) → side n b ≡ Equal → in_block n b ≡ true
at_it n b h = has_it n b (nat_lt b.last n) (nat_lt n b.first) refl refl h

before_it : (n : ℕ) (b : Block) → side n b ≡ Less → in_block n b ≡ false
before_it n b h = has_not n b (nat_lt b.last n) (nat_lt n b.first) refl refl
    (λ e. absurd (let no : Less ≡ Equal = sym h ∙ e in cc))

after_it : (n : ℕ) (b : Block) → side n b ≡ Greater → in_block n b ≡ false
after_it n b h = has_not n b (nat_lt b.last n) (nat_lt n b.first) refl refl
    (λ e. absurd (let no : Greater ≡ Equal = sym h ∙ e in cc))

-- a later block isn't before the number where an earlier one isn't, and is after it where that one is

sides_rise : (n : ℕ) (a b : Block) → a.first ≤ b.first → a.last ≤ b.last → (p q r s : Bool) → nat_lt a.last n ≡ p
    → nat_lt n a.first ≡ q → nat_lt b.last n ≡ r → nat_lt n b.first ≡ s
    → ordering_index (cond p Less (cond q Greater Equal)) ≤ ordering_index (cond r Less (cond s Greater Equal))
sides_rise n a b f l true q r s ep eq er es = omega arith
sides_rise n a b f l false q true s ep eq er es = absurd (grind (arith, nat_tests))
sides_rise n a b f l false false false s ep eq er es = cases s
  where
    cases : (s : Bool) → 1 ≤ ordering_index (cond s Greater Equal)
    cases true = omega arith
    cases false = omega arith
sides_rise n a b f l false true false true ep eq er es = omega arith
sides_rise n a b f l false true false false ep eq er es = absurd (grind (arith, nat_tests))

rises : (n : ℕ) (bs : List Block) → AreRising bs → IsNonDecreasingBy (λ b. ordering_index (side n b)) bs
rises n bs h = λ i j d le lt.
    let a = get_or bs i d in
    let b = get_or bs j d in
    sides_rise n a b (h.firsts i j d le lt) (h.lasts i j d le lt) (nat_lt a.last n) (nat_lt n a.first) (nat_lt b.last n)
    (nat_lt n b.first) refl refl refl refl

nowhere : Block
nowhere = record { first = 0; last = 0 }

-- the search ends at a block that has the number, or none has it
pub searched : (n : ℕ) (bs : List Block) (r : Result ℕ ℕ) → AreRising bs → IsSearchInRange r (length bs)
    → IsBinarySearchResult (side n) bs r → is_ok r ≡ lies_in n bs
searched n bs (Ok i) rising within at =
    sym (list_any_at (in_block n) bs i nowhere within (at_it n (get_or bs i nowhere) (at nowhere)))
searched n bs (Err i) rising within splits =
    let parts = splits (rises n bs rising) in
    sym (list_any_none (in_block n) bs (λ k d lt. elim (cases_lt k i) [
      | inl below ↦ before_it n (get_or bs k d) (parts.0 k d (omega arith) below)
      | inr above ↦ after_it n (get_or bs k d) (parts.1 k d above lt)
    ]))

-- no number falls from a block to the next one, up to an index
abbrev pub Rises : List Block → ℕ → Type 0
Rises bs i = AllAdjacentBelow (λ a b. (a.first ≤ b.first) × (a.last ≤ b.last)) bs i

pub are_rising : (bs : List Block) (i : ℕ) → length bs ≤ i → Rises bs i → AreRising bs
are_rising bs i le h = record {
  firsts = IsNonDecreasingBy-from_all_adjacent (λ b. b.first) bs (λ k d lt. (h k d (omega (arith, le, lt))).0);
  lasts = IsNonDecreasingBy-from_all_adjacent (λ b. b.last) bs (λ k d lt. (h k d (omega (arith, le, lt))).1);
}
