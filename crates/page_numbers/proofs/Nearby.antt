-- The first block that has a number, among fewer blocks.
use Rattle.page_numbers.proofs.Common.{◌≡◌, ℕ, zero, suc, ◌<◌, ◌≤◌, ◌&&◌, Bool, true, false, cond, List, [], ◌∷◌, drop}
use Rattle.page_numbers.proofs.Common.{take, get_or, length, None, Some, refl, ap, sym, ◌∙◌, arith, leb, find}
use Rattle.page_numbers.proofs.Common.{and_parts, same_form, BlockForm, GrantedBlock, has_number_in}
use Rattle.std.specs.List.{list_any}
use Rattle.std.proofs.lemmas.Bool.{and_from, both_ways, false_from_ne_true, leb-true, le-leb, or_from, or_parts}
use Rattle.office_types.specs.Block.{form_number}
use Rattle.page_numbers.specs.Charts.{is_near}
use Rattle.page_numbers.specs.Ordered.{high, key, low}
use Rattle.page_numbers.proofs.InBlocks.{same_block}

module _ {X : Type 0} (p q : X → Bool) (so : (x : X) → q x ≡ true → p x ≡ true) where
  failed : (x : X) → p x ≡ false → q x ≡ false
  failed x e = false_from_ne_true (q x) (λ h. both_ways (p x) e (so x h))

  -- without the first items, which fail
  pub after : (i : ℕ) (xs : List X) → list_any p (take i xs) ≡ false → find q (drop i xs) ≡ find q xs
  after zero xs e = refl
  after (suc i) [] e = refl
  after (suc i) (x ∷ xs) e =
      let parts = or_parts (p x) (list_any p (take i xs)) e in
      after i xs parts.1 ∙ sym (ap (λ b. cond b (Some x) (find q xs)) (failed x parts.0))

  none : (xs : List X) → list_any p xs ≡ false → find q xs ≡ None
  none [] e = refl
  none (x ∷ xs) e =
      let parts = or_parts (p x) (list_any p xs) e in
      ap (λ b. cond b (Some x) (find q xs)) (failed x parts.0) ∙ none xs parts.1

  -- without the last items, which fail
  pub before : (i : ℕ) (xs : List X) → list_any p (drop i xs) ≡ false → find q (take i xs) ≡ find q xs
  before zero xs e = sym (none xs e)
  before (suc i) [] e = refl
  before (suc i) (x ∷ xs) e = ap (λ r. cond (q x) (Some x) r) (before i xs e)

pub near : (form : BlockForm) (first last n : ℕ) → first ≤ n → n ≤ last → (g : GrantedBlock)
    → has_number_in form n g ≡ true → is_near form first last g ≡ true
near form first last n low high g h =
    let of_form = and_parts (same_form g.block.form form) (leb g.block.first n && leb n g.block.last) h in
    let within = and_parts (leb g.block.first n) (leb n g.block.last) of_form.1 in
    let from = leb-true g.block.first n within.0 in
    let until = leb-true n g.block.last within.1 in
    and_from _ _ of_form.0
    (and_from _ _ (le-leb g.block.first last (omega arith)) (le-leb first g.block.last (omega arith)))

-- ---- blocks in order

-- the first items, and all but the first ones, fail
pub none_before : {X : Type 0} (q : X → Bool) (i : ℕ) (xs : List X)
    → ((k : ℕ) (d : X) → k < i → q (get_or xs k d) ≡ false) → i ≤ length xs → list_any q (take i xs) ≡ false
none_before q zero xs fails h = refl
none_before q (suc i) [] fails h = refl
none_before q (suc i) (x ∷ xs) fails h =
    or_from (q x) (list_any q (take i xs)) (fails 0 x (omega arith))
    (none_before q i xs (λ k d below. fails (suc k) d (omega arith)) (omega arith))

pub none_after : {X : Type 0} (q : X → Bool) (i : ℕ) (xs : List X)
    → ((k : ℕ) (d : X) → i ≤ k → k < length xs → q (get_or xs k d) ≡ false) → list_any q (drop i xs) ≡ false
none_after q zero [] fails = refl
none_after q zero (x ∷ xs) fails =
    or_from (q x) (list_any q xs) (fails 0 x (omega arith) (omega arith))
    (none_after q zero xs (λ k d above below. fails (suc k) d (omega arith) (omega arith)))
none_after q (suc i) [] fails = refl
none_after q (suc i) (x ∷ xs) fails =
    none_after q i xs (λ k d above below. fails (suc k) d (omega arith) (omega arith))

-- a block that ends before, or begins after
pub ends_before : (form : BlockForm) (first last : ℕ) (g : GrantedBlock) → high g < key form first
    → is_near form first last g ≡ false
ends_before form first last g below = false_from_ne_true (is_near form first last g) (λ h.
    let parts = and_parts (same_form g.block.form form) (leb g.block.first last && leb first g.block.last) h in
    let within = and_parts (leb g.block.first last) (leb first g.block.last) parts.1 in
    let until = leb-true first g.block.last within.1 in
    let same : form_number g.block.form ≡ form_number form = ap form_number (same_block g.block.form form parts.0) in
    absurd (omega arith))

pub begins_after : (form : BlockForm) (first last : ℕ) (g : GrantedBlock) → key form last < low g
    → is_near form first last g ≡ false
begins_after form first last g above = false_from_ne_true (is_near form first last g) (λ h.
    let parts = and_parts (same_form g.block.form form) (leb g.block.first last && leb first g.block.last) h in
    let within = and_parts (leb g.block.first last) (leb first g.block.last) parts.1 in
    let from = leb-true g.block.first last within.0 in
    let same : form_number g.block.form ≡ form_number form = ap form_number (same_block g.block.form form parts.0) in
    absurd (omega arith))
