-- What is left of a block, from the ascending numbers in it.
use Rattle.office_blocks.proofs.Common.{◌≡◌, ℕ, ◌+◌, ◌-◌, ◌<◌, ◌≤◌, true, ◌&&◌, not, List, [], ◌∷◌, length, refl, sym}
use Rattle.office_blocks.proofs.Common.{ap, ◌∙◌, arith, append-nil, count_by, flat_map, runs_of, Range, has_form}
use Rattle.office_blocks.proofs.Common.{is_taken, BlockForm, NumberForm}
use Rattle.std.proofs.Common.{◌≢◌}
use Rattle.std.proofs.lemmas.Bool.{le-leb}
use Rattle.office_types.specs.Block.{IsRange, greatest_of, least_of}
use Rattle.office_types.specs.declared.block.BlockForm.TheVariants as form
use Rattle.office_types.specs.declared.free.NumberForm.TheVariants as number
use Rattle.office_blocks.specs.Blocks.{forms_in, free_count, free_numbers, free_runs, held_count, live_count, runs_in}
use Rattle.office_blocks.specs.Blocks.{step_of}
use Rattle.office_blocks.specs.Numbers.{ArePart, left_numbers}
use Rattle.office_blocks.proofs.Counting.{count_alike, count_within, filter_alike, length_left, length_within}

-- each number of a block has the form
pub record IsFull (b : BlockForm) (f : NumberForm) : Type 0 where
  pub one : forms_in b ≡ f ∷ []
  pub near : step_of f ≡ 1
  pub all : (n : ℕ) → least_of b ≤ n → n ≤ greatest_of b → has_form f n ≡ true

full : (b : BlockForm) → b ≢ form.Pgn → (f : NumberForm) × IsFull b f
full form.Std other = (number.Std, record { one = refl; near = refl; all = λ n a b. rw (le-leb n 2047 b) refl })
full form.Ext other = (number.Ext, record { one = refl; near = refl; all = λ n a b. rw (le-leb n 536870911 b) refl })
full form.Pgn other = absurd (other refl)
full form.Spn other =
    (number.Spn, record { one = refl; near = refl; all = λ n a b. rw (le-leb n 524287 b, le-leb 1 n a) refl })

module _ (numbers part : List ℕ) (b : Range) (range : IsRange b) (is : ArePart numbers b.first b.last part) where
  abbrev len : ℕ
  len = b.last + 1 - b.first

  to_is : b.last + 1 ≡ b.first + len
  to_is = let a : b.first ≤ b.last = range.1 in omega arith

  same : (n : ℕ) → b.first ≤ n → n < b.first + len → is_taken n numbers ≡ is_taken n part
  same n low high = let e = to_is in sym (is.same n low (omega arith))

  pub live_is : length part ≡ live_count numbers b
  live_is =
      sym (length_within part len b.first (b.last + 1) to_is is.within)
      ∙ count_alike (λ n. is_taken n part) (λ n. is_taken n numbers) len b.first (λ n low high. sym (same n low high))

  pub held_is : (live : List ℕ) → count_by (λ n. not (is_taken n live)) part ≡ held_count live numbers b
  held_is live =
      sym (count_within (λ n. not (is_taken n live)) len part b.first (b.last + 1) to_is is.within)
      ∙ count_alike (λ n. is_taken n part && not (is_taken n live))
      (λ n. is_taken n numbers && not (is_taken n live)) len b.first
      (λ n low high. ap (λ t. t && not (is_taken n live)) (sym (same n low high)))

  module _ (other : b.form ≢ form.Pgn) where
    abbrev f : NumberForm
    f = (full b.form other).0

    formed : IsFull b.form f
    formed = (full b.form other).1

    free_is : free_numbers numbers b f ≡ left_numbers part b.first len
    free_is = filter_alike (λ n. has_form f n && not (is_taken n numbers)) (λ n. not (is_taken n part)) len b.first
        (λ n low high.
        let e = to_is in
        let least : least_of b.form ≤ b.first = range.0 in
        let greatest : b.last ≤ greatest_of b.form = range.2 in
        let has : has_form f n ≡ true = formed.all n (omega arith) (omega arith) in
        ap (λ t. t && not (is_taken n numbers)) has ∙ ap not (same n low high))

    pub count_is : (b.last - b.first + 1) - length part ≡ free_count numbers b
    count_is =
        let e = to_is in
        let a : b.first ≤ b.last = range.1 in
        let all = length_left part len b.first (b.last + 1) to_is is.within in
        let left : (b.last - b.first + 1) - length part ≡ length (left_numbers part b.first len) = omega arith in
        left ∙ ap length (sym free_is)
        ∙ ap length (sym (append-nil (free_numbers numbers b f)))
        ∙ ap (λ fs. length (flat_map (free_numbers numbers b) fs)) (sym formed.one)

    pub room : length part ≤ b.last - b.first + 1
    room =
        let e = to_is in
        let a : b.first ≤ b.last = range.1 in
        let all = length_left part len b.first (b.last + 1) to_is is.within in omega arith

    pub runs_are : runs_of 1 (left_numbers part b.first len) ≡ free_runs numbers b
    runs_are =
        ap (runs_of 1) (sym free_is)
        ∙ ap (λ step. runs_of step (free_numbers numbers b f)) (sym formed.near)
        ∙ sym (append-nil (runs_in numbers b f))
        ∙ ap (λ fs. flat_map (runs_in numbers b) fs) (sym formed.one)
