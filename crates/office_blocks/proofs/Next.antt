-- The first run of the free numbers of a block.
use Rattle.office_blocks.proofs.Common.{◌≡◌, ℕ, zero, suc, ◌+◌, ◌-◌, ◌&&◌, Bool, true, false, List, [], ◌∷◌, Some, None}
use Rattle.office_blocks.proofs.Common.{cond, not, refl, ap, ◌∙◌, arith, ◌==◌, if◌then◌else◌, filter, range_with_len}
use Rattle.office_blocks.proofs.Common.{joined, runs_of, Run, Range, has_form, is_taken, least_free, NumberForm}
use Rattle.std.proofs.Common.{Option, option_map, slice_get}
use Rattle.office_rules.specs.Facts.{numbers_of}
use Rattle.office_types.specs.Free.{lesser_of}
use Rattle.office_types.specs.Least.{least_from}
use Rattle.office_blocks.specs.Blocks.{free_numbers, runs_in, step_of}

joined_if : (b : Bool) (n : ℕ) (r : Run) (runs : List Run)
    → option_map (λ (r : Run). r.first)
    (slice_get (if b then record { first = n; last = r.last } ∷ runs else record { first = n; last = n } ∷ r ∷ runs) 0)
    ≡ Some n
joined_if true n r runs = refl
joined_if false n r runs = refl

joined_first : (step n : ℕ) (runs : List Run)
    → option_map (λ (r : Run). r.first) (slice_get (joined step n runs) 0) ≡ Some n
joined_first step n [] = refl
joined_first step n (r ∷ runs) = joined_if (r.first == n + step) n r runs

runs_first : (step : ℕ) (ns : List ℕ)
    → option_map (λ (r : Run). r.first) (slice_get (runs_of step ns) 0) ≡ slice_get ns 0
runs_first step [] = refl
runs_first step (n ∷ ns) = joined_first step n (runs_of step ns)

first_if : (b : Bool) (n : ℕ) (ns : List ℕ) (o : Option ℕ) → slice_get ns 0 ≡ o
    → slice_get (cond b (n ∷ ns) ns) 0 ≡ elim b [ true ↦ Some n | false ↦ o ]
first_if true n ns o e = refl
first_if false n ns o e = e

filter_first : (p : ℕ → Bool) (len from : ℕ) → slice_get (filter p (range_with_len from len)) 0 ≡ least_from p len from
filter_first p zero from = refl
filter_first p (suc len) from =
    let next : from + 1 ≡ suc from = omega arith in
    first_if (p from) from (filter p (range_with_len (from + 1) len)) (least_from p len (suc from))
    (filter_first p len (from + 1) ∙ ap (least_from p len) next)

alone : (o : Option ℕ) → o ≡ lesser_of o None
alone None = refl
alone (Some n) = refl

pub first_run_is : (taken : List ℕ) (b : Range) (form : NumberForm)
    → option_map (λ (r : Run). r.first) (slice_get (runs_in taken b form) 0)
    ≡ least_free taken (numbers_of b ∷ []) form
first_run_is taken b form =
    runs_first (step_of form) (free_numbers taken b form)
    ∙ filter_first (λ n. has_form form n && not (is_taken n taken)) (b.last + 1 - b.first) b.first
    ∙ alone (least_from (λ n. has_form form n && not (is_taken n taken)) (b.last + 1 - b.first) b.first)
