-- What is said of a block depends only on which numbers are live and which are taken.
use Rattle.office_blocks.proofs.Common.{◌≡◌, ℕ, ◌+◌, ◌-◌, ◌&&◌, List, [], ◌∷◌, ◌++◌, not, length, refl, ap, ◌∙◌}
use Rattle.office_blocks.proofs.Common.{flat_map, runs_of, Run, Range, has_form, is_taken, BlockForm, NumberForm}
use Rattle.office_blocks.proofs.Common.{GrantedBlock, View}
use Rattle.office_types.specs.Block.{block_word}
use Rattle.office_blocks.specs.Blocks.{block_row, forms_in, free_count, free_numbers, free_runs, held_count, live_count}
use Rattle.office_blocks.specs.Blocks.{live_numbers, row_with, runs_in, step_of, taken_numbers}
use Rattle.office_blocks.specs.Numbers.{AreNumbersOf, AreOf, of_form}
use Rattle.office_blocks.specs.declared.numbers.FormNumbers.{FormNumbers}
use Rattle.office_blocks.specs.declared.numbers.Numbers.{Numbers}
use Rattle.office_blocks.proofs.Counting.{count_alike, filter_alike}
use Rattle.rows.specs.Fact.{Fact, of_free, of_name, of_number, of_word}

flat_map_alike : {X A : Type 0} (f g : X → List A) (xs : List X) → ((x : X) → f x ≡ g x) → flat_map f xs ≡ flat_map g xs
flat_map_alike f g [] e = refl
flat_map_alike f g (x ∷ xs) e = ap (λ v. v ++ flat_map f xs) (e x) ∙ ap (λ v. g x ++ v) (flat_map_alike f g xs e)

module _ (live taken : List ℕ) (numbers : FormNumbers) (are : AreOf live taken numbers) where
  live_same : (b : Range) → live_count numbers.live b ≡ live_count live b
  live_same b = count_alike (λ n. is_taken n numbers.live) (λ n. is_taken n live) (b.last + 1 - b.first) b.first
      (λ n low high. are.same_live n)

  held_same : (b : Range) → held_count numbers.live numbers.taken b ≡ held_count live taken b
  held_same b = count_alike (λ n. is_taken n numbers.taken && not (is_taken n numbers.live))
      (λ n. is_taken n taken && not (is_taken n live)) (b.last + 1 - b.first) b.first
      (λ n low high. ap (λ t. t && not (is_taken n numbers.live)) (are.same_taken n)
      ∙ ap (λ t. is_taken n taken && not t) (are.same_live n))

  free_same : (b : Range) (form : NumberForm) → free_numbers numbers.taken b form ≡ free_numbers taken b form
  free_same b form = filter_alike (λ n. has_form form n && not (is_taken n numbers.taken))
      (λ n. has_form form n && not (is_taken n taken)) (b.last + 1 - b.first) b.first
      (λ n low high. ap (λ t. has_form form n && not t) (are.same_taken n))

  pub count_same : (b : Range) → free_count numbers.taken b ≡ free_count taken b
  count_same b =
      ap length (flat_map_alike (free_numbers numbers.taken b) (free_numbers taken b) (forms_in b.form) (free_same b))

  runs_same : (b : Range) → free_runs numbers.taken b ≡ free_runs taken b
  runs_same b = flat_map_alike (runs_in numbers.taken b) (runs_in taken b) (forms_in b.form)
      (λ form. ap (runs_of (step_of form)) (free_same b form))

  row_same : (g : GrantedBlock) → row_with numbers.live numbers.taken g ≡ row_with live taken g
  row_same g =
      let b = g.block in
      let row : ℕ → ℕ → ℕ → List Run → List Fact =
      λ l h f rs. of_name (block_word b.form) ∷ of_number b.first ∷ of_number b.last ∷ of_word g.team
      ∷ of_number l ∷ of_number h ∷ of_number f ∷ of_free rs ∷ [] in
      ap (λ l. row l (held_count numbers.live numbers.taken b) (free_count numbers.taken b) (free_runs numbers.taken b))
      (live_same b)
      ∙ ap (λ h. row (live_count live b) h (free_count numbers.taken b) (free_runs numbers.taken b)) (held_same b)
      ∙ ap (λ f. row (live_count live b) (held_count live taken b) f (free_runs numbers.taken b)) (count_same b)
      ∙ ap (row (live_count live b) (held_count live taken b) (free_count taken b)) (runs_same b)

pub row_is : (view : View) (numbers : Numbers) (g : GrantedBlock) → AreNumbersOf view numbers
    → row_with (of_form g.block.form numbers).live (of_form g.block.form numbers).taken g ≡ block_row view g
row_is view numbers g are =
    let form = g.block.form in
    row_same (live_numbers form view) (taken_numbers form view) (of_form form numbers) (are form) g

pub free_is : (view : View) (numbers : Numbers) (form : BlockForm) (b : Range) → AreNumbersOf view numbers
    → free_count (of_form form numbers).taken b ≡ free_count (taken_numbers form view) b
free_is view numbers form b are =
    count_same (live_numbers form view) (taken_numbers form view) (of_form form numbers) (are form) b
