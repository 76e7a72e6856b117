-- What is left depends on which numbers are live and taken, and not on their order.
use Rattle.page_numbers.proofs.Common.{◌≡◌, ◌&&◌, not, ℕ, List, length, map, sum, flat_map, runs_of, has_form}
use Rattle.page_numbers.proofs.Common.{NumberForm, GrantedBlock, free_numbers, numbers_in, HaveSame, names_of}
use Rattle.std.specs.Prelude.{count_by, filter}
use Rattle.office_blocks.specs.Numbers.{AreNumbersOf}
use Rattle.office_blocks.specs.declared.numbers.Numbers.{Numbers}
use Rattle.office_seen.specs.declared.view.View.{View}
use Rattle.page_parts.specs.declared.subject.Subject.{Subject}
use Rattle.page_numbers.specs.Counts.{Known, counts_in, known_in, known_of, left_of}
use Rattle.page_numbers.specs.Left.{all_rows, forms, row_if}
use Rattle.page_numbers.specs.Tally.{block_form, blocks_of, held_at, live_at}

module _ (a b : Known) (live : HaveSame a.live b.live) (taken : HaveSame a.taken b.taken) (kind : NumberForm) where
  live_same : (g : GrantedBlock) → live_at a.live kind g ≡ live_at b.live kind g
  live_same g = λ i. count_by (λ n. live n i && has_form kind n) (numbers_in g.block)

  held_same : (g : GrantedBlock) → held_at a.live a.taken kind g ≡ held_at b.live b.taken kind g
  held_same g = λ i. count_by (λ n. taken n i && (has_form kind n && not (live n i))) (numbers_in g.block)

  free_same : (g : GrantedBlock) → free_numbers a.taken g.block kind ≡ free_numbers b.taken g.block kind
  free_same g = λ i. filter (λ n. has_form kind n && not (taken n i)) (numbers_in g.block)

  counts_same : (gs : List GrantedBlock) → counts_in a kind gs ≡ counts_in b kind gs
  counts_same gs = λ i. record {
    live = sum (map (λ g. live_same g i) gs);
    held = sum (map (λ g. held_same g i) gs);
    free = sum (map (λ g. length (free_same g i)) gs);
    runs = flat_map (λ g. runs_of 1 (free_same g i)) gs;
  }

module _ (view : View) (numbers : Numbers) (are : AreNumbersOf view numbers) where
  left_same : (blocks : List GrantedBlock) (team : List ℕ) (kind : NumberForm)
      → left_of (known_in numbers) blocks team kind ≡ left_of (known_of view) blocks team kind
  left_same blocks team kind =
      let form = block_form kind in
      counts_same (known_in numbers form) (known_of view form) (are form).same_live (are form).same_taken kind
      (blocks_of blocks team kind)

  pub rows_same : (subject : Subject) → all_rows (known_in numbers) subject ≡ all_rows (known_of view) subject
  rows_same subject =
      let names = names_of subject in
      λ i. flat_map (λ team. flat_map (λ kind. row_if names team kind (left_same subject.blocks.now team kind i)) forms)
      names
