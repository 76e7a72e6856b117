-- Numbers in a block, counted over the ascending ones that are in it, and by which numbers are there.
use Rattle.page_numbers.proofs.Common.{◌≡◌, ◌+◌, ◌-◌, ◌≤◌, ◌^◌, ◌&&◌, not, ℕ, Bool, true, false, List, [], ◌∷◌, length}
use Rattle.page_numbers.proofs.Common.{refl, sym, ap, ◌∙◌, arith, append-nil, count_by, flat_map, and_parts, false≢true}
use Rattle.page_numbers.proofs.Common.{length-filter, runs_of, same_form, has_form, is_taken, BlockForm, NumberForm}
use Rattle.page_numbers.proofs.Common.{GrantedBlock, free_numbers, numbers_in}
use Rattle.std.specs.Str.{bytes_eq}
use Rattle.std.proofs.lemmas.List.FromFn.{length-range_with_len}
use Rattle.std.proofs.lemmas.List.Sums.{count_by-le-length}
use Rattle.office_types.specs.Block.{IsRange, Range, greatest_of}
use Rattle.office_types.specs.declared.block.BlockForm.TheVariants as form
use Rattle.office_types.specs.declared.free.NumberForm.TheVariants as number
use Rattle.office_blocks.specs.Blocks.{forms_in, free_count, free_runs, runs_in, step_of}
use Rattle.office_blocks.specs.Numbers.{ArePart}
use Rattle.office_blocks.proofs.Counting.{count_alike, count_within}
use Rattle.page_numbers.specs.Tally.{block_form, free_at, held_at, is_beside, is_group, is_of, live_at}

-- those of the list in the block that pass a test
pub counted_in : (numbers part : List ℕ) (b : Range) → IsRange b → ArePart numbers b.first b.last part
    → (q : ℕ → Bool) → count_by q part ≡ count_by (λ n. is_taken n numbers && q n) (numbers_in b)
counted_in numbers part b range is q =
    let ordered : b.first ≤ b.last = range.1 in
    let until : b.last + 1 ≡ b.first + (b.last + 1 - b.first) = omega arith in
    sym (count_within q (b.last + 1 - b.first) part b.first (b.last + 1) until is.within)
    ∙ count_alike (λ n. is_taken n part && q n) (λ n. is_taken n numbers && q n) (b.last + 1 - b.first) b.first
    (λ n low high. ap (λ t. t && q n) (is.same n low (omega arith)))

-- ---- blocks of the form

pub same_block : (a b : BlockForm) → same_form a b ≡ true → a ≡ b
same_block form.Std form.Std h = refl
same_block form.Std form.Ext h = absurd (false≢true h)
same_block form.Std form.Pgn h = absurd (false≢true h)
same_block form.Std form.Spn h = absurd (false≢true h)
same_block form.Ext form.Std h = absurd (false≢true h)
same_block form.Ext form.Ext h = refl
same_block form.Ext form.Pgn h = absurd (false≢true h)
same_block form.Ext form.Spn h = absurd (false≢true h)
same_block form.Pgn form.Std h = absurd (false≢true h)
same_block form.Pgn form.Ext h = absurd (false≢true h)
same_block form.Pgn form.Pgn h = refl
same_block form.Pgn form.Spn h = absurd (false≢true h)
same_block form.Spn form.Std h = absurd (false≢true h)
same_block form.Spn form.Ext h = absurd (false≢true h)
same_block form.Spn form.Pgn h = absurd (false≢true h)
same_block form.Spn form.Spn h = refl

pub formed : (team : List ℕ) (kind : NumberForm) (g : GrantedBlock) → is_of team kind g ≡ true
    → g.block.form ≡ block_form kind
formed team kind g h =
    same_block g.block.form (block_form kind)
    (and_parts (bytes_eq g.team team) (same_form g.block.form (block_form kind)) h).1

-- a block that isn't of parameter groups has no numbers of another form
pub one_form : (blocks : BlockForm) (kind : NumberForm) → blocks ≡ block_form kind → is_group kind ≡ false
    → forms_in blocks ≡ kind ∷ []
one_form blocks number.Pdu1 e h = absurd (false≢true (sym h))
one_form blocks number.Pdu2 e h = absurd (false≢true (sym h))
one_form blocks n e h = ap forms_in e

pub whole_count : (taken : List ℕ) (b : Range) (kind : NumberForm) → forms_in b.form ≡ kind ∷ []
    → free_count taken b ≡ length (free_numbers taken b kind)
whole_count taken b kind one =
    ap (λ kinds. length (flat_map (free_numbers taken b) kinds)) one
    ∙ ap length (append-nil (free_numbers taken b kind))

whole_step : (kind : NumberForm) → is_group kind ≡ false → step_of kind ≡ 1
whole_step number.Pdu1 h = absurd (false≢true (sym h))
whole_step number.Pdu2 h = absurd (false≢true (sym h))
whole_step n h = refl

pub whole_runs : (taken : List ℕ) (b : Range) (kind : NumberForm) → forms_in b.form ≡ kind ∷ [] → is_group kind ≡ false
    → free_runs taken b ≡ runs_of 1 (free_numbers taken b kind)
whole_runs taken b kind one whole =
    ap (λ kinds. flat_map (runs_in taken b) kinds) one ∙ append-nil (runs_in taken b kind)
    ∙ ap (λ step. runs_of step (free_numbers taken b kind)) (whole_step kind whole)

-- ---- few numbers in a block

few_of_form : (f : BlockForm) → greatest_of f ≤ 2 ^ 32
few_of_form form.Std = omega arith
few_of_form f = omega arith

few_numbers : (b : Range) → IsRange b → length (numbers_in b) ≤ 2 ^ 33
few_numbers b range =
    omega (arith, few_of_form b.form, range.2, length-range_with_len b.first (b.last + 1 - b.first))

pub live_few : (live : List ℕ) (kind : NumberForm) (g : GrantedBlock) → IsRange g.block → live_at live kind g ≤ 2 ^ 33
live_few live kind g range =
    omega (
      arith,
      count_by-le-length (λ (n : ℕ). is_taken n live && has_form kind n) (numbers_in g.block),
      few_numbers g.block range,
    )

pub held_few : (live taken : List ℕ) (kind : NumberForm) (g : GrantedBlock) → IsRange g.block
    → held_at live taken kind g ≤ 2 ^ 33
held_few live taken kind g range =
    omega (
      arith,
      count_by-le-length (λ (n : ℕ). is_taken n taken && is_beside live kind n) (numbers_in g.block),
      few_numbers g.block range,
    )

pub free_few : (taken : List ℕ) (kind : NumberForm) (g : GrantedBlock) → IsRange g.block
    → free_at taken kind g ≤ 2 ^ 33
free_few taken kind g range =
    let free = λ (n : ℕ). has_form kind n && not (is_taken n taken) in
    omega (
      arith,
      length-filter free (numbers_in g.block),
      count_by-le-length free (numbers_in g.block),
      few_numbers g.block range,
    )
