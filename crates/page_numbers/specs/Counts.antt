-- How many numbers are left of a team's blocks.
use Rattle.std.specs.Prelude.{ℕ, ◌+◌, ◌&&◌, nat_le, nat_lt, Bool, List, map, min, sum}
use Rattle.std.specs.List.{flat_map}
use Rattle.columns.specs.declared.run.Run.{Run}
use Rattle.office_blocks.specs.Blocks.{live_numbers, taken_numbers}
use Rattle.office_blocks.specs.Numbers.{of_form}
use Rattle.office_blocks.specs.declared.numbers.Numbers.{Numbers}
use Rattle.office_seen.specs.declared.view.View.{View}
use Rattle.office_types.specs.declared.block.BlockForm.{BlockForm}
use Rattle.office_types.specs.declared.free.NumberForm.{NumberForm}
use Rattle.office_types.specs.declared.state.GrantedBlock.{GrantedBlock}
use Rattle.page_numbers.specs.Tally.{block_form, blocks_of, free_at, held_at, live_at, runs_at}
use Rattle.page_numbers.specs.declared.tally.Tally.{Tally}

-- how many are live, held and free, and the runs of the free ones, block by block
pub record Counts : Type 0 where
  pub live : ℕ
  pub held : ℕ
  pub free : ℕ
  pub runs : List Run

-- those of a tally
abbrev pub counts_of : Tally → Counts
counts_of tally = record { live = tally.live; held = tally.held; free = tally.free; runs = tally.runs.items }

abbrev pub granted : Counts → ℕ
granted left = left.live + left.held + left.free

-- fewer than three of eight or more are free
abbrev pub few : Counts → Bool
few left = nat_lt left.free 3 && nat_le 8 (granted left)

-- the numbers of a form that are live, and those that are taken
pub record Known : Type 0 where
  pub live : List ℕ
  pub taken : List ℕ

abbrev pub known_in : Numbers → BlockForm → Known
known_in numbers form = record { live = (of_form form numbers).live; taken = (of_form form numbers).taken }

abbrev pub known_of : View → BlockForm → Known
known_of view form = record { live = live_numbers form view; taken = taken_numbers form view }

-- what is left of blocks
abbrev pub counts_in : Known → NumberForm → List GrantedBlock → Counts
counts_in known form blocks = record {
  live = sum (map (live_at known.live form) blocks);
  held = sum (map (held_at known.live known.taken form) blocks);
  free = sum (map (free_at known.taken form) blocks);
  runs = flat_map (runs_at known.taken form) blocks;
}

-- what is left of a team's numbers of a kind
abbrev pub left_of : (BlockForm → Known) → List GrantedBlock → List ℕ → NumberForm → Counts
left_of known blocks team form = counts_in (known (block_form form)) form (blocks_of blocks team form)

-- a count as far as 64 bits go, as those of blocks that are apart do
abbrev pub short : ℕ → ℕ
short n = min n 18446744073709551615
