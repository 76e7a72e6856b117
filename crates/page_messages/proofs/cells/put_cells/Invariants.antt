use Rattle.page_messages.proofs.Common.{◌+◌, ◌^◌, ◌<◌, IsNonDecreasingBy}
use Rattle.page_messages.specs.Layouts.{bits_at, place_of}
use Rattle.page_messages.proofs.CellsDrawn.{CellsLeft}
use Rattle.page_messages.proofs.cells.put_cells.Given as goal

abbrev pub invariant-loop-place : goal.invariant-loop-place
invariant-loop-place l = IsNonDecreasingBy place_of l.held → l.start + 8 < 2 ^ 32
    → CellsLeft (bits_at l.held) l.start l.from l.place l.first l.last l.initial.page l.page
