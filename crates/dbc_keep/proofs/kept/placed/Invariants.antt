use Rattle.dbc_keep.proofs.Common.{take, line_text}
use Rattle.dbc_keep.specs.Finding.{lines_there}
use Rattle.dbc_keep.specs.Places.{place_number}
use Rattle.dbc_write.specs.Adding.{Adds}
use Rattle.dbc_keep.proofs.kept.placed.Given as goal

abbrev pub invariant-loop-one : goal.invariant-loop-one
invariant-loop-one l = Adds line_text l.initial.text.items l.text.items
    (lines_there l.source (place_number l.place) (take l.one-index l.passed))
