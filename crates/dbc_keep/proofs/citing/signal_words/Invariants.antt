use Rattle.dbc_keep.proofs.Common.{◌≡◌, length, flat_map, first_absent, signal_cited}
use Rattle.dbc_keep.specs.Staying.{all_seen}
use Rattle.dbc_keep.proofs.citing.signal_words.Given as goal

abbrev pub invariant-loop-left : goal.invariant-loop-left
invariant-loop-left l = first_absent l.sheet (flat_map (signal_cited l.number) (all_seen l.left))
    ≡ first_absent l.sheet (flat_map (signal_cited l.number) (all_seen l.words))

abbrev pub decreases-loop-left : goal.decreases-loop-left
decreases-loop-left l = length l.left
