use Rattle.dbc_write.proofs.Common.{ℕ, List, ◌∷◌, [], take, codes, flat_map, mark, tight, word}
use Rattle.dbc_write.specs.Adding.{Adds, piece_text}
use Rattle.dbc_write.proofs.signals.receivers.Given as goal

abbrev pub invariant-loop-other : goal.invariant-loop-other
invariant-loop-other l =
    Adds piece_text l.initial.text.items l.text.items
    (flat_map (λ (n : List ℕ). mark tight (codes ",") ∷ word tight n ∷ []) (take l.other-index l.others))
