use Rattle.office_import.proofs.Common.{◌≡◌, ℕ, List, take, contains, text_cmp, has_name, live_name}
use Rattle.office_import.proofs.names.live_names.Given as goal

abbrev pub invariant-loop-one : goal.invariant-loop-one
invariant-loop-one l = (n : List ℕ) → contains text_cmp l.names n ≡ has_name live_name (take l.one-index l.live) n
