use Rattle.office_decide.proofs.Common.{◌≡◌, option_copied}
use Rattle.office_decide.proofs.BundleDecided.{IsProgress}
use Rattle.office_decide.proofs.bundling.decide_bundle.Given as goal

abbrev pub invariant-loop-part : goal.invariant-loop-part
invariant-loop-part l =
    (l.part_number ≡ l.part-index)
    × IsProgress l.fn.team l.fn.name (record { net = option_copied l.fn.net; book = l.fn.book }) l.fn.parts l.part-index
    l.progress
