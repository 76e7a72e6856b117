use Rattle.std.proofs.Common.{◌≡◌, ◌++◌, drop, filter, map}
use Rattle.office_page.specs.Names.{may_approve, text_of}
use Rattle.office_page.proofs.head.waiting_of.Given as goal

abbrev pub invariant-loop-team : goal.invariant-loop-team
invariant-loop-team l =
    map text_of l.waiting.items ++ filter (may_approve l.submitter l.approvals) (map text_of (drop l.team-index l.teams))
    ≡ filter (may_approve l.submitter l.approvals) (map text_of l.teams)
