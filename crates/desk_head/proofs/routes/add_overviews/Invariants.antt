use Rattle.std.proofs.Common.{◌≡◌, drop}
use Rattle.desk_head.specs.Target.{with_overviews}
use Rattle.desk_head.proofs.routes.add_overviews.Given as goal
use Rattle.office_types.specs.declared.overview.TheConstants.{OVERVIEWS}

abbrev pub invariant-loop-overview : goal.invariant-loop-overview
invariant-loop-overview l =
    with_overviews (drop l.overview-index l.overview-items) l.router ≡ with_overviews OVERVIEWS l.initial.router
