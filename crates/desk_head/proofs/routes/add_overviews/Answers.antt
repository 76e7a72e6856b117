use Rattle.std.proofs.Common.{List, ◌+◌, ◌∙◌, ap, drop, get_or, sym}
use Rattle.std.proofs.lemmas.List.{at_drop_more}
use Rattle.office_types.specs.declared.overview.Overview.{Overview}
use Rattle.office_types.specs.declared.overview.Overview.TheVariants as overview
use Rattle.office_types.specs.declared.overview.TheConstants.{OVERVIEWS}
use Rattle.desk_head.specs.Target.{with_overviews, with_route}
use Rattle.desk_head.specs.declared.endpoint.Showing.TheVariants as shown
use Rattle.desk_head.specs.declared.routes.Route.TheVariants as route
use Rattle.desk_head.proofs.routes.add_overviews.Goals as goal

pub loop-overview-preserved : goal.loop-overview-preserved
loop-overview-preserved c =
    let i = c.loop-overview.overview-index in
    let before = c.loop-overview.router in
    let this : Overview = get_or OVERVIEWS i overview.State in
    ap (with_overviews (drop (i + 1) OVERVIEWS))
    (c.in_ok-show.ensures ∙ ap (λ path. with_route path (route.Shows (shown.Overview this)) before) c.path.ensures)
    ∙ sym (at_drop_more (λ (l : List Overview). with_overviews l before) OVERVIEWS i overview.State
    c.loop-overview-test.true)
    ∙ c.loop-overview.invariant
