use Rattle.desk_head.specs.Target.{the_routes}
use Rattle.desk_head.proofs.routes.router.Goals as goal

pub returns : goal.returns
unfolding the_routes
returns c =
    rw (
      c.in_ok-show.ensures,
      c.in_ok-add_pages.ensures,
      c.in_ok-add_things.ensures,
      c.in_ok-add_overviews.ensures,
      c.in_ok-add_sheets.ensures,
      c.in_ok-add-3.ensures,
      c.in_ok-add-2.ensures,
      c.in_ok-add.ensures,
      c.new-router.ensures,
    )
