use Rattle.desk_head.proofs.routes.add_things.Goals as goal

pub returns : goal.returns
returns c =
    rw (
      c.in_ok-show-6.ensures,
      c.in_ok-show-5.ensures,
      c.in_ok-show-4.ensures,
      c.in_ok-show-3.ensures,
      c.in_ok-show-2.ensures,
      c.in_ok-show.ensures,
    )
