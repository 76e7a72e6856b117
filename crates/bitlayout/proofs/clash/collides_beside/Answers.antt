use Rattle.bitlayout.proofs.Common.{subst, sym, ◌↔◌, IsTrue}
use Rattle.bitlayout.specs.Taken.{Collides}
use Rattle.bitlayout.proofs.Collisions.{partner_tested}
use Rattle.bitlayout.proofs.clash.collides_beside.Goals as goal

pub returns-then-inside-clause-collides : goal.returns-then-inside-clause-collides
returns-then-inside-clause-collides c =
    c.touches.ensures.collides c.args.place.now.layout c.requires.strip (c.inside.ensures.inside.0 c.if-inside.true)

pub returns-else-inside-clause-collides : goal.returns-else-inside-clause-collides
returns-else-inside-clause-collides c =
    let places = c.args.places.now in
    let place = c.args.place.now in
    subst (λ b. IsTrue b ↔ Collides places place.mux place.layout) (sym c.is_some.ensures)
    (partner_tested places place c.first_partner.result c.first_partner.ensures)
