use Rattle.bitlayout.proofs.Common.{refl, sym, subst, both_ways, false≢true}
use Rattle.bitlayout.specs.Taken.{Collides, is_any, is_everywhere, is_present_at}
use Rattle.bitlayout.proofs.Covering.{touched, collides_any, any_collides, always_collides, present_covers, not_under}
use Rattle.bitlayout.proofs.taken.Taken.touches.Goals as goal

pub returns-then-not-touches-clause-collides : goal.returns-then-not-touches-clause-collides
returns-then-not-touches-clause-collides c layout of_layout inside =
    let places = c.args.places.now in
    let all = touched c.args.self.now.all is_any places c.args.strip layout c.touches.result c.requires.taken.all
    of_layout inside c.touches.ensures in (
      λ t. absurd (false≢true t),
      λ some. absurd (both_ways _ c.if-not-touches.true (all.1 (collides_any places c.args.mux layout some))),
    )

pub returns-in_default : goal.returns-in_default
returns-in_default c =
    let places = c.args.places.now in
    record {
      taken = c.requires.taken;
      collides = λ layout of_layout inside.
          let all = touched c.args.self.now.all is_any places c.args.strip layout c.touches.result c.requires.taken.all
          of_layout inside c.touches.ensures in (
            λ _. any_collides places c.args.mux layout (not_under c.args.mux c.in_default.not-Under)
                (all.0 c.if-not-touches.false),
            λ _. refl,
          );
    }

pub returns-then-touches-clause-collides : goal.returns-then-touches-clause-collides
returns-then-touches-clause-collides c layout of_layout inside =
    let places = c.args.places.now in
    let always = touched c.args.self.now.always is_everywhere places c.args.strip layout c.touches-2.result
    c.requires.taken.always of_layout inside c.touches-2.ensures in (
      λ _. subst (λ m. Collides places m layout) (sym c.in-Under.is)
          (always_collides places c.in-Under.value layout (always.0 c.if-touches.true)),
      λ _. refl,
    )

pub returns-clause-collides : goal.returns-clause-collides
returns-clause-collides c layout of_layout inside =
    let places = c.args.places.now in
    let covers = present_covers c.turn_to.new.self places c.in-Under.value c.turn_to.ensures.taken
    c.turn_to.ensures.value in
    let present = touched c.turn_to.new.self.present (is_present_at c.in-Under.value) places c.args.strip layout
    c.touches-3.result covers of_layout inside c.touches-3.ensures in (
      λ t. subst (λ m. Collides places m layout) (sym c.in-Under.is) (present.0 t),
      λ some. present.1 (subst (λ m. Collides places m layout) c.in-Under.is some),
    )
