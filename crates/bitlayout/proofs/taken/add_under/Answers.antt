use Rattle.bitlayout.proofs.Common.{◌≡◌, ◌∷◌, ◌++◌, [], take, get_or, refl, sym, subst, iff_false, take_all}
use Rattle.bitlayout.proofs.Common.{slice_get_read, get_or_from_slice_get}
use Rattle.bitlayout.specs.Taken.{CoversMore}
use Rattle.bitlayout.proofs.Covering.{value_added, value_skipped, value_next}
use Rattle.bitlayout.proofs.taken.add_under.Goals as goal
use Rattle.bitlayout.proofs.taken.add_under.Goals.{then-is_at, else-is_at}

pub loop-place-preserved : goal.loop-place-preserved
loop-place-preserved c =
    let places = c.args.places.now in
    let always = c.args.mask.now in
    let value = c.args.value in
    let i = c.loop-place.place-index in
    let place = c.place-item.result in
    let before = c.loop-place.mask in
    let at : get_or places i place ≡ place =
    get_or_from_slice_get places i place place
    (slice_get_read places _ i place refl c.loop-place-test.true c.place-item.is) in
    elim c.if-is_at.branch [
      | then-is_at w ↦
          let added = value_added always before w.add.new.self value (take i places) place w.strip_of.result
          (c.is_at.ensures.0 w.if-is_at.true) w.strip_of.ensures.positions w.add.ensures
          c.loop-place.invariant in
          value_next always c.if-is_at.mask value places i place c.loop-place-test.true at
          (subst (λ m. CoversMore always m value (take i places ++ place ∷ [])) (sym w.mask-is) added)
      | else-is_at w ↦
          let skipped = value_skipped always before value (take i places) place
          (iff_false c.is_at.ensures w.if-is_at.false) c.loop-place.invariant in
          value_next always c.if-is_at.mask value places i place c.loop-place-test.true at
          (subst (λ m. CoversMore always m value (take i places ++ place ∷ [])) (sym w.mask-is) skipped)
    ]

pub returns : goal.returns
returns c =
    let places = c.args.places.now in
    subst (CoversMore c.args.mask.now c.loop-place.mask c.args.value)
    (take_all c.loop-place.place-index places c.loop-place-test.false) c.loop-place.invariant
