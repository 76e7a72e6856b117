use Rattle.bitlayout.proofs.Common.{arith}
use Rattle.bitlayout.proofs.Covering.{covers_no_more, taken_turned}
use Rattle.bitlayout.proofs.taken.Taken.turn_to.Goals as goal
use Rattle.bitlayout.proofs.taken.Taken.turn_to.Goals.{then-from-self, else-from-self}

pub returns-after-from-self-clause-taken : goal.returns-after-from-self-clause-taken
returns-after-from-self-clause-taken c =
    let old = c.args.self.now in
    let places = c.args.places.now in
    let value = c.args.value in
    let now = c.if-from-self.self in
    elim c.if-from-self.branch [
      | then-from-self w ↦ taken_turned old now places value w.add_under.new.mask c.requires w.add_under.ensures
          w.self-is
      | else-from-self w ↦
          let more = covers_no_more old.always value places (λ some. let below = c.requires.values value some in
          absurd (omega (arith, c.from.ensures, w.if-from-self))) in
          taken_turned old now places value old.always c.requires more w.self-is
    ]
