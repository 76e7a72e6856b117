use Rattle.bitlayout.proofs.Common.{refl, ap, arith, not}
use Rattle.bitlayout.proofs.Covering.{taken_by_added}
use Rattle.bitlayout.proofs.taken.Taken.add.Goals as goal

pub returns : goal.returns
returns c places layout by of_layout =
    taken_by_added c.args.self.now _ places layout c.args.mux c.args.strip _ c.is_present_at.result
    (ap not c.is_under.ensures) c.is_present_at.ensures by of_layout refl c.add.ensures c.add_if.ensures
    c.add_if-2.ensures (omega (arith, c.max-self.ensures)) (λ value is. let below = c.value_end.ensures value is in
    omega (arith, c.max-self.ensures))
