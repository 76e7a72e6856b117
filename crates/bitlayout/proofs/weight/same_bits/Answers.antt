use Rattle.bitlayout.proofs.Common.{◌≡◌, ◌∙◌, arith, sym, eqb-true, false_from_ne_true}
use Rattle.bitlayout.proofs.Weights.{same_in_order, sizes_apart}
use Rattle.bitlayout.proofs.weight.same_bits.Goals.{in_default-via-in-Intel+in_default}
use Rattle.bitlayout.proofs.weight.same_bits.Goals.{in_default-via-in-Motorola+in_default}
use Rattle.bitlayout.proofs.weight.same_bits.Goals as goal

pub returns-in_default : goal.returns-in_default
returns-in_default c =
    let order : c.args.a.order ≡ c.args.b.order = elim c.in_default.branch [
      | in_default-via-in-Intel+in_default w ↦ w.in_default.is-0 ∙ sym w.in_default.is-1
      | in_default-via-in-Motorola+in_default w ↦ w.in_default.is-0 ∙ sym w.in_default.is-1
    ] in
    same_in_order c.args.a c.args.b order (omega arith) (omega arith)

pub returns-else-bits : goal.returns-else-bits
returns-else-bits c =
    false_from_ne_true _ (λ t. c.if-bits.false (eqb-true _ _ t))
    ∙ sizes_apart c.args.a c.args.b (λ e. c.if-bits.false (omega arith))
