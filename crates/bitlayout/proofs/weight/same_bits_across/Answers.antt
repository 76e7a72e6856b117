use Rattle.bitlayout.proofs.Common.{◌≡◌, ◌≤◌, ◌-◌, arith, eqb-true, eq-eqb, leb-true}
use Rattle.std.specs.Prelude.{◌%◌}
use Rattle.bitlayout.proofs.Weights.{same_across, across_from_same}
use Rattle.bitlayout.proofs.weight.same_bits_across.Goals as goal

pub returns-then-motorola-further : goal.returns-then-motorola-further
returns-then-motorola-further c = (
  λ t. let e : c.args.intel ≡ c.args.motorola - (c.from-further.result - 1) = eqb-true _ _ t in
      same_across c.args.size c.args.intel c.args.motorola (omega arith) (omega arith) (omega arith),
  λ same. let told = across_from_same c.args.size c.args.intel c.args.motorola (omega arith) same in
      eq-eqb _ _ (omega arith),
)

pub returns-else-motorola-further : goal.returns-else-motorola-further
returns-else-motorola-further c = (
  λ t. let in_byte : c.from-further.result - 1 ≤ c.args.motorola % 8 = leb-true _ _ t in absurd (omega arith),
  λ same. let told = across_from_same c.args.size c.args.intel c.args.motorola (omega arith) same in
      absurd (omega arith),
)
