use Rattle.bitlayout.proofs.Common.{inl, inr}
use Rattle.bitlayout.specs.Taken.{IsStripOf}
use Rattle.bitlayout.proofs.mask.Mask.of.Goals as goal

pub returns : goal.returns
unfolding IsStripOf
returns c q = (
  λ has. elim ((c.add.ensures q).0 has) [
    | inl none ↦ absurd (c.empty-mask.ensures q none)
    | inr (below, bit) ↦ (below, (c.strip_of.ensures.positions q).0 bit)
  ],
  λ (below, bit). (c.add.ensures q).1 (inr (below, (c.strip_of.ensures.positions q).1 bit)),
)
