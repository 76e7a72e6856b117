use Rattle.bitlayout.proofs.Common.{inl, inr}
use Rattle.bitlayout.specs.Taken.{IsStripOf}
use Rattle.bitlayout.proofs.mask.Mask.add_layout.Goals as goal

pub returns : goal.returns
unfolding IsStripOf
returns c q = (
  λ has. elim ((c.add.ensures q).0 has)
      [ inl old ↦ inl old | inr (below, bit) ↦ inr (below, (c.strip_of.ensures.positions q).0 bit) ],
  λ h. (c.add.ensures q).1
      (elim h [ inl old ↦ inl old | inr (below, bit) ↦ inr (below, (c.strip_of.ensures.positions q).1 bit) ]),
)
