use Rattle.bitlayout.proofs.Common.{inl, inr, iff_false}
use Rattle.bitlayout.proofs.Masks.{touch_low, touch_high, word_from_touch}
use Rattle.bitlayout.proofs.mask.Mask.touches.Goals as goal

pub returns-then-have_common : goal.returns-then-have_common
returns-then-have_common c = (
  λ _. touch_low c.args.self.now c.args.strip c.word.result c.low.result c.word.ensures.bits c.low.ensures
      (c.have_common.ensures.0 c.if-have_common.true),
  λ _. c.if-have_common.true,
)

pub returns-else-have_common : goal.returns-else-have_common
returns-else-have_common c =
    let mask = c.args.self.now in
    let strip = c.args.strip in (
      λ t. touch_high mask strip c.word-else-have_common.result c.high.result c.word-else-have_common.ensures.bits
          c.high.ensures (c.have_common-else-have_common.ensures.0 t),
      λ touch. elim (word_from_touch mask strip c.word.result c.word-else-have_common.result c.low.result c.high.result
          c.word.ensures.bits c.word-else-have_common.ensures.bits c.high.type_inv c.low.ensures c.high.ensures touch) [
            | inl first ↦ absurd (iff_false c.have_common.ensures c.if-have_common.false first)
            | inr second ↦ c.have_common-else-have_common.ensures.1 second
          ],
    )
