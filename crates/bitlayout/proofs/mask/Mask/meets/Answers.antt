use Rattle.bitlayout.proofs.Common.{refl, arith, iff_false, false≢true}
use Rattle.bitlayout.proofs.Masks.{both_from_word, none_in_word, words_end}
use Rattle.bitlayout.proofs.mask.Mask.meets.Goals as goal

pub returns-then-have_common : goal.returns-then-have_common
returns-then-have_common c = (
  λ _. rw (← c.self.view_is, ← c.other.view_is)
      (both_from_word c.self.inside.words c.other.inside.words c.loop-index.index c.self.invariant.count
      c.other.invariant.count (c.have_common.ensures.0 c.if-have_common.true)),
  λ _. refl,
)

pub loop-index-preserved : goal.loop-index-preserved
loop-index-preserved c = none_in_word c.self.inside.words c.other.inside.words c.loop-index.index
    (iff_false c.have_common.ensures c.if-have_common.false) c.loop-index.invariant

pub returns : goal.returns
returns c = rw (← c.self.view_is, ← c.other.view_is) (
  λ t. absurd (false≢true t),
  λ (q, in_a, in_b).
      let within = words_end c.self.inside.words q in_a in
      absurd (c.loop-index.invariant q (omega arith) in_a in_b),
)
