use Rattle.bitlayout.proofs.Common.{arith}
use Rattle.bitlayout.proofs.Masks.{word_at, none_past, words_end}
use Rattle.bitlayout.proofs.mask.Mask.word.Goals as goal

pub returns-then-index-lt-MASK_WORDS-clause-bits : goal.returns-then-index-lt-MASK_WORDS-clause-bits
returns-then-index-lt-MASK_WORDS-clause-bits c i small =
    rw (← c.self.view_is) (word_at c.self.inside.words c.args.index i c.self.invariant.count small)

pub returns-then-index-lt-MASK_WORDS-clause-end : goal.returns-then-index-lt-MASK_WORDS-clause-end
returns-then-index-lt-MASK_WORDS-clause-end c q = rw (← c.self.view_is) (words_end c.self.inside.words q)

pub returns-else-index-lt-MASK_WORDS-clause-bits : goal.returns-else-index-lt-MASK_WORDS-clause-bits
returns-else-index-lt-MASK_WORDS-clause-bits c i small =
    rw (← c.self.view_is) (none_past c.self.inside.words c.args.index i (omega arith))

pub returns-else-index-lt-MASK_WORDS-clause-end : goal.returns-else-index-lt-MASK_WORDS-clause-end
returns-else-index-lt-MASK_WORDS-clause-end c q = rw (← c.self.view_is) (words_end c.self.inside.words q)
