use Rattle.std.proofs.Common.{◌≡◌, ◌+◌, ◌≤◌, length}
use Rattle.office_script.specs.Words.{words_after, words_of}
use Rattle.office_advice.proofs.LineWords.{bytes_after}
use Rattle.office_advice.specs.Words.{offset_of, word_of}
use Rattle.office_advice.proofs.words.word_at.Given as goal

-- the word is one of those that are left
abbrev pub invariant-loop-rest : goal.invariant-loop-rest
invariant-loop-rest l = record {
  word : word_of (words_of l.fn.line) l.fn.index ≡ word_of (words_after l.rest) l.left;
  offset : offset_of (words_of l.fn.line) l.fn.index ≡ l.offset + offset_of (words_after l.rest) l.left;
  room : l.offset + bytes_after l.rest ≤ length l.fn.line + 1;
}

abbrev pub decreases-loop-rest : goal.decreases-loop-rest
decreases-loop-rest l = length (words_after l.rest)
