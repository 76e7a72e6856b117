use Rattle.std.proofs.Common.{◌≡◌, ◌+◌, ◌≤◌, length}
use Rattle.office_script.specs.Words.{words_after, words_of}
use Rattle.office_advice.proofs.LineWords.{bytes_after}
use Rattle.office_advice.specs.Cause.{form_wrong}
use Rattle.office_advice.proofs.forms.form_wrong.Given as goal

-- the words before are fields
abbrev pub invariant-loop-left : goal.invariant-loop-left
invariant-loop-left l = record {
  found : form_wrong l.fn.first (words_of l.fn.words) ≡ form_wrong l.index (words_after l.left);
  room : l.index + bytes_after l.left ≤ l.fn.first + (length l.fn.words + 1);
}

abbrev pub decreases-loop-left : goal.decreases-loop-left
decreases-loop-left l = length (words_after l.left)
