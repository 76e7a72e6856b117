use Rattle.std.proofs.Common.{◌≡◌, ◌++◌, take}
use Rattle.markup.specs.Html.{words}
use Rattle.markup.proofs.pushing.push_words.Given as goal

abbrev pub invariant-loop-piece : goal.invariant-loop-piece
invariant-loop-piece l = l.text.items ≡ l.initial.text.items ++ words (take l.piece-index l.pieces)
