use Rattle.page_changes.proofs.Common.{◌≡◌, drop, map}
use Rattle.std.specs.List.{fold}
use Rattle.page_changes.specs.Names.{text_of}
use Rattle.page_changes.specs.Since.{with_word, word_of, words_of}
use Rattle.page_changes.proofs.since.words_of.Given as goal

abbrev pub invariant-loop-difference : goal.invariant-loop-difference
invariant-loop-difference l =
    fold (λ words d. with_word words (word_of d)) (map text_of l.words.items) (drop l.difference-index l.message)
    ≡ words_of l.message
