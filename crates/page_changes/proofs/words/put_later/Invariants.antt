use Rattle.page_changes.proofs.Common.{map, take, Becomes, adding}
use Rattle.page_changes.specs.Names.{text_of}
use Rattle.page_changes.specs.Tables.{later_words}
use Rattle.page_changes.proofs.words.put_later.Given as goal

abbrev pub invariant-loop-word : goal.invariant-loop-word
invariant-loop-word l =
    Becomes l.page (adding (later_words (map text_of (take l.word-index l.words))) l.initial.page)
