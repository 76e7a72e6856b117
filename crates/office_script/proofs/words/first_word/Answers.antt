use Rattle.std.proofs.Common.{◌∙◌, ap}
use Rattle.office_script.proofs.Parts.{split_at_separator, split_without_separator}
use Rattle.office_script.proofs.WordLaws.{words_law}
use Rattle.office_script.specs.Words.{words_of}
use Rattle.office_script.proofs.words.first_word.Goals as goal

pub returns-in-Some-clause-next : goal.returns-in-Some-clause-next
returns-in-Some-clause-next c =
    ap words_of c.in-Some.ensures.parts.1 ∙ split_at_separator 32 c.in-Some.word.now c.in-Some.rest.now
    c.in-Some.ensures.parts.0

pub returns-in-None-clause-next : goal.returns-in-None-clause-next
returns-in-None-clause-next c = split_without_separator 32 c.args.line.now c.in-None.ensures.parts

pub returns-in-Some-clause-words : goal.returns-in-Some-clause-words
returns-in-Some-clause-words c = words_law c.args.line.now

pub returns-in-None-clause-words : goal.returns-in-None-clause-words
returns-in-None-clause-words c = words_law c.args.line.now
