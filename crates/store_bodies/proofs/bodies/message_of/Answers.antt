use Rattle.std.proofs.Common.{◌≡◌, Some, None, ap, sym, ◌∙◌}
use Rattle.dbc_sheet.specs.declared.sheet.Sheet.{Sheet}
use Rattle.store_bodies.specs.Body.{only_message, sheet_alone}
use Rattle.store_bodies.proofs.bodies.message_of.Goals as goal

same_message : (read sheet : Sheet) → Some read ≡ Some sheet → only_message read.messages ≡ only_message sheet.messages
same_message read sheet both = let same : read ≡ sheet = cc in ap (λ (s : Sheet). only_message s.messages) same

pub returns-in-Some-clause-only : goal.returns-in-Some-clause-only
returns-in-Some-clause-only c sheet reads =
    c.only_message.ensures ∙ same_message c.in-Some.sheet sheet
    (sym c.in-Some.is ∙ c.in_ok-sheet.ensures.found sheet reads)

-- a body reads as the sheet that has its message alone
pub returns-in-Some-clause-found : goal.returns-in-Some-clause-found
returns-in-Some-clause-found c message body = returns-in-Some-clause-only c (sheet_alone message) body

pub returns-in-Some-clause-none : goal.returns-in-Some-clause-none
returns-in-Some-clause-none c nothing =
    absurd (let none : Some c.in-Some.sheet ≡ None = sym c.in-Some.is ∙ c.in_ok-sheet.ensures.none nothing in cc)

pub returns-in-None-clause-only : goal.returns-in-None-clause-only
returns-in-None-clause-only c sheet reads =
    absurd (let read : None ≡ Some sheet = sym c.in-None.is ∙ c.in_ok-sheet.ensures.found sheet reads in cc)

pub returns-in-None-clause-found : goal.returns-in-None-clause-found
returns-in-None-clause-found c message body = returns-in-None-clause-only c (sheet_alone message) body
