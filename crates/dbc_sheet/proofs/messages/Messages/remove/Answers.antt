use Rattle.dbc_sheet.proofs.Common.{◌∙◌, ap, sym, refl, Some, find_at, find_gap, remove_at}
use Rattle.std.proofs.lemmas.Option.{get_or_from_slice_get}
use Rattle.base.proofs.AscendingLists.{find_without, without_gap}
use Rattle.dbc_sheet.specs.Messages.{message_at, number_of, without_number}
use Rattle.dbc_sheet.proofs.MessageRules.{at_in, gap_in, without_message}
use Rattle.dbc_sheet.proofs.messages.Messages.remove.Goals as goal

pub invariant_of-self : goal.invariant_of-self
invariant_of-self c =
    let messages = c.self.inside.messages in
    without_message messages c.remove-message.new.self c.remove-message.result c.args.number c.in-Ok.index
    c.self.inside.names c.remove.new.self c.self.invariant
    (at_in c.as_slice.result.now messages c.args.number c.args.number c.in-Ok.index c.as_slice.ensures refl
    c.in-Ok.ensures.found)
    (sym (get_or_from_slice_get messages c.in-Ok.index c.remove-message.result c.remove-message.result
    c.remove-message.ensures.item))
    c.remove-message.ensures.rest c.remove.ensures

pub returns-in-Ok-clause-found : goal.returns-in-Ok-clause-found
returns-in-Ok-clause-found c =
    let messages = c.self.inside.messages in
    let there = at_in c.as_slice.result.now messages c.args.number c.args.number c.in-Ok.index c.as_slice.ensures refl
    c.in-Ok.ensures.found in
    sym (find_at number_of messages c.args.number c.in-Ok.index c.remove-message.result there
    ∙ ap Some (get_or_from_slice_get messages c.in-Ok.index c.remove-message.result c.remove-message.result
    c.remove-message.ensures.item))
    ∙ ap (λ ms. message_at ms c.args.number) c.self.view_is

pub returns-in-Ok-clause-rest : goal.returns-in-Ok-clause-rest
returns-in-Ok-clause-rest c =
    let messages = c.self.inside.messages in
    let there = at_in c.as_slice.result.now messages c.args.number c.args.number c.in-Ok.index c.as_slice.ensures refl
    c.in-Ok.ensures.found in
    c.remove-message.ensures.rest ∙ remove_at number_of messages c.args.number c.in-Ok.index there
    ∙ ap (λ ms. without_number ms c.args.number) c.self.view_is

pub returns-in-Ok-clause-map : goal.returns-in-Ok-clause-map
returns-in-Ok-clause-map c = λ n. ap (λ ms. message_at ms n) (returns-in-Ok-clause-rest c)
    ∙ find_without number_of c.args.self.now c.args.number n

pub returns-in-Err-clause-found : goal.returns-in-Err-clause-found
returns-in-Err-clause-found c =
    sym (find_gap number_of c.args.self.now c.args.number c.in-Err.field-0
    (gap_in c.as_slice.result.now c.args.self.now c.args.number c.args.number c.in-Err.field-0
    (c.as_slice.ensures ∙ c.self.view_is) refl c.in-Err.ensures.absent))

pub returns-in-Err-clause-rest : goal.returns-in-Err-clause-rest
returns-in-Err-clause-rest c =
    sym (without_gap number_of c.args.self.now c.args.number c.in-Err.field-0
    (gap_in c.as_slice.result.now c.args.self.now c.args.number c.args.number c.in-Err.field-0
    (c.as_slice.ensures ∙ c.self.view_is) refl c.in-Err.ensures.absent))

pub returns-in-Err-clause-map : goal.returns-in-Err-clause-map
returns-in-Err-clause-map c = λ n. ap (λ ms. message_at ms n) (returns-in-Err-clause-rest c)
    ∙ find_without number_of c.args.self.now c.args.number n
