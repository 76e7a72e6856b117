use Rattle.dbc_sheet.proofs.Common.{◌∙◌, ◌||◌, true, false, ap, sym, refl, length, nat_le, insert, remove, bytes_eq}
use Rattle.dbc_sheet.proofs.Common.{put_gap, message_limit, has_name, holds_name}
use Rattle.base.proofs.AscendingLists.{find_put}
use Rattle.dbc_words.proofs.NameSets.{added_again, is_new}
use Rattle.dbc_sheet.specs.Messages.{message_at, message_name, number_of}
use Rattle.dbc_sheet.proofs.MessageRules.{gap_in, none_refuses, remove_inserted, same_messages, third_refuses}
use Rattle.dbc_sheet.proofs.MessageRules.{with_message}
use Rattle.dbc_sheet.proofs.messages.Messages.add.Goals as goal

pub invariant_of-self-in-Ok-true : goal.invariant_of-self-in-Ok-true
invariant_of-self-in-Ok-true c =
    let messages = c.self.inside.messages in
    let gap = gap_in c.args.self.now messages (number_of c.args.message) (number_of c.args.message) c.in_ok-at.at
    (sym c.self.view_is) refl c.in_ok-at.ensures.gap in
    with_message messages c.insert.new.self c.args.message c.in_ok-at.at c.self.inside.names c.insert-2.new.self
    c.self.invariant
    (none_refuses messages c.args.message c.in_ok-at.at
    (ap (λ ms. nat_le message_limit (length ms)) c.self.view_is ∙ c.in_ok-at.ensures.room) gap
    (is_new message_name messages c.self.inside.names c.args.message.name c.in_ok-name.name true c.self.invariant.index
    c.in_ok-name.ensures (sym c.in-Ok-true.field-0-test ∙ c.in-Ok-true.ensures.new)))
    gap c.in_ok-insert.ensures.ok
    (λ n. c.in-Ok-true.ensures.ok n ∙ ap (λ m. bytes_eq m n || holds_name c.self.inside.names n) c.in_ok-name.ensures)

pub invariant_of-self-in-Ok-false : goal.invariant_of-self-in-Ok-false
invariant_of-self-in-Ok-false c =
    same_messages c.self.inside.messages c.remove.new.self c.self.inside.names c.insert-2.new.self c.self.invariant
    (c.remove.ensures.rest ∙ ap (λ ms. remove ms c.in_ok-at.at) c.in_ok-insert.ensures.ok
    ∙ remove_inserted c.self.inside.messages c.in_ok-at.at c.args.message
    (gap_in c.args.self.now c.self.inside.messages (number_of c.args.message) (number_of c.args.message) c.in_ok-at.at
    (sym c.self.view_is) refl c.in_ok-at.ensures.gap).within)
    (λ n. c.in-Ok-false.ensures.ok n
    ∙ added_again c.self.inside.names c.in_ok-name.name n
    (sym c.in-Ok-false.field-0-test ∙ c.in-Ok-false.ensures.new))

pub invariant_of-self-in-Err : goal.invariant_of-self-in-Err
invariant_of-self-in-Err c =
    same_messages c.self.inside.messages c.remove-in-Err.new.self c.self.inside.names c.insert-2.new.self
    c.self.invariant
    (c.remove-in-Err.ensures.rest ∙ ap (λ ms. remove ms c.in_ok-at.at) c.in_ok-insert.ensures.ok
    ∙ remove_inserted c.self.inside.messages c.in_ok-at.at c.args.message
    (gap_in c.args.self.now c.self.inside.messages (number_of c.args.message) (number_of c.args.message) c.in_ok-at.at
    (sym c.self.view_is) refl c.in_ok-at.ensures.gap).within)
    c.in-Err.ensures.err

pub returns-in-Ok-true-clause-ok : goal.returns-in-Ok-true-clause-ok
returns-in-Ok-true-clause-ok c =
    c.in_ok-insert.ensures.ok ∙ ap (λ ms. insert ms c.in_ok-at.at c.args.message) c.self.view_is
    ∙ sym (put_gap number_of c.args.message c.args.self.now c.in_ok-at.at c.in_ok-at.ensures.gap)

pub returns-in-Ok-true-clause-map : goal.returns-in-Ok-true-clause-map
returns-in-Ok-true-clause-map c = λ n.
    ap (λ ms. message_at ms n) (returns-in-Ok-true-clause-ok c)
    ∙ find_put number_of c.args.message c.args.self.now c.in_ok-at.at n c.in_ok-at.ensures.gap

pub returns-in-Ok-true-clause-allowed : goal.returns-in-Ok-true-clause-allowed
returns-in-Ok-true-clause-allowed c =
    none_refuses c.args.self.now c.args.message c.in_ok-at.at c.in_ok-at.ensures.room c.in_ok-at.ensures.gap
    (ap (λ ms. has_name message_name ms c.args.message.name) (sym c.self.view_is)
    ∙ is_new message_name c.self.inside.messages c.self.inside.names c.args.message.name c.in_ok-name.name true
    c.self.invariant.index c.in_ok-name.ensures (sym c.in-Ok-true.field-0-test ∙ c.in-Ok-true.ensures.new))

pub returns-in-Ok-false-clause-refused : goal.returns-in-Ok-false-clause-refused
returns-in-Ok-false-clause-refused c =
    third_refuses c.args.self.now c.args.message c.in_ok-at.at c.in_ok-at.ensures.room c.in_ok-at.ensures.gap
    (ap (λ ms. has_name message_name ms c.args.message.name) (sym c.self.view_is)
    ∙ is_new message_name c.self.inside.messages c.self.inside.names c.args.message.name c.in_ok-name.name false
    c.self.invariant.index c.in_ok-name.ensures (sym c.in-Ok-false.field-0-test ∙ c.in-Ok-false.ensures.new))

pub returns-in-Ok-false-clause-err : goal.returns-in-Ok-false-clause-err
returns-in-Ok-false-clause-err c =
    c.remove.ensures.rest ∙ ap (λ ms. remove ms c.in_ok-at.at)
    (c.in_ok-insert.ensures.ok ∙ ap (λ ms. insert ms c.in_ok-at.at c.args.message) c.self.view_is)
    ∙ remove_inserted c.args.self.now c.in_ok-at.at c.args.message c.in_ok-at.ensures.gap.within

pub returns-in-Err-clause-err : goal.returns-in-Err-clause-err
returns-in-Err-clause-err c =
    c.remove-in-Err.ensures.rest
    ∙ ap (λ ms. remove ms c.in_ok-at.at)
    (c.in_ok-insert.ensures.ok ∙ ap (λ ms. insert ms c.in_ok-at.at c.args.message) c.self.view_is)
    ∙ remove_inserted c.args.self.now c.in_ok-at.at c.args.message c.in_ok-at.ensures.gap.within
