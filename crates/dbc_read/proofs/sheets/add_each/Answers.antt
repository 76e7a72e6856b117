use Rattle.dbc_read.proofs.Common.{◌≡◌, ◌++◌, ◌∷◌, ◌∙◌, IsPermutation, ap, refl, sym, subst, AllByRecursion}
use Rattle.dbc_read.proofs.Common.{into_iter_items, err_from_is_err_and, put, by_number, message_tests, Message, Sheet}
use Rattle.dbc_read.proofs.Common.{message_with, message_of}
use Rattle.base.proofs.Refusals.{none_holds}
use Rattle.dbc_read.specs.Attaching.{line_signals, messages_of_lines}
use Rattle.dbc_read.specs.Fit.{IsFit}
use Rattle.dbc_read.proofs.Building.{first_line}
use Rattle.dbc_read.proofs.Putting.{one_put}
use Rattle.dbc_read.proofs.Refused.{unless}
use Rattle.dbc_read.proofs.SheetsFit.{message_refused}
use Rattle.dbc_read.proofs.sheets.add_each.Goals as goal

pub loop-line-preserved : goal.loop-line-preserved
loop-line-preserved c =
    let at = c.loop-line in
    let m = c.in_ok-message.message in
    let old = at.sheet in
    let start = c.args.sheet.now in
    let left = messages_of_lines (into_iter_items c.next.new.self) c.next_or-comment.new.self in
    let whole = start.messages ++ messages_of_lines c.args.lines.items c.args.comments in
    let first : messages_of_lines (into_iter_items at.line-iterator) at.comments ≡ m ∷ left
    = first_line _ c.in-Some.line _ at.comments _ c.empty.result c.next_or-comment.result m c.in-Some.ensures.steps.0
    c.empty.ensures c.next_or-comment.ensures.value c.next_or-comment.ensures.rest c.in_ok-message.ensures.ok in
    let new = c.with_message.new.self in
    let ok : new ≡ record old { messages = put by_number m old.messages } = c.in_ok-with_message.ensures.ok in
    record {
      rest = subst (λ l. IsPermutation whole (l ++ left)) (sym (ap (λ (s : Sheet). s.messages) ok))
          (one_put whole old.messages m left
          (none_holds (message_tests old.messages m) c.in_ok-with_message.ensures.allowed).1.0
          (subst (λ l. IsPermutation whole (old.messages ++ l)) first at.invariant.rest));
      fit = λ all. (subst (AllByRecursion IsFit) first (at.invariant.fit all)).1;
      same = ok ∙ ap (λ (s : Sheet). record s { messages = put by_number m old.messages }) at.invariant.same
          ∙ sym (ap (λ (s : Sheet). record start { messages = s.messages }) ok);
    }

pub returns-in_err-message-clause-refused : goal.returns-in_err-message-clause-refused
returns-in_err-message-clause-refused c =
    let r = c.from_residual in
    let p = err_from_is_err_and r.result r.ensures.1 in
    let at = c.loop-line in
    let m : Message = message_with (message_of c.in-Some.line) c.next_or-comment.result (line_signals c.in-Some.line) in
    let first = first_line _ c.in-Some.line _ at.comments _ c.empty.result c.next_or-comment.result m
    c.in-Some.ensures.steps.0 c.empty.ensures c.next_or-comment.ensures.value c.next_or-comment.ensures.rest
    refl in
    rw (p.1, p.2) (unless _ _ _ (λ add. (subst (AllByRecursion IsFit) first (at.invariant.fit add.fit)).0)
    c.in_err-message.ensures.refused)

pub returns-in_err-with_message-clause-refused : goal.returns-in_err-with_message-clause-refused
returns-in_err-with_message-clause-refused c =
    let r = c.from_residual-in_err-with_message in
    let p = err_from_is_err_and r.result r.ensures.1 in
    let at = c.loop-line in
    let m = c.in_ok-message.message in
    let before = at.sheet.messages in
    let left = messages_of_lines (into_iter_items c.next.new.self) c.next_or-comment.new.self in
    let whole = c.args.sheet.now.messages ++ messages_of_lines c.args.lines.items c.args.comments in
    let first : messages_of_lines (into_iter_items at.line-iterator) at.comments ≡ m ∷ left
    = first_line _ c.in-Some.line _ at.comments _ c.empty.result c.next_or-comment.result m c.in-Some.ensures.steps.0
    c.empty.ensures c.next_or-comment.ensures.value c.next_or-comment.ensures.rest c.in_ok-message.ensures.ok in
    rw (p.1, p.2) (unless _ _ _ (λ add. add.together)
    (message_refused before m left whole _ (subst (λ l. IsPermutation whole (before ++ l)) first at.invariant.rest)
    c.in_err-with_message.ensures.refused))
