use Rattle.store_changes.proofs.Common.{◌≡◌, List, sym, ap, ◌∙◌, Sheet}
use Rattle.std.proofs.lemmas.Slice.Eq.{slice_eq-Decides}
use Rattle.dbc_sheet.specs.declared.message.Message.{Message}
use Rattle.store_changes.proofs.release_sheet.release_sheet.Goals as goal

pub returns-then-eq : goal.returns-then-eq
returns-then-eq c =
    let release = c.args.release.now in
    let sheet = c.add_messages.new.sheet in
    let with : Sheet → List Message → Sheet = λ s l. record s { messages = l } in
    let reported : c.messages-2.result.now ≡ c.messages-3.result.now =
    (slice_eq-Decides c.same_messages_are_equal.ensures c.messages-2.result.now c.messages-3.result.now c.eq.result
    c.eq.ensures).0 c.if-eq.true in
    let same : sheet.messages ≡ release.messages = sym c.messages-2.ensures.messages ∙ reported
    ∙ c.messages-3.ensures in
    c.in_ok-add_messages.ensures ∙ ap (λ s. with s sheet.messages) c.take_messages-own.ensures.rest
    ∙ ap (λ s. with s sheet.messages) c.in_ok-sheet.ensures
    ∙ ap (with c.frame.result.now) same ∙ c.frame.ensures
