use Rattle.office_import.proofs.Common.{◌≡◌, List, None, Some, sym, ap, subst, ◌∙◌, flat_map, first_refusal, Message}
use Rattle.office_import.proofs.Common.{Decision, Net, Reading, import_sheet, import_tests, message_import_tests}
use Rattle.office_import.proofs.Common.{Decides-refused}
use Rattle.office_types.specs.declared.refusal.Refusal.TheVariants as no
use Rattle.office_import.specs.News.{CanWiden, HasRosters, frame_news}
use Rattle.office_facts.proofs.Deciding.{Decides-given}
use Rattle.office_import.proofs.Imported.{Decides-imported}
use Rattle.office_import.proofs.Refused.{none_refused, refused_each, refused_last}
use Rattle.office_import.proofs.Rostered.{can_widen}
use Rattle.office_import.proofs.import.decide_clear.Goals as goal

pub returns-in-Some : goal.returns-in-Some
returns-in-Some c = λ name book.
    let team = c.args.team.now in
    let net = c.args.index.now in
    let s = c.args.file.now in
    let some : Some c.in-Some.refusal ≡ first_refusal (flat_map (message_import_tests team net) s.messages) =
    sym c.in-Some.is ∙ c.first_refused.ensures
    ∙ ap (λ (ms : List Message). first_refusal (flat_map (message_import_tests team net) ms))
    c.messages.ensures.messages in
    Decides-refused name (record { net = Some net; book = book }) (import_tests team (Some net) (Reading s)) _
    c.refusal_decision.result c.in-Some.refusal
    (refused_each team net s c.in-Some.refusal c.requires some) c.refusal_decision.ensures.reply
    c.refusal_decision.ensures.changes

pub returns-then-is_too_large : goal.returns-then-is_too_large
returns-then-is_too_large c = λ name book.
    let team = c.args.team.now in
    let net = c.args.index.now in
    let s = c.args.file.now in
    let none : None ≡ first_refusal (flat_map (message_import_tests team net) s.messages) =
    sym c.in_default.is ∙ c.first_refused.ensures
    ∙ ap (λ (ms : List Message). first_refusal (flat_map (message_import_tests team net) ms))
    c.messages.ensures.messages in
    Decides-refused name (record { net = Some net; book = book }) (import_tests team (Some net) (Reading s)) _
    c.refusal_decision-then-is_too_large.result no.TooMany
    (refused_last team net s c.requires none (sym c.is_too_large.ensures ∙ c.if-is_too_large.true))
    c.refusal_decision-then-is_too_large.ensures.reply c.refusal_decision-then-is_too_large.ensures.changes

pub import_changes-requires-clause-room : goal.import_changes-requires-clause-room
import_changes-requires-clause-room c =
    let net = c.args.index.now in
    let s = c.args.file.now in
    subst (CanWiden net.head.frame)
    (sym (c.in_ok-news.ensures.news ∙ ap (λ (n : Net). frame_news n.head.frame s) c.net-2.ensures))
    (can_widen net s (subst (λ (n : Net). HasRosters n.head.frame) c.net-2.ensures c.in_ok-news.ensures.frame)
    c.in_ok-news.ensures.file
    (sym c.is_too_large.ensures ∙ c.if-is_too_large.false))

pub returns : goal.returns
returns c = λ name book.
    let team = c.args.team.now in
    let net = c.args.index.now in
    let s = c.args.file.now in
    let none : None ≡ first_refusal (flat_map (message_import_tests team net) s.messages) =
    sym c.in_default.is ∙ c.first_refused.ensures
    ∙ ap (λ (ms : List Message). first_refusal (flat_map (message_import_tests team net) ms))
    c.messages.ensures.messages in
    let d : Decision = record { changes = c.in_ok-changes.changes; reply = c.counts-reply.result } in
    Decides-given name (record { net = Some net; book = book }) (import_tests team (Some net) (Reading s))
    (import_sheet team net s) d
    (none_refused team net s c.requires none (sym c.is_too_large.ensures ∙ c.if-is_too_large.false))
    (Decides-imported name team net book s d c.in_ok-changes.ensures c.counts-reply.ensures)
