-- The names of released messages.
use Rattle.office_history.proofs.Common.{List, All, Contains, Sheet, StepsAgree}
use Rattle.std.proofs.lemmas.List.Elements.{All-contains}
use Rattle.can_id.specs.Ident.{IsIdentifier}
use Rattle.dbc_sheet.specs.Form.{IsSheet}
use Rattle.dbc_sheet.specs.declared.message.Message.{Message}
use Rattle.office_types.specs.declared.state.LiveMessage.{LiveMessage}
use Rattle.can_id.specs.declared.ident.Ident.{Ident}
use Rattle.office_rules.specs.Kept.{AgreeOnNames, AreReleases, HaveOneName, IsNet}
use Rattle.office_law.proofs.Idents.{same_number}
use Rattle.office_law.proofs.Sheets.{keeps_message}
use Rattle.office_history.specs.Laws.{NumbersKeepTheirNames}
use Rattle.office_history.proofs.Offices.{histories_leave_offices}

released_ident : (live : List LiveMessage) (held : List Ident) (releases : List Sheet) (s : Sheet) (m : Message)
    → AreReleases live held releases → Contains releases s
    → Contains s.messages m → IsIdentifier m.ident
released_ident live held releases s m h there has =
    (keeps_message s m (All-contains IsSheet releases s h.sheets there) has).form.ident

pub numbers_keep_their_names : StepsAgree → NumbersKeepTheirNames
numbers_keep_their_names agree h office net s t m n all legal here first second has also same =
    let kept = (All-contains IsNet office.nets net ((histories_leave_offices agree).kept h office all legal).nets
    here).releases in
    let agree_on : AgreeOnNames s t =
    All-contains (AgreeOnNames s) net.releases t
    (All-contains (λ (r : Sheet). All (AgreeOnNames r) net.releases) net.releases s kept.one_name first) second in
    let one : HaveOneName m n =
    All-contains (HaveOneName m) t.messages n
    (All-contains (λ (x : Message). All (HaveOneName x) t.messages) s.messages m agree_on has) also in
    one (same_number m.ident n.ident (released_ident net.live net.held net.releases s m kept first has)
    (released_ident net.live net.held net.releases t n kept second also) same)
