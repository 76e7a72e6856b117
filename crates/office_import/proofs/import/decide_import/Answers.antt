use Rattle.office_import.proofs.Common.{ℕ, List, Some, sym, subst, ◌∙◌, SpnBook, Net, Decides, Reading, import_tests}
use Rattle.office_import.proofs.Common.{Decides-refused}
use Rattle.std.proofs.Common.{IfOk}
use Rattle.office_rules.specs.Importing.{import}
use Rattle.office_import.proofs.Refused.{refused_early}
use Rattle.office_import.proofs.import.decide_import.Goals as goal

pub returns-in-Some : goal.returns-in-Some
returns-in-Some c = λ name book.
    let team = c.args.team.now in
    let net = c.args.net.now in
    let s = c.args.file.now in
    Decides-refused name (record { net = Some net; book = book }) (import_tests team (Some net) (Reading s)) _
    c.refusal_decision.result c.in-Some.refusal
    (refused_early team net s c.in-Some.refusal (sym c.in-Some.is ∙ c.in_ok-refusal.ensures))
    c.refusal_decision.ensures.reply c.refusal_decision.ensures.changes

pub returns : goal.returns
returns c =
    let team = c.args.team.now in
    let s = c.args.file.now in
    subst (λ (n : Net). IfOk c.decide_clear.result
    (λ d. (name : List ℕ) → (book : SpnBook)
    → Decides name (record { net = Some n; book = book }) (import team (Some n) (Reading s)) d))
    c.in_ok-index.ensures c.decide_clear.ensures
