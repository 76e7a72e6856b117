use Rattle.office_decide.proofs.Common.{◌≡◌, ◌∙◌, Option, Some, ap, sym, subst, option_copied, IfOk-weaker, Import, Net}
use Rattle.office_decide.proofs.Common.{NetAndBook}
use Rattle.office_decide.specs.Imported.{IsImportDecision}
use Rattle.office_decide.proofs.Decisions.{action_decided, bundle_decided, decision_if_read, import_decided}
use Rattle.office_decide.proofs.Decisions.{no_net_decided}
use Rattle.office_decide.proofs.deciding.decide.Goals as goal

pub returns-in-Act-clause-read : goal.returns-in-Act-clause-read
returns-in-Act-clause-read c =
    let before : NetAndBook = record { net = option_copied c.args.net; book = c.args.book.now } in
    IfOk-weaker c.decide_by_walk.result _ _
    (λ d h. action_decided c.args.team.now before c.args.command.now c.in-Act.action d c.in-Act.is h)
    c.decide_by_walk.ensures

pub returns-in-Act-clause-decision : goal.returns-in-Act-clause-decision
returns-in-Act-clause-decision c =
    IfOk-weaker c.decide_by_walk.result _ _ (λ d h. decision_if_read _ _ c.args.command.now d h)
    (returns-in-Act-clause-read c)

pub returns-in-None-clause-read : goal.returns-in-None-clause-read
returns-in-None-clause-read c =
    no_net_decided c.args.team.now (option_copied c.args.net) c.args.book.now c.args.command.now c.in-Import.file _
    c.in-Import.is (ap option_copied c.in-None.is)
    c.refusal_decision.ensures.changes (c.refusal_decision.ensures.reply ∙ cc)

pub returns-in-None-clause-decision : goal.returns-in-None-clause-decision
returns-in-None-clause-decision c = decision_if_read _ _ c.args.command.now _ (returns-in-None-clause-read c)

pub returns-in-Some-clause-read : goal.returns-in-Some-clause-read
returns-in-Some-clause-read c =
    let team = c.args.team.now in
    let before : NetAndBook = record { net = option_copied c.args.net; book = c.args.book.now } in
    let there : option_copied c.args.net ≡ Some c.in-Some.net.now = ap option_copied c.in-Some.is in
    IfOk-weaker c.decide_import_of.result _ _
    (λ d h. import_decided team before c.args.command.now c.as_slice.result.now d
    (c.in-Import.is ∙ ap Import (sym c.as_slice.ensures))
    (subst (λ (n : Option Net). IsImportDecision team n c.as_slice.result.now d) (sym there) h))
    c.decide_import_of.ensures

pub returns-in-Some-clause-decision : goal.returns-in-Some-clause-decision
returns-in-Some-clause-decision c =
    IfOk-weaker c.decide_import_of.result _ _ (λ d h. decision_if_read _ _ c.args.command.now d h)
    (returns-in-Some-clause-read c)

pub returns-in-Bundle-clause-read : goal.returns-in-Bundle-clause-read
returns-in-Bundle-clause-read c =
    let before : NetAndBook = record { net = option_copied c.args.net; book = c.args.book.now } in
    IfOk-weaker c.decide_bundle.result _ _
    (λ d h. bundle_decided c.args.team.now before c.args.command.now c.in-Bundle.parts d c.in-Bundle.is h)
    c.decide_bundle.ensures

pub returns-in-Bundle-clause-decision : goal.returns-in-Bundle-clause-decision
returns-in-Bundle-clause-decision c =
    IfOk-weaker c.decide_bundle.result _ _ (λ d h. decision_if_read _ _ c.args.command.now d h)
    (returns-in-Bundle-clause-read c)
