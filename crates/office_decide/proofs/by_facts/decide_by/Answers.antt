use Rattle.office_decide.proofs.Common.{Some, refl, sym, subst, IfOk-weaker, SpnBook, Action, Net, Decides, Facts}
use Rattle.office_rules.specs.Opening.{add_node, grant}
use Rattle.office_rules.specs.Reviewing.{approve, reject, release, submit}
use Rattle.office_rules.specs.Signals.{remove_signal, set_values, take_bits, take_spn}
use Rattle.office_net.proofs.Inside.{group_inside, ident_inside}
use Rattle.office_decide.proofs.ByFacts.{DecidesAll, by_head, by_message, matched, with_its_parts}
use Rattle.office_decide.proofs.by_facts.decide_by.Goals as goal

pub returns-in-AddNode : goal.returns-in-AddNode
returns-in-AddNode c =
    let name = c.args.name.now in
    let book = c.args.book.now in
    matched c.decide_add_node.result c.args.team.now name book _ _ _ _ c.in-AddNode.is c.in-Head.is
    (by_head c.decide_add_node.result name book _ (λ n. add_node n c.in-AddNode.node) c.decide_add_node.ensures)

pub returns-in-Submit : goal.returns-in-Submit
returns-in-Submit c =
    let team = c.args.team.now in
    let name = c.args.name.now in
    let book = c.args.book.now in
    matched c.decide_submit.result team name book _ _ _ _ c.in-Submit.is c.in-Head.is
    (by_head c.decide_submit.result name book _ (submit team) c.decide_submit.ensures)

pub returns-in-Approve : goal.returns-in-Approve
returns-in-Approve c =
    let team = c.args.team.now in
    let name = c.args.name.now in
    let book = c.args.book.now in
    matched c.decide_approve.result team name book _ _ _ _ c.in-Approve.is c.in-Head.is
    (by_head c.decide_approve.result name book _ (approve team) c.decide_approve.ensures)

pub returns-in-Reject : goal.returns-in-Reject
returns-in-Reject c =
    let team = c.args.team.now in
    let name = c.args.name.now in
    let book = c.args.book.now in
    matched c.decide_reject.result team name book _ _ _ _ c.in-Reject.is c.in-Head.is
    (by_head c.decide_reject.result name book _ (reject team) c.decide_reject.ensures)

pub returns-in-Grant : goal.returns-in-Grant
returns-in-Grant c =
    let team = c.args.team.now in
    let name = c.args.name.now in
    matched c.decide_grant.result team name c.args.book.now _ _ _ _ c.in-Grant.is c.in-Parts.is
    (IfOk-weaker c.decide_grant.result _ _
    (λ d h net other its good. subst
    (λ (n : Net). Decides name (record { net = Some n; book = other })
    (grant team name (Some n) other c.in-Grant.grant) d) (with_its_parts net _ _ its.0 its.1) (h net other good))
    c.decide_grant.ensures)

pub returns-in-TakeSpn : goal.returns-in-TakeSpn
returns-in-TakeSpn c =
    let team = c.args.team.now in
    let name = c.args.name.now in
    matched c.decide_take_spn.result team name c.args.book.now _ _ _ _ c.in-TakeSpn.is c.in-Message.is
    (IfOk-weaker c.decide_take_spn.result _ _
    (λ d h net other its good. subst
    (λ (book : SpnBook). Decides name (record { net = Some net; book = book })
    (take_spn team name (Some net) book c.in-TakeSpn.take) d) (sym (good refl)) (h net its))
    c.decide_take_spn.ensures)

pub returns-in-TakeBits : goal.returns-in-TakeBits
returns-in-TakeBits c =
    let team = c.args.team.now in
    let name = c.args.name.now in
    let book = c.args.book.now in
    let take = c.in-TakeBits.take in
    matched c.decide_take_bits.result team name book _ _ _ _ c.in-TakeBits.is c.in-Message.is
    (by_message c.decide_take_bits.result name take.path.message book _ (λ n. take_bits team (Some n) take)
    c.decide_take_bits.ensures)

pub returns-in-SetValues : goal.returns-in-SetValues
returns-in-SetValues c =
    let team = c.args.team.now in
    let name = c.args.name.now in
    let book = c.args.book.now in
    let set = c.in-SetValues.set in
    matched c.decide_set_values.result team name book _ _ _ _ c.in-SetValues.is c.in-Message.is
    (by_message c.decide_set_values.result name set.path.message book _ (λ n. set_values team (Some n) set)
    c.decide_set_values.ensures)

pub returns-in-RemoveSignal : goal.returns-in-RemoveSignal
returns-in-RemoveSignal c =
    let team = c.args.team.now in
    let name = c.args.name.now in
    let book = c.args.book.now in
    let path = c.in-RemoveSignal.path in
    matched c.decide_remove_signal.result team name book _ _ _ _ c.in-RemoveSignal.is c.in-Message.is
    (by_message c.decide_remove_signal.result name path.message book _ (λ n. remove_signal team (Some n) path)
    c.decide_remove_signal.ensures)

pub returns-in-Retire : goal.returns-in-Retire
returns-in-Retire c =
    let name = c.args.name.now in
    matched c.decide_retire.result c.args.team.now name c.args.book.now _ _ _ _ c.in-Retire.is c.in-Retiring.is
    (IfOk-weaker c.decide_retire.result _ _ (λ d h net other its good. h name c.in-Retire.field-0 net other its.0 its.1)
    c.decide_retire.ensures)

pub returns-in-TakeIdent : goal.returns-in-TakeIdent
returns-in-TakeIdent c =
    let team = c.args.team.now in
    let name = c.args.name.now in
    let law = c.numbers_elsewhere_do_not_count.ensures in
    matched c.decide_take_ident.result team name c.args.book.now _ _ _ _ c.in-TakeIdent.is c.in-Numbers.is
    (IfOk-weaker c.decide_take_ident.result _ _
    (λ d h net other its good. subst (λ out. Decides name (record { net = Some net; book = other }) out d)
    (ident_inside law team net c.in-TakeIdent.take _ its) (h name net other))
    c.decide_take_ident.ensures)

pub returns-in-TakePgn : goal.returns-in-TakePgn
returns-in-TakePgn c =
    let team = c.args.team.now in
    let name = c.args.name.now in
    let law = c.numbers_elsewhere_do_not_count.ensures in
    matched c.decide_take_pgn.result team name c.args.book.now _ _ _ _ c.in-TakePgn.is c.in-Numbers.is
    (IfOk-weaker c.decide_take_pgn.result _ _
    (λ d h net other its good. subst (λ out. Decides name (record { net = Some net; book = other }) out d)
    (group_inside law team net c.in-TakePgn.take _ its) (h name net other))
    c.decide_take_pgn.ensures)

pub returns-in-Release : goal.returns-in-Release
returns-in-Release c =
    let team = c.args.team.now in
    let name = c.args.name.now in
    matched c.decide_release.result team name c.args.book.now _ _ _ _ c.in-Release.is c.in-Whole.is
    (IfOk-weaker c.decide_release.result _ _
    (λ d h net other its good. subst
    (λ (n : Net). Decides name (record { net = Some n; book = other }) (release team (Some n)) d) its
    (h name other))
    c.decide_release.ensures)

pub returns-in-OpenNet : goal.returns-in-OpenNet
returns-in-OpenNet c =
    let name = c.args.name.now in
    subst (λ (p : Action × Facts). DecidesAll c.args.team.now name c.args.book.now p.0 p.1 c.decide_open_again.result)
    (λ i. (sym c.in-OpenNet.is i, sym c.in-Whole.is i))
    (λ net other its good. c.decide_open_again.ensures name net other c.in-OpenNet.field-0)
