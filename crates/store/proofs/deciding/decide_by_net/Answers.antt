use Rattle.store.proofs.Common.{◌≡◌, ◌∙◌, Option, Some, ap, sym, subst, arith, Database, state, HasCleanDisk}
use Rattle.store.proofs.Common.{IsDecision, IsOffice, tables_of, next_number, IsBookIn}
use Rattle.office_types.specs.declared.book.SpnBook.{SpnBook as Book}
use Rattle.office_types.specs.declared.state.Net.{Net as Network}
use Rattle.store.proofs.deciding.decide_by_net.Goals as goal

pub returns-clause-decided : goal.returns-clause-decided
returns-clause-decided g c clean office net book at in_book =
    let s0 = state g.S.Store c.args.tx.now.conn.now in
    let s1 = state g.S.Store c.net_at.new.tx.conn.now in
    let clean1 : HasCleanDisk s1 = omega (arith, c.book_of.ensures.frame.survives.clean, clean) in
    let now1 : s1.now ≡ s0.now = (c.in_ok-net.ensures.frame.same clean1 office).0.now_is in
    let office1 : IsOffice s1.now = subst IsOffice (sym now1) office in
    let book_is = c.in_ok-book.ensures.found clean office1 book
    (subst (λ (d : Database). IsBookIn (tables_of d.trees) book) (sym now1) in_book) in
    let team = c.args.team.now in
    let command = c.args.command.now in
    let decision = c.in_ok-decision.decision in
    let read = c.in_ok-net.net in
    let net_is : read ≡ net = c.in_ok-net.ensures.found clean1 office net at in
    let of_net : IsDecision team (record { net = net; book = c.in_ok-book.book }) command decision =
    subst (λ (n : Option Network). IsDecision team (record { net = n; book = c.in_ok-book.book }) command decision)
    (c.as_ref.ensures.value ∙ net_is) c.in_ok-decision.ensures.decision in (
      subst (λ (b : Book). IsDecision team (record { net = net; book = b }) command decision) book_is of_net,
      λ released. ap Some (c.in_ok-next.ensures ∙ ap next_number (c.as_ref-2.ensures.value ∙ net_is)),
    )
