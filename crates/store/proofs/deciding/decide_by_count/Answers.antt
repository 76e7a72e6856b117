use Rattle.store.proofs.Common.{◌≡◌, ◌∙◌, Option, ap, sym, subst, arith, Database, state, HasCleanDisk, IsDecision}
use Rattle.store.proofs.Common.{IsOffice, tables_of, next_number, IsBookIn}
use Rattle.office_types.specs.declared.book.SpnBook.{SpnBook as Book}
use Rattle.office_types.specs.declared.state.Net.{Net as Network}
use Rattle.store.proofs.CountedReleases.{net_counted}
use Rattle.store.proofs.deciding.decide_by_count.Goals as goal

pub returns-clause-decided : goal.returns-clause-decided
returns-clause-decided g c clean office net book at in_book =
    let s0 = state g.S.Store c.args.tx.now.conn.now in
    let s1 = state g.S.Store c.counted_net_at.new.tx.conn.now in
    let clean1 : HasCleanDisk s1 = omega (arith, c.book_of.ensures.frame.survives.clean, clean) in
    let now1 : s1.now ≡ s0.now = (c.in_ok-net.ensures.frame.same clean1 office).0.now_is in
    let office1 : IsOffice s1.now = subst IsOffice (sym now1) office in
    let book_is = c.in_ok-book.ensures.found clean office1 book
    (subst (λ (d : Database). IsBookIn (tables_of d.trees) book) (sym now1) in_book) in
    let team = c.args.team.now in
    let command = c.args.command.now in
    let decision = c.in_ok-decision.decision in
    let read = c.in_ok-net.net in
    let of_net : IsDecision team (record { net = read; book = c.in_ok-book.book }) command decision =
    subst (λ (n : Option Network). IsDecision team (record { net = n; book = c.in_ok-book.book }) command decision)
    c.as_ref.ensures.value c.in_ok-decision.ensures.decision in
    net_counted c.bodies_dont_count.ensures team command decision net read book c.in_ok-next.next c.requires
    (c.in_ok-net.ensures.found clean1 office net at)
    (c.in_ok-next.ensures ∙ ap next_number c.as_ref-2.ensures.value)
    (subst (λ (b : Book). IsDecision team (record { net = read; book = b }) command decision) book_is of_net)
