use Rattle.store.proofs.Common.{◌≡◌, ◌∙◌, ap, sym, subst, arith, false≢true, Database, state, HasCleanDisk, reads_part}
use Rattle.store.proofs.Common.{IsOffice, tables_of, IsBookIn}
use Rattle.office_facts.specs.Scope.{is_part}
use Rattle.store.proofs.DecidedOnPart.{absent_decided, excerpt_decided, fits_task}
use Rattle.store.proofs.deciding.decide_by_part.Goals as goal

pub excerpt_at-requires : goal.excerpt_at-requires
excerpt_at-requires g c = ap is_part c.scope_of.ensures ∙ sym (ap reads_part c.in-Act.is) ∙ c.requires

pub decide_by_excerpt-requires : goal.decide_by_excerpt-requires
decide_by_excerpt-requires g c =
    fits_task _ _ _ _ _ c.in-Act.is c.scope_of.ensures c.in-Some.is c.in_ok-excerpt.ensures.fits

pub decide_by_excerpt-requires-2 : goal.decide_by_excerpt-requires-2
decide_by_excerpt-requires-2 g c =
    fits_task _ _ _ _ _ c.in-Act.is c.scope_of.ensures c.in-Some.is c.in_ok-excerpt.ensures.fits

pub returns-then-reads_book-clause-decided : goal.returns-then-reads_book-clause-decided
returns-then-reads_book-clause-decided g c clean office net book at is_net in_book =
    let s0 = state g.S.Store c.args.tx.now.conn.now in
    let s1 = state g.S.Store c.excerpt_at.new.tx.conn.now in
    let clean1 : HasCleanDisk s1 = omega (arith, c.book_of.ensures.frame.survives.clean, clean) in
    let now1 : s1.now ≡ s0.now = (c.in_ok-excerpt.ensures.frame.same clean1 office).0.now_is in
    let office1 : IsOffice s1.now = subst IsOffice (sym now1) office in
    let found = c.in_ok-book.ensures.found clean office1 book
    (subst (λ (d : Database). IsBookIn (tables_of d.trees) book) (sym now1) in_book) in
    excerpt_decided c.releases_dont_count.ensures c.args.team.now c.args.command.now c.in_ok-decide_by_excerpt.field-0
    _ c.in-Some.excerpt net book _ c.in_ok-excerpt.field-0 c.requires c.in-Act.is
    c.scope_of.ensures c.in-Some.is (c.in_ok-excerpt.ensures.found clean1 office net at is_net)
    (λ n has. c.in_ok-decide_by_excerpt.ensures n book has (λ reads. sym found))

pub returns-clause-decided : goal.returns-clause-decided
returns-clause-decided g c clean office net book at is_net in_book =
    excerpt_decided c.releases_dont_count.ensures c.args.team.now c.args.command.now
    c.in_ok-decide_by_excerpt-2.field-0 _ c.in-Some.excerpt net book _ c.in_ok-excerpt.field-0 c.requires
    c.in-Act.is
    c.scope_of.ensures c.in-Some.is (c.in_ok-excerpt.ensures.found clean office net at is_net)
    (λ n has. c.in_ok-decide_by_excerpt-2.ensures n book has
    (λ reads. absurd (false≢true (sym c.if-reads_book.false ∙ c.reads_book.ensures ∙ reads))))

pub returns-in_default-2-clause-decided : goal.returns-in_default-2-clause-decided
returns-in_default-2-clause-decided g c clean office net book at is_net in_book =
    absent_decided c.args.team.now c.args.command.now c.in_ok-decide.field-0 c.empty_book.result net book _
    c.in_ok-excerpt.field-0 c.requires c.in_default-2.is
    (c.in_ok-excerpt.ensures.found clean office net at is_net) c.in_ok-decide.ensures.decision
