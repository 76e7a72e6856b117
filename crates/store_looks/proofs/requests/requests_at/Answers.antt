use Rattle.store_looks.proofs.Common.{◌≡◌, ◌∙◌, sym, ap, subst, arith, Database, state, HasCleanDisk, unchanged_then}
use Rattle.store_looks.proofs.Common.{AreKept, AreKeptParts, IsOffice, tables_of}
use Rattle.std.proofs.Common.{rules}
use Rattle.office_looks.specs.Looks.{list_in}
use Rattle.office_looks.specs.Requests.{requests_table}
use Rattle.store_looks.proofs.Asked.{are_requests}
use Rattle.store_looks.proofs.requests.requests_at.Goals as goal

pub returns-clause-found : goal.returns-clause-found
returns-clause-found g c clean office h kept parts =
    let s0 = state g.S.Store c.args.tx.now.conn.now in
    let s1 = state g.S.Store c.keys_of.new.tx.conn.now in
    let clean1 : HasCleanDisk s1 = omega (arith, c.in_ok-requests.ensures.frame.survives.clean, clean) in
    let now1 : s1.now ≡ s0.now = (c.in_ok-keys.ensures.frame.same clean1 office).0.now_is in
    let office1 : IsOffice s1.now = subst IsOffice (sym now1) office in (
      c.in_ok-requests.requests.items,
      are_requests c.args.team.now h (tables_of s0.now.trees).reply c.in_ok-keys.keys.items
          c.in_ok-requests.requests.items kept (c.in_ok-keys.ensures.found clean1 office h kept)
          (λ listed all are. c.in_ok-requests.ensures.found clean office1 h
          (subst (λ (d : Database). AreKept h (tables_of d.trees).reply) (sym now1) kept)
          (subst (λ (d : Database). AreKeptParts h (tables_of d.trees).part) (sym now1) parts) listed all
          (c.deref.ensures.value ∙ are)),
      c.in_ok-requests_text.ensures
          ∙ ap (λ requests. list_in c.args.form (requests_table requests)) c.deref-2.ensures.value,
    )

pub returns-clause-frame : goal.returns-clause-frame
returns-clause-frame g c = record {
  same_reference = search rules;
  same = λ clean office.
      let s0 = state g.S.Store c.args.tx.now.conn.now in
      let s1 = state g.S.Store c.keys_of.new.tx.conn.now in
      let s2 = state g.S.Store c.requests_under.new.tx.conn.now in
      let clean1 : HasCleanDisk s1 = omega (arith, c.in_ok-requests.ensures.frame.survives.clean, clean) in
      let first = c.in_ok-keys.ensures.frame.same clean1 office in
      let office1 : IsOffice s1.now = subst IsOffice (sym first.0.now_is) office in
      unchanged_then s0 s1 s2 first (c.in_ok-requests.ensures.frame.same clean office1 first.0.is_open);
  kept = search rules;
  survives = search rules;
}
