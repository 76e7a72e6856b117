use Rattle.store.proofs.Common.{◌∷◌, ◌++◌, [], ap, refl, sym, subst, ◌∙◌, IsTrue, Database, state, statistics_of}
use Rattle.store.proofs.Common.{IsOffice, tables_of, first_of, answered}
use Rattle.office_history.specs.History.{answer_again}
use Rattle.store.specs.Holds.{Holds}
use Rattle.store.proofs.OneArrival.{again_holds, some_of}
use Rattle.store.proofs.arriving.arrive_inside.Goals as goal

pub returns-in-Some-clause-held : goal.returns-in-Some-clause-held
returns-in-Some-clause-held g c clean office h holds =
    let old = state g.S.Store c.args.tx.now.conn.now in
    let a = answered c.args.team.now c.args.key.now c.args.request.now c.in-Some.answer in
    let found = c.in_ok-answer.ensures.found clean office h holds.holds.replies holds.holds.parts a refl refl
    (sym c.as_slice.ensures.value) in
    let it = some_of (λ first. answer_again first a.content) (first_of h a) c.in-Some.answer (sym c.in-Some.is
    ∙ found) in
    let now = (c.in_ok-answer.ensures.frame.same clean office).0.now_is in
    subst (λ (db : Database). Holds (h ++ a ∷ []) (tables_of db.trees)) (sym now)
    (again_holds h a it.0 (tables_of old.now.trees) holds (c.as_bytes.ensures.keeps, c.command_is_in_range.ensures)
    it.1 it.2)

pub returns-in-Some-clause-frame : goal.returns-in-Some-clause-frame
returns-in-Some-clause-frame g c =
    let f = c.in_ok-answer.ensures.frame in
    record {
      same_reference = f.same_reference;
      office = λ clean was. subst IsOffice (sym (f.same clean was).0.now_is) was;
      same_schema = λ clean was. ap (λ (d : Database). d.schema) (f.same clean was).0.now_is;
      statistics = λ clean was. ap statistics_of (f.same clean was).0.now_is;
      inside = λ clean was mode. subst IsTrue (sym (f.same clean was).0.mode) mode;
      kept = f.kept;
      survives = f.survives;
    }
