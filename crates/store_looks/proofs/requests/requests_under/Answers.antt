use Rattle.store_rows.proofs.Made.{on_any}
use Rattle.store_looks.proofs.Common.{◌≡◌, ◌∙◌, ℕ, List, [], ◌∷◌, ◌++◌, sym, ap, subst, arith, Database, state}
use Rattle.store_looks.proofs.Common.{HasCleanDisk, unchanged_then, asked, IsOffice, tables_of, AreKept, AreKeptParts}
use Rattle.sqlite.proofs.InsideLemmas.{keeps_then}
use Rattle.office_types.specs.declared.reply.Reply.{Reply}
use Rattle.store_rows.proofs.Frames.{nothing_left}
use Rattle.store_looks.proofs.Asked.{all_told, one_told}
use Rattle.store_looks.proofs.requests.requests_under.Goals as goal

pub loop-key-preserved : goal.loop-key-preserved
loop-key-preserved g c =
    let old = state g.S.Store c.args.tx.now.conn.now in
    let mid = state g.S.Store c.loop-key.tx.conn.now in
    let now = state g.S.Store c.kept_under.new.tx.conn.now in
    let keys = c.args.keys.now in
    let i = c.loop-key.invariant in
    let w = c.in_ok-kept_under.ensures in
    let early : HasCleanDisk now → HasCleanDisk mid = λ clean. omega (arith, w.frame.survives.clean, clean) in
    let office : HasCleanDisk now → IsOffice old.now → IsOffice mid.now =
    λ clean was. subst IsOffice (sym (i.now_is (early clean) was)) was in
    let told : c.in_ok-request.request
    ≡ asked c.key-item.result c.in_ok-kept_under.field-0.content c.in_ok-kept_under.field-0.reply =
    c.in_ok-request.ensures
    ∙ ap (λ content. asked c.key-item.result content c.into_parts-content.result.1) c.as_slice.ensures
    ∙ ap (λ (p : List ℕ × Reply). asked c.key-item.result p.0 p.1) c.into_parts-content.ensures in
    record {
      same_reference = w.frame.same_reference ∙ i.same_reference;
      now_is = λ clean was. (w.frame.same clean (office clean was)).0.now_is ∙ i.now_is (early clean) was;
      same = λ clean was is_open. unchanged_then old mid now (i.same (early clean) was is_open)
          (w.frame.same clean (office clean was));
      kept = λ clean was. keeps_then old mid now (i.kept (early clean) was) (w.frame.kept clean (office clean was));
      survives = nothing_left old mid now i.survives w.frame.survives;
      reported = λ clean was h kept parts listed all same.
          one_told h c.args.team.now keys listed c.loop-key.key-index c.in_ok-kept_under.field-0 c.key-item.result
          c.loop-key.requests.items c.push.new.self.items same all c.loop-key-test.true c.key-item.is
          (λ a first named. w.found clean (office clean was) h
          (subst (λ (d : Database). AreKept h (tables_of d.trees).reply) (sym (i.now_is (early clean) was)) kept)
          (subst (λ (d : Database). AreKeptParts h (tables_of d.trees).part) (sym (i.now_is (early clean) was)) parts)
          a first named) (i.reported (early clean) was h kept parts listed all same)
          (c.in_ok-push.ensures.items ∙ ap (λ request. c.loop-key.requests.items ++ request ∷ []) told);
    }

pub returns-in_err-push-clause-frame : goal.returns-in_err-push-clause-frame
returns-in_err-push-clause-frame g c =
    let old = state g.S.Store c.args.tx.now.conn.now in
    let mid = state g.S.Store c.loop-key.tx.conn.now in
    let now = state g.S.Store c.kept_under.new.tx.conn.now in
    let i = c.loop-key.invariant in
    let w = c.in_ok-kept_under.ensures in
    let early : HasCleanDisk now → HasCleanDisk mid = λ clean. omega (arith, w.frame.survives.clean, clean) in
    let office : HasCleanDisk now → IsOffice old.now → IsOffice mid.now =
    λ clean was. subst IsOffice (sym (i.now_is (early clean) was)) was in
    record {
      same_reference = w.frame.same_reference ∙ i.same_reference;
      same = λ clean was is_open. on_any c.from_residual-in_err-push.result
          (unchanged_then old mid now (i.same (early clean) was is_open) (w.frame.same clean (office clean was)));
      kept = λ clean was. keeps_then old mid now (i.kept (early clean) was) (w.frame.kept clean (office clean was));
      survives = nothing_left old mid now i.survives w.frame.survives;
    }

pub returns-clause-found : goal.returns-clause-found
returns-clause-found g c clean office h kept parts listed all same =
    all_told c.args.keys.now listed c.loop-key.key-index c.loop-key.requests.items same
    c.loop-key-test.false (c.loop-key.invariant.reported clean office h kept parts listed all same)
