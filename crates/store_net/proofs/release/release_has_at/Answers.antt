use Rattle.store_net.proofs.Common.{Option, sym, ap, ◌∙◌, slice_get, IfOk-weaker, Sheet, state, tables_of}
use Rattle.store_net.specs.Texts.{release_has}
use Rattle.store_net.proofs.Released.{its_release, no_release}
use Rattle.store_net.proofs.release.release_has_at.Goals as goal

pub returns-in-Some-clause-found : goal.returns-in-Some-clause-found
returns-in-Some-clause-found g c clean office =
    IfOk-weaker c.body_has.result _ _
    (λ found has net there.
    let release = its_release c.args.name.now c.args.number
    (tables_of (state g.S.Store c.args.tx.now.conn.now).now.trees) c.in_ok-rows.rows.items c.in-Some.row.now
    c.in_ok-blob_at-in-Some.field-0.now net there
    (rw c.as_bytes.ensures.bytes at (c.in_ok-rows.ensures.found clean office))
    (c.in-Some.ensures.value ∙ ap (λ l. slice_get l 0) c.deref.ensures.value) c.in_ok-blob_at-in-Some.ensures in
    has release.0 release.2 ∙ sym (ap (λ (o : Option Sheet). release_has o c.args.ident) release.1))
    c.body_has.ensures

pub returns-clause-found : goal.returns-clause-found
returns-clause-found g c clean office net there =
    let none = no_release c.args.name.now c.args.number (tables_of (state g.S.Store c.args.tx.now.conn.now).now.trees)
    c.in_ok-rows.rows.items net there (rw c.as_bytes.ensures.bytes at (c.in_ok-rows.ensures.found clean office))
    (c.in-None.ensures.value ∙ ap (λ l. slice_get l 0) c.deref.ensures.value) in
    sym (ap (λ (o : Option Sheet). release_has o c.args.ident) none)
