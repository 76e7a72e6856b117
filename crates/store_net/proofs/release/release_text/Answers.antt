use Rattle.store_net.proofs.Common.{Option, None, Some, refl, sym, ap, subst, ◌∙◌, slice_get, option_map}
use Rattle.store_net.proofs.Common.{canonical_text, Sheet, state, tables_of}
use Rattle.store_net.specs.Texts.{IsTextOf}
use Rattle.store_net.proofs.Released.{its_release, no_release}
use Rattle.store_net.proofs.release.release_text.Goals as goal

pub returns-in-Some-clause-found : goal.returns-in-Some-clause-found
returns-in-Some-clause-found g c clean office net there =
    let release = its_release c.args.name.now c.args.number
    (tables_of (state g.S.Store c.args.tx.now.conn.now).now.trees) c.in_ok-rows.rows.items c.in-Some.row.now
    c.in_ok-blob_at-in-Some.field-0.now net there
    (rw c.as_bytes.ensures.bytes at (c.in_ok-rows.ensures.found clean office))
    (c.in-Some.ensures.value ∙ ap (λ l. slice_get l 0) c.deref.ensures.value) c.in_ok-blob_at-in-Some.ensures in
    ap Some (c.in_ok-canonical_of-in-Some.ensures.text release.0 release.2)
    ∙ sym (ap (λ (o : Option Sheet). option_map canonical_text o) release.1)

pub returns-in-Some-clause-reads : goal.returns-in-Some-clause-reads
returns-in-Some-clause-reads g c clean office net there =
    let release = its_release c.args.name.now c.args.number
    (tables_of (state g.S.Store c.args.tx.now.conn.now).now.trees) c.in_ok-rows.rows.items c.in-Some.row.now
    c.in_ok-blob_at-in-Some.field-0.now net there
    (rw c.as_bytes.ensures.bytes at (c.in_ok-rows.ensures.found clean office))
    (c.in-Some.ensures.value ∙ ap (λ l. slice_get l 0) c.deref.ensures.value) c.in_ok-blob_at-in-Some.ensures in
    subst (λ (o : Option Sheet). IsTextOf o (Some c.in_ok-canonical_of-in-Some.field-0.items)) (sym release.1)
    (c.in_ok-canonical_of-in-Some.ensures.reads release.0 release.2)

pub returns-clause-found : goal.returns-clause-found
returns-clause-found g c clean office net there =
    let none = no_release c.args.name.now c.args.number (tables_of (state g.S.Store c.args.tx.now.conn.now).now.trees)
    c.in_ok-rows.rows.items net there (rw c.as_bytes.ensures.bytes at (c.in_ok-rows.ensures.found clean office))
    (c.in-None.ensures.value ∙ ap (λ l. slice_get l 0) c.deref.ensures.value) in
    sym (ap (λ (o : Option Sheet). option_map canonical_text o) none)

pub returns-clause-reads : goal.returns-clause-reads
returns-clause-reads g c clean office net there =
    let none = no_release c.args.name.now c.args.number (tables_of (state g.S.Store c.args.tx.now.conn.now).now.trees)
    c.in_ok-rows.rows.items net there (rw c.as_bytes.ensures.bytes at (c.in_ok-rows.ensures.found clean office))
    (c.in-None.ensures.value ∙ ap (λ l. slice_get l 0) c.deref.ensures.value) in
    subst (λ (o : Option Sheet). IsTextOf o None) (sym none) refl
