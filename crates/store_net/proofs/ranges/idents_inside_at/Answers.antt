use Rattle.store_net.proofs.Common.{◌≡◌, ◌∷◌, ◌++◌, [], ◌<◌, ◌+◌, ℕ, List, get_or, length, take, sym, ap, subst, ◌∙◌}
use Rattle.store_net.proofs.Common.{arith, take_all, take_more, Database, state, HasCleanDisk, unchanged_then}
use Rattle.store_net.proofs.Common.{keeps_then, Ident, Block, IsOffice, tables_of, nothing_left, on_any}
use Rattle.store_net.specs.Numbers.{HasTaken, dbc_of, idents_between, idents_inside}
use Rattle.store_net.proofs.Inside.{inside_more}
use Rattle.store_net.proofs.ranges.idents_inside_at.Goals as goal

pub loop-block-preserved : goal.loop-block-preserved
loop-block-preserved g c =
    let old = state g.S.Store c.args.tx.now.conn.now in
    let mid = state g.S.Store c.loop-block.tx.conn.now in
    let now = state g.S.Store c.idents_at.new.tx.conn.now in
    let name = c.args.name.now in
    let form = c.args.form in
    let blocks = c.args.blocks.now in
    let at = c.loop-block.block-index in
    let none : Block = record { first = 0; last = 0 } in
    let item = get_or blocks at none in
    let i = c.loop-block.invariant in
    let w = c.in_ok-inside.ensures in
    let within : at < length blocks = c.loop-block-test.true in
    let next : take (at + 1) blocks ≡ take at blocks ++ item ∷ [] = take_more blocks at none within in
    let early : HasCleanDisk now → HasCleanDisk mid = λ clean. omega (arith, w.frame.survives.clean, clean) in
    let office : HasCleanDisk now → IsOffice old.now → IsOffice mid.now =
    λ clean was. subst IsOffice (sym (i.now_is (early clean) was)) was in
    record {
      same_reference = w.frame.same_reference ∙ i.same_reference;
      now_is = λ clean was. (w.frame.same clean (office clean was)).0.now_is ∙ i.now_is (early clean) was;
      same = λ clean was is_open. unchanged_then old mid now (i.same (early clean) was is_open)
          (w.frame.same clean (office clean was));
      kept = λ clean was. keeps_then old mid now (i.kept (early clean) was) (w.frame.kept clean (office clean was));
      survives = nothing_left old mid now i.survives w.frame.survives;
      read = λ clean was idents has.
          let has1 : HasTaken c.args.table name (tables_of mid.now.trees) idents =
          subst (λ (d : Database). HasTaken c.args.table name (tables_of d.trees) idents)
          (sym (i.now_is (early clean) was)) has in
          let inside : c.in_ok-inside.inside ≡ idents_between (dbc_of form item.first) (dbc_of form item.last) idents =
          w.found clean (office clean was) idents has1
          ∙ ap (λ (n : ℕ). idents_between n c.dbc_of-last.result idents) c.dbc_of-first.ensures
          ∙ ap (λ (n : ℕ). idents_between (dbc_of form item.first) n idents) c.dbc_of-last.ensures in
          c.in_ok-extend_from_slice.ensures.items
          ∙ ap (λ (l : List Ident). c.loop-block.idents.items ++ l) (c.as_slice.ensures ∙ inside)
          ∙ ap (λ (l : List Ident). l ++ idents_between (dbc_of form item.first) (dbc_of form item.last) idents)
          (i.read (early clean) was idents has)
          ∙ inside_more form idents (take at blocks) item (take (at + 1) blocks) next;
    }

pub returns-clause-found : goal.returns-clause-found
returns-clause-found g c clean office idents has =
    c.loop-block.invariant.read clean office idents has
    ∙ ap (λ (l : List Block). idents_inside c.args.form l idents)
    (take_all c.loop-block.block-index c.args.blocks.now c.loop-block-test.false)

pub returns-in_err-extend_from_slice-clause-frame : goal.returns-in_err-extend_from_slice-clause-frame
returns-in_err-extend_from_slice-clause-frame g c =
    let old = state g.S.Store c.args.tx.now.conn.now in
    let mid = state g.S.Store c.loop-block.tx.conn.now in
    let now = state g.S.Store c.idents_at.new.tx.conn.now in
    let i = c.loop-block.invariant in
    let w = c.in_ok-inside.ensures in
    let early : HasCleanDisk now → HasCleanDisk mid = λ clean. omega (arith, w.frame.survives.clean, clean) in
    let office : HasCleanDisk now → IsOffice old.now → IsOffice mid.now =
    λ clean was. subst IsOffice (sym (i.now_is (early clean) was)) was in
    record {
      same_reference = w.frame.same_reference ∙ i.same_reference;
      same = λ clean was is_open. on_any c.from_residual-in_err-extend_from_slice.result
          (unchanged_then old mid now (i.same (early clean) was is_open) (w.frame.same clean (office clean was)));
      kept = λ clean was. keeps_then old mid now (i.kept (early clean) was) (w.frame.kept clean (office clean was));
      survives = nothing_left old mid now i.survives w.frame.survives;
    }
