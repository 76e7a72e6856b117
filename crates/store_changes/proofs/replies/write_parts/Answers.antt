use Rattle.store_changes.proofs.Common.{◌≡◌, ◌∙◌, ◌∷◌, ◌++◌, [], List, ◌<◌, ◌+◌, take, length, get_or, refl, sym, ap}
use Rattle.store_changes.proofs.Common.{arith, append_assoc, length-take, take_more, state, Row, HasCleanDisk, Tables}
use Rattle.store_changes.proofs.Common.{tables_of, edits_end, ends_and_stays, writes_then}
use Rattle.office_types.specs.declared.reply.PartReply.TheVariants.{Done}
use Rattle.store_statements.specs.Rows.{part_row}
use Rattle.store_changes.specs.Kept.{part_rows, part_values}
use Rattle.store_changes.proofs.KeptParts.{parts_push}
use Rattle.store_changes.proofs.replies.write_parts.Goals as goal

pub loop-part-preserved : goal.loop-part-preserved
loop-part-preserved g c =
    let old = state g.S.Store c.args.tx.now.conn.now in
    let mid = state g.S.Store c.loop-part.tx.conn.now in
    let now = state g.S.Store c.insert_part.new.tx.conn.now in
    let team = c.args.team.now in
    let key = c.args.key.now in
    let parts = c.args.parts.now in
    let at = c.loop-part.part-index in
    let item = get_or parts at Done in
    let place = c.loop-part.place in
    let i = c.loop-part.invariant in
    let w = c.in_ok-insert_part.ensures in
    let within : at < length parts = c.loop-part-test.true in
    let done : take (at + 1) parts ≡ take at parts ++ item ∷ [] = take_more parts at Done within in
    let early : HasCleanDisk now → HasCleanDisk mid = λ clean. omega (arith, w.frame.survives.clean, clean) in
    let so_far = take at parts in
    let taken = length-take at parts in
    let counted : at + 1 ≡ 1 + length so_far = omega (arith, taken, within) in
    let row_is : part_values team key place item ≡ part_values team key (1 + length so_far) item =
    ap (λ n. part_values team key n item) (i.counted ∙ counted) in
    let before = tables_of old.now.trees in
    let numbers_are : part_row
    (record {
      team = c.args.team;
      key = c.args.key;
      place = place;
      kind = c.numbers-numbers.result.kind;
      a =
          c.numbers-numbers.result.a;
      b = 0;
    }) ≡ part_values team key place item =
    rw c.numbers-numbers.ensures refl in
    let rows_are : (before.part ++ part_rows team key 1 so_far) ++ part_values team key place item ∷ [] ≡ before.part
    ++ part_rows team key 1 (take (at + 1) parts) =
    append_assoc before.part (part_rows team key 1 so_far) (part_values team key place item ∷ [])
    ∙ ap (λ (r : Row). before.part ++ (part_rows team key 1 so_far ++ r ∷ [])) row_is
    ∙ ap (λ (l : List Row). before.part ++ l)
    (sym (parts_push team key 1 so_far item) ∙ ap (part_rows team key 1) (sym done)) in
    record {
      counted = c.in_ok-place.ensures ∙ ap (λ n. n + 1) i.counted;
      frame = writes_then g.S.Store c.args.tx.now c.loop-part.tx c.insert_part.new.tx _ i.frame
          (ends_and_stays _ _ _ _ (edits_end _ _ _ _ w.frame w.added));
      written = λ clean was.
          (w.added clean (i.frame.office (early clean) was)).tables_are
          ∙ ap (λ (r : Row). record (tables_of mid.now.trees) { part = (tables_of mid.now.trees).part ++ r ∷ [] })
          numbers_are
          ∙ ap (λ (t : Tables). record t { part = t.part ++ part_values team key place item ∷ [] })
          (i.written (early clean) was)
          ∙ ap (λ (l : List Row). record before { part = l }) rows_are;
    }
