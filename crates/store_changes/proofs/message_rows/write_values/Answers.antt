use Rattle.store_changes.proofs.Common.{ℕ, pos, ◌≡◌, ◌∙◌, ◌∷◌, ◌++◌, [], List, ◌<◌, ◌+◌, take, length, sym, ap, subst}
use Rattle.store_changes.proofs.Common.{arith, append_assoc, length-take, take_more, AllByRecursion, ValueText}
use Rattle.store_changes.proofs.Common.{IsDecimal, Int, Text, Blob, all_append, state, Row, HasCleanDisk, Tables}
use Rattle.store_changes.proofs.Common.{tables_of, sigvalue_values, value_rows, edits_end, ends_and_stays, writes_then}
use Rattle.decimal.specs.Printing.{text_of}
use Rattle.store_changes.proofs.ReceiverRows.{values_push}
use Rattle.store_changes.proofs.message_rows.write_values.Goals as goal

pub loop-entry-preserved : goal.loop-entry-preserved
loop-entry-preserved g c =
    let old = state g.S.Store c.args.tx.now.conn.now in
    let mid = state g.S.Store c.loop-entry.tx.conn.now in
    let now = state g.S.Store c.insert_sigvalue.new.tx.conn.now in
    let net = c.args.net.now in
    let number = c.args.number in
    let place = c.args.place in
    let values = c.args.values.now in
    let at = c.loop-entry.entry-index in
    let item = c.entry-item.result in
    let seat = c.loop-entry.index in
    let i = c.loop-entry.invariant in
    let w = c.in_ok-insert_sigvalue.ensures in
    let within : at < length values = c.loop-entry-test.true in
    let done : take (at + 1) values ≡ take at values ++ item ∷ [] =
    rw (take_more values at item within, ← c.entry-item.is) in
    let early : HasCleanDisk now → HasCleanDisk mid = λ clean. omega (arith, w.frame.survives.clean, clean) in
    let so_far = take at values in
    let taken = length-take at values in
    let counted : at ≡ 0 + length so_far = omega (arith, taken, within) in
    let text = c.in_ok-text.text in
    let v : List ℕ = c.deref.result.now in
    let w2 : List ℕ = c.as_bytes.result.now in
    let text_is : v ≡ text_of item.value = c.deref.ensures.value ∙ c.in_ok-text.ensures.text in
    let row : Row = Text net ∷ Int (pos number) ∷ Int (pos place) ∷ Int (pos seat) ∷ Text v ∷ Blob w2 ∷ [] in
    let row_is : row ≡ sigvalue_values net number place (0 + length so_far) item =
    ap (λ n. Text net ∷ Int (pos number) ∷ Int (pos place) ∷ Int (pos n) ∷ Text v ∷ Blob w2 ∷ []) (i.counted ∙ counted)
    ∙ ap (λ (x : List ℕ). Text net ∷ Int (pos number) ∷ Int (pos place) ∷ Int (pos (0 + length so_far)) ∷ Text x
    ∷ Blob w2 ∷ []) text_is
    ∙ ap (λ (x : List ℕ). Text net ∷ Int (pos number) ∷ Int (pos place) ∷ Int (pos (0 + length so_far))
    ∷ Text (text_of item.value) ∷ Blob x ∷ []) c.as_bytes.ensures.bytes in
    let before = tables_of old.now.trees in
    let rows_are : (before.sigvalue ++ value_rows net number place 0 so_far) ++ row ∷ [] ≡ before.sigvalue
    ++ value_rows net number place 0 (take (at + 1) values) =
    append_assoc before.sigvalue (value_rows net number place 0 so_far) (row ∷ [])
    ∙ ap (λ (r : Row). before.sigvalue ++ (value_rows net number place 0 so_far ++ r ∷ [])) row_is
    ∙ ap (λ (l : List Row). before.sigvalue ++ l)
    (sym (values_push net number place 0 so_far item) ∙ ap (value_rows net number place 0) (sym done)) in
    record {
      counted = c.in_ok-index.ensures ∙ ap (λ n. n + 1) i.counted;
      decimals = subst (AllByRecursion (λ (x : ValueText). IsDecimal x.value)) (sym done)
          (all_append (λ (x : ValueText). IsDecimal x.value) so_far (item ∷ []) i.decimals
          (c.decimal_text.ensures.decimal, tt));
      frame = writes_then g.S.Store c.args.tx.now c.loop-entry.tx c.insert_sigvalue.new.tx _ i.frame
          (ends_and_stays _ _ _ _ (edits_end _ _ _ _ w.frame w.added));
      written = λ clean was.
          (w.added clean (i.frame.office (early clean) was)).tables_are
          ∙ ap (λ (t : Tables). record t { sigvalue = t.sigvalue ++ row ∷ [] }) (i.written (early clean) was)
          ∙ ap (λ (l : List Row). record before { sigvalue = l }) rows_are;
    }
