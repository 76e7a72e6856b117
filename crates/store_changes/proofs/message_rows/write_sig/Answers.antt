use Rattle.store_changes.proofs.Common.{◌∙◌, ◌∷◌, ◌++◌, [], ap, pos, Row, Blob, Int, Text, sig_values, makes_as}
use Rattle.store_statements.specs.Mux.{mux_number}
use Rattle.store_changes.proofs.message_rows.write_sig.Goals as goal

pub returns-clause-written : goal.returns-clause-written
returns-clause-written g c clean was =
    makes_as _
    (λ t. record t { sig = t.sig ++ sig_values c.args.net.now c.args.number c.args.place c.args.signal.now ∷ [] })
    _ _
    (λ t. ap (λ (r : Row). record t { sig = t.sig ++ r ∷ [] }) (λ i. Text c.args.net.now ∷ Int (pos c.args.number)
    ∷ Int (pos c.args.place) ∷ Text (c.as_bytes.ensures.bytes i) ∷ Int (pos (c.from.ensures i))
    ∷ Int (pos ((c.from-2.ensures ∙ c.bits.ensures.value) i)) ∷ Int (pos (c.motorola_number.ensures i))
    ∷ Int (pos (c.flag_number.ensures i)) ∷ Int (mux_number (c.mux_column.ensures i))
    ∷ Text ((c.deref.ensures.value ∙ c.in_ok-factor.ensures.text) i)
    ∷ Text ((c.deref-2.ensures.value ∙ c.in_ok-offset.ensures.text) i)
    ∷ Text ((c.deref-3.ensures.value ∙ c.in_ok-minimum.ensures.text) i)
    ∷ Text ((c.deref-4.ensures.value ∙ c.in_ok-maximum.ensures.text) i) ∷ Blob (c.as_bytes-2.ensures.bytes i)
    ∷ Blob (c.as_bytes-3.ensures.bytes i) ∷ Int (pos (c.number.ensures.value i))
    ∷ Int (pos ((c.from-3.ensures ∙ c.number-2.ensures) i)) ∷ []))
    (c.in_ok-insert_sig.ensures.added clean was)
