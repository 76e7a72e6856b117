use Rattle.store_changes.proofs.Common.{◌∙◌, ◌∷◌, ◌++◌, [], ap, pos, Row, Blob, Int, Text, makes_as}
use Rattle.store_rows.specs.LiveWritten.{with_msg}
use Rattle.store_changes.proofs.message_rows.write_msg.Goals as goal

pub returns-clause-written : goal.returns-clause-written
returns-clause-written g c clean was =
    makes_as _ (with_msg c.args.net.now c.args.live.now) _ _
    (λ t. ap (λ (r : Row). record t { msg = t.msg ++ r ∷ [] }) (λ i. Text c.args.net.now
    ∷ Int (pos (c.to_dbc.ensures.number i)) ∷ Text (c.as_bytes.ensures.bytes i) ∷ Text (c.as_bytes-2.ensures.bytes i)
    ∷ Int (pos ((c.from.ensures ∙ c.bytes.ensures.value) i)) ∷ Text (c.sender_text.ensures.text i)
    ∷ Blob (c.as_bytes-3.ensures.bytes i) ∷ []))
    (c.in_ok-insert_msg.ensures.added clean was)
