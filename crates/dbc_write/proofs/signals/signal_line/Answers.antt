use Rattle.dbc_write.proofs.Common.{◌∷◌, [], codes, space, word}
use Rattle.dbc_write.proofs.Adds.{also, line}
use Rattle.dbc_write.proofs.signals.signal_line.Goals as goal

pub returns : goal.returns
returns c =
    let start = rw c.as_bytes.ensures.bytes at c.in_ok-push_all.ensures in
    let layout = also (also {xs = word space (codes "SG_") ∷ word space c.args.signal.now.name ∷ []}
    (record { text = start }) c.in_ok-mux_mark.ensures) (also c.in_ok-spaced_mark.ensures c.in_ok-layout.ensures) in
    let pairs = also (also layout c.in_ok-pair.ensures) c.in_ok-pair-2.ensures in
    let unit = rw c.as_bytes-2.ensures.bytes at c.in_ok-quoted.ensures in
    let ends = rw c.as_slice.ensures at c.in_ok-receivers.ensures in
    line (also pairs (also unit ends)) c.in_ok-push.ensures.items
