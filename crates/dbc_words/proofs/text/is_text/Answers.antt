use Rattle.dbc_words.proofs.Texts.{after_escaped, after_plain}
use Rattle.dbc_words.specs.Text.{is_text}
use Rattle.dbc_words.proofs.text.is_text.Goals as goal
use Rattle.dbc_words.proofs.text.is_text.Goals.{then-escaped, else-escaped+else-byte-eq34}

pub loop-byte-preserved : goal.loop-byte-preserved
loop-byte-preserved c =
    let bytes = c.args.bytes.now in
    let i = c.loop-byte.byte-index in
    elim c.if-escaped.branch [
      | then-escaped w ↦ after_escaped bytes i c.loop-byte.escaped c.if-escaped.escaped (is_text bytes)
          c.loop-byte-test.true w.if-escaped.true w.escaped-is c.loop-byte.invariant
      | else-escaped+else-byte-eq34 w ↦ after_plain bytes i c.loop-byte.escaped c.if-escaped.escaped (is_text bytes)
          c.loop-byte-test.true w.if-escaped.false w.if-byte-eq34.false w.escaped-is c.loop-byte.invariant
    ]
