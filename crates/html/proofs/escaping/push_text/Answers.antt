use Rattle.std.proofs.Common.{◌+◌, refl}
use Rattle.std.proofs.lemmas.List.{take_rest}
use Rattle.html.proofs.Steps.{skipped, stepped}
use Rattle.html.proofs.escaping.push_text.Goals.{then-skip-gt0, else-skip-gt0+in_ok-push_shown}
use Rattle.html.proofs.escaping.push_text.Goals as goal

pub loop-index-preserved : goal.loop-index-preserved
loop-index-preserved c =
    let bytes = c.args.bytes.now in
    let l = c.loop-index in
    elim c.if-skip-gt0.branch [
      | then-skip-gt0 w ↦
          rw w.text-is
          (skipped _ l.text.items bytes l.index l.skip c.if-skip-gt0.skip c.loop-index-test.true w.if-skip-gt0.true
          w.skip-is l.invariant)
      | else-skip-gt0+in_ok-push_shown w ↦
          rw (w.text-is, w.skip-is)
          (stepped _ l.text.items w.push_shown.new.text.items bytes _ l.index _ l.skip w.char_at-character.result
          c.loop-index-test.true w.if-skip-gt0.false refl
          (take_rest bytes (l.index + 1)) w.char_at-character.ensures l.invariant
          w.in_ok-push_shown.ensures)
    ]
