use Rattle.dbc_keep.proofs.Common.{◌≡◌, ◌≤◌, length, take}
use Rattle.dbc_keep.specs.LeftOut.{left_out_lines, line_at}
use Rattle.dbc_keep.proofs.left_out.left_out_lines.Given as goal

abbrev pub invariant-loop-one : goal.invariant-loop-one
invariant-loop-one l = record {
  within : l.from ≤ length l.source.text.now;
  line : l.line ≡ line_at l.source.text.now l.from;
  lines : l.lines.items ≡ left_out_lines l.source.name.now l.source.text.now (take l.one-index l.left_out);
}
