-- Where an offset is, for people: the line, from 1, and the column, from 1 and in bytes.
use Rattle.std.specs.Prelude.{◌==◌, ℕ, ◌+◌, List, take}
use Rattle.std.specs.List.{count_by, suffix_len}
use Rattle.dbc_advice.specs.Lines.{in_line, line_feed}
use Rattle.dbc_advice.specs.declared.position.Position.{Position}

-- one more than the LFs before the offset, and one more than the bytes after the last of them
abbrev pub position_at : List ℕ → ℕ → Position
position_at text at = record {
  line = count_by (λ b. b == line_feed) (take at text) + 1;
  column = suffix_len in_line (take at text) + 1;
}
