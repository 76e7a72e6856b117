-- The lines of statements that aren't in the text of another sheet.
use Rattle.std.specs.Prelude.{◌==◌, ℕ, ◌+◌, List, codes, length, min, take}
use Rattle.std.specs.List.{count_by, flat_map}
use Rattle.dbc_advice.specs.LeftOut.{passed_label}
use Rattle.dbc_advice.specs.Lines.{line_feed}
use Rattle.dbc_advice.specs.Position.{position_at}
use Rattle.dbc_advice.specs.ReportedLine.{reported_line}
use Rattle.dbc_keep.specs.declared.staying.LeftOut.{LeftOut}
use Rattle.dbc_keep_law.specs.declared.reason.LeavingReason.{LeavingReason}
use Rattle.dbc_keep_law.specs.declared.reason.LeavingReason.TheVariants.{NoMessage, NoNode, NoSignal, SheetSays}

-- the line of an offset, from 1: one more than the LFs before it
abbrev pub line_at : List ℕ → ℕ → ℕ
line_at text at = count_by (λ b. b == line_feed) (take at text) + 1

-- why a statement is left out
abbrev pub reason_text : LeavingReason → List ℕ
reason_text NoNode = codes "left out, since a node that it names isn't in the sheet"
reason_text NoMessage = codes "left out, since a message that it names isn't in the sheet"
reason_text NoSignal = codes "left out, since a signal that it names isn't in the sheet"
reason_text SheetSays = codes "left out, since the sheet has its own"

-- `FILE:LINE:COLUMN: passed KEYWORD: why`, at the statement's keyword
abbrev pub left_out_line : List ℕ → List ℕ → LeftOut → List ℕ
left_out_line file text one =
    reported_line file (position_at text (min one.statement.at (length text))) (passed_label one.statement.keyword)
    (reason_text one.reason)

abbrev pub left_out_lines : List ℕ → List ℕ → List LeftOut → List ℕ
left_out_lines file text left_out = flat_map (left_out_line file text) left_out
