use Rattle.dbc_read.proofs.Common.{◌≡◌, ◌++◌, IsPermutation, AllByRecursion, into_iter_items}
use Rattle.dbc_read.specs.Attaching.{messages_of_lines}
use Rattle.dbc_read.specs.Fit.{IsFit}
use Rattle.dbc_read.proofs.sheets.add_each.Given as goal

abbrev pub invariant-loop-line : goal.invariant-loop-line
invariant-loop-line l = record {
  rest : IsPermutation (l.initial.sheet.messages ++ messages_of_lines l.fn.lines.items l.fn.comments)
      (l.sheet.messages ++ messages_of_lines (into_iter_items l.line-iterator) l.comments);
  fit : AllByRecursion IsFit (messages_of_lines l.fn.lines.items l.fn.comments)
      → AllByRecursion IsFit (messages_of_lines (into_iter_items l.line-iterator) l.comments);
  same : l.sheet ≡ record l.initial.sheet { messages = l.sheet.messages };
}
