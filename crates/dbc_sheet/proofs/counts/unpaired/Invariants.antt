use Rattle.dbc_sheet.proofs.Common.{◌≡◌, ◌≤◌, take, count_by}
use Rattle.std.specs.Prelude.{is_none}
use Rattle.dbc_sheet.specs.Pairs.{partner}
use Rattle.dbc_sheet.proofs.counts.unpaired.Given as goal

abbrev pub invariant-loop-message : goal.invariant-loop-message
invariant-loop-message l = record {
  counted : l.count ≡ count_by (λ m. is_none (partner l.other.messages l.sheet.messages m))
      (take l.message-index l.message-items);
  few : l.count ≤ l.message-index;
}
