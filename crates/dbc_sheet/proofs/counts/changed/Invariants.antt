use Rattle.dbc_sheet.proofs.Common.{◌≡◌, ◌≤◌, take, count_by}
use Rattle.dbc_sheet.specs.Pairs.{has_changed, partner}
use Rattle.dbc_sheet.proofs.counts.changed.Given as goal

abbrev pub invariant-loop-message : goal.invariant-loop-message
invariant-loop-message l = record {
  counted : l.count ≡ count_by (λ m. has_changed (partner l.old.messages l.new.messages m) m)
      (take l.message-index l.message-items);
  few : l.count ≤ l.message-index;
}
