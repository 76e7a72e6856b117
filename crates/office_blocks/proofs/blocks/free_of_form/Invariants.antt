use Rattle.office_blocks.proofs.Common.{◌≡◌, ◌≤◌, take, filter, option_copied}
use Rattle.std.proofs.Common.{◌*◌, ◌^◌}
use Rattle.office_blocks.specs.Blocks.{free_of_form, is_wanted}
use Rattle.office_blocks.proofs.blocks.free_of_form.Given as goal

abbrev pub invariant-loop-granted : goal.invariant-loop-granted
invariant-loop-granted l = record {
  counted : l.count
      ≡ free_of_form l.view (filter (is_wanted (option_copied l.team)) (take l.granted-index l.granted-items)) l.form;
  few : l.count ≤ l.granted-index * 2 ^ 64;
}
