use Rattle.canoffice_cli.proofs.Common.{◌≡◌, ◌≤◌, ◌+◌, length, take, drop, vec_capacity, vec_len, HoldsHistory, IsTrue}
use Rattle.canoffice_cli.specs.Answered.{NoneRefused, answered_with}
use Rattle.canoffice_cli.specs.Numbers.{HaveLines, numbers_left, script_numbers}
use Rattle.canoffice_cli.specs.Reasons.{TellsOf}
use Rattle.canoffice_cli.proofs.answering.answer_in_memory.Given as goal

-- the arrivals so far have answers, the office holds them, and reasons were added of those that are refusals
abbrev pub invariant-loop-arrival : goal.invariant-loop-arrival
invariant-loop-arrival g l = record {
  within : l.arrival-index ≤ length l.arrivals;
  len : vec_len l.answers ≡ l.arrival-index;
  room : length l.arrivals ≤ vec_capacity l.answers;
  each : length l.answers.items ≡ l.arrival-index;
  none : IsTrue l.strict → NoneRefused l.answers.items;
  held : HoldsHistory (answered_with (take l.arrival-index l.arrivals) l.answers.items) l.office;
  short : l.lines.number + length l.lines.rest.now ≤ length l.script;
  left : numbers_left l.lines ≡ drop l.arrival-index (script_numbers l.script);
  told : HaveLines l.script l.arrivals → TellsOf l.script l.answers.items l.fn.reasons l.reasons;
}
