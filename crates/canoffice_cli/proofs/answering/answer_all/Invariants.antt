use Rattle.canoffice_cli.proofs.Common.{◌≡◌, ◌≤◌, ◌+◌, ◌++◌, List, length, take, drop, vec_capacity, vec_len, state}
use Rattle.canoffice_cli.proofs.Common.{HasCleanDisk, statistics_of, Answered, IsLegalHistory, Holding, IsFalse, IsTrue}
use Rattle.sqlite_trees.specs.View.{doubt}
use Rattle.canoffice_cli.specs.Answered.{NoneRefused, answered_with}
use Rattle.canoffice_cli.specs.Numbers.{HaveLines, numbers_left, script_numbers}
use Rattle.canoffice_cli.specs.Reasons.{TellsOf}
use Rattle.canoffice_cli.proofs.answering.answer_all.Given as goal

-- The arrivals so far have answers, and the tables hold the history with them, unless the office has failed and its
-- connection is closed. In any case that is a legal history, and reasons were added of the answers that are refusals.
abbrev pub invariant-loop-arrival : goal.invariant-loop-arrival
invariant-loop-arrival g l =
    let old = state g.S.Store l.fn.office.conn in
    let now = state g.S.Store l.office.conn in
    record {
      within : l.arrival-index ≤ length l.arrivals;
      len : vec_len l.answers ≡ l.arrival-index;
      room : length l.arrivals ≤ vec_capacity l.answers;
      each : length l.answers.items ≡ l.arrival-index;
      none : IsTrue l.strict → NoneRefused l.answers.items;
      clean : doubt old.is_clean ≤ doubt now.is_clean;
      held : HasCleanDisk now → (h : List Answered) → Holding h old → IsFalse l.office.failed
          → Holding (h ++ answered_with (take l.arrival-index l.arrivals) l.answers.items) now;
      held_open : HasCleanDisk now → (h : List Answered) → Holding h old → IsTrue now.is_open
          → Holding (h ++ answered_with (take l.arrival-index l.arrivals) l.answers.items) now;
      legal : HasCleanDisk now → (h : List Answered) → Holding h old
          → IsLegalHistory (h ++ answered_with (take l.arrival-index l.arrivals) l.answers.items);
      statistics : HasCleanDisk now → (h : List Answered) → Holding h old → IsTrue now.is_open
          → statistics_of now.now ≡ statistics_of old.now;
      short : l.lines.number + length l.lines.rest.now ≤ length l.script;
      left : numbers_left l.lines ≡ drop l.arrival-index (script_numbers l.script);
      told : HaveLines l.script l.arrivals → TellsOf l.script l.answers.items l.fn.reasons l.reasons;
    }
