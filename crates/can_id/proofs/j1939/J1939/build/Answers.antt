use Rattle.std.proofs.Common.{arith, ◌∙◌}
use Rattle.std.proofs.lemmas.Grind.{common_steps}
use Rattle.can_id.proofs.Groups.{build_result_only}
use Rattle.can_id.proofs.j1939.J1939.build.Goals as goal

pub returns-then-priority-gt7-clause-computed : goal.returns-then-priority-gt7-clause-computed
returns-then-priority-gt7-clause-computed c = grind (arith, common_steps)

pub returns-then-priority-gt7-clause-only : goal.returns-then-priority-gt7-clause-only
returns-then-priority-gt7-clause-only c = λ other h. returns-then-priority-gt7-clause-computed c
    ∙ build_result_only _ _ _ _ other h

pub returns-then-not-is_pgn-clause-computed : goal.returns-then-not-is_pgn-clause-computed
returns-then-not-is_pgn-clause-computed c = grind (arith, common_steps)

pub returns-then-not-is_pgn-clause-only : goal.returns-then-not-is_pgn-clause-only
returns-then-not-is_pgn-clause-only c = λ other h. returns-then-not-is_pgn-clause-computed c
    ∙ build_result_only _ _ _ _ other h

pub returns-then-destination-ne-GLOBAL-clause-computed : goal.returns-then-destination-ne-GLOBAL-clause-computed
returns-then-destination-ne-GLOBAL-clause-computed c = grind (arith, common_steps)

pub returns-then-destination-ne-GLOBAL-clause-only : goal.returns-then-destination-ne-GLOBAL-clause-only
returns-then-destination-ne-GLOBAL-clause-only c = λ other h. returns-then-destination-ne-GLOBAL-clause-computed c
    ∙ build_result_only _ _ _ _ other h

pub returns-clause-computed : goal.returns-clause-computed
returns-clause-computed c = grind (arith, common_steps)

pub returns-clause-only : goal.returns-clause-only
returns-clause-only c = λ other h. returns-clause-computed c ∙ build_result_only _ _ _ _ other h
