-- Arrivals with their answers.
use Rattle.std.specs.Prelude.{ℕ, List}
use Rattle.office_history.specs.declared.arrival.Answer.{Answer}
use Rattle.office_history.specs.declared.arrival.Arrival.{Arrival}
use Rattle.office_history.specs.declared.arrival.Request.{Request}
use Rattle.office_rules.specs.Profile.{Two}
use Rattle.office_history.specs.History.{Answered}

-- the team's request under the key, which comes today, and what it was answered
abbrev pub answered : List ℕ → List ℕ → Request → Answer → Answered
answered team key request answer =
    record {
      profile = Two;
      team = team;
      key = key;
      content = request.content.items;
      command = request.command;
      answer =
          answer;
    }

abbrev pub reported : Arrival → Answer → Answered
reported a answer = answered a.team a.key a.request answer
