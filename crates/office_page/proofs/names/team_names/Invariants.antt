use Rattle.std.proofs.Common.{◌≡◌, ◌++◌, drop, map}
use Rattle.office_page.specs.Names.{text_of}
use Rattle.office_page.proofs.names.team_names.Given as goal

abbrev pub invariant-loop-team : goal.invariant-loop-team
invariant-loop-team l = map text_of l.names.items ++ drop l.team-index l.teams ≡ l.teams
