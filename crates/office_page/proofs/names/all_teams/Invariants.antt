use Rattle.std.proofs.Common.{◌≡◌, ◌++◌, drop, map}
use Rattle.office_page.specs.Names.{team_of, text_of}
use Rattle.office_page.proofs.names.all_teams.Given as goal

abbrev pub invariant-loop-granted : goal.invariant-loop-granted
invariant-loop-granted l =
    map text_of l.names.items ++ map team_of (drop l.granted-index l.blocks)
    ≡ map text_of l.owners ++ map team_of l.blocks
