use Rattle.page_numbers.proofs.Common.{map, take, flat_map, Becomes, adding, names_of}
use Rattle.page_numbers.specs.Counts.{known_in}
use Rattle.page_numbers.specs.Left.{team_rows}
use Rattle.page_numbers.proofs.left.put_rows.Given as goal

abbrev pub invariant-loop-team : goal.invariant-loop-team
invariant-loop-team l =
    Becomes l.page
    (adding (flat_map (team_rows (known_in l.numbers) l.subject.blocks.now (names_of l.subject))
    (map (λ team. team.now) (take l.team-index l.teams))) l.initial.page)
