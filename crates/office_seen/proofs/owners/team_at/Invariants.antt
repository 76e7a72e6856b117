use Rattle.std.proofs.Common.{◌≡◌, drop}
use Rattle.office_seen.specs.Owners.{team_at}
use Rattle.office_seen.proofs.owners.team_at.Given as goal

-- the first one is among those that are left
abbrev pub invariant-loop-granted : goal.invariant-loop-granted
invariant-loop-granted l = team_at l.blocks l.form l.number ≡ team_at (drop l.granted-index l.blocks) l.form l.number
