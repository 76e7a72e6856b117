use Rattle.std.proofs.Common.{◌≡◌, ◌-◌, length, take}
use Rattle.office_seen.specs.Owners.{last_name}
use Rattle.office_seen.proofs.owners.last_name.Given as goal

-- the last one is among those that are left
abbrev pub invariant-loop-index : goal.invariant-loop-index
invariant-loop-index l = last_name l.sheets l.ident ≡ last_name (take (length l.sheets - l.index) l.sheets) l.ident
