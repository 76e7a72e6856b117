use Rattle.office_looks.proofs.Common.{◌≡◌, ◌++◌, drop, filter, flat_map}
use Rattle.office_spns.specs.Spns.{spn_rows}
use Rattle.office_looks.specs.Who.{is_spn_sought, spn_hit_rows}
use Rattle.office_looks.proofs.who.spn_hit_rows.Given as goal

-- those so far, and those of the numbers that are left
abbrev pub invariant-loop-number : goal.invariant-loop-number
invariant-loop-number l = spn_hit_rows l.sought l.view
    ≡ l.rows ++ flat_map (spn_rows l.view) (filter (is_spn_sought l.sought) (drop l.number-index l.number-items))
