use Rattle.office_looks.proofs.Common.{◌≡◌, ◌++◌, drop, filter, map, unwrap_or, last_name}
use Rattle.std.specs.Prelude.{[]}
use Rattle.office_looks.specs.Held.{held_row}
use Rattle.office_looks.specs.Who.{held_rows, is_sought}
use Rattle.office_looks.proofs.who.held_rows.Given as goal

-- those so far, and those of the identifiers that are left
abbrev pub invariant-loop-ident : goal.invariant-loop-ident
invariant-loop-ident l = held_rows l.sought l.view ≡ l.rows ++ map (held_row l.view)
    (filter (λ i. is_sought l.sought i (unwrap_or (last_name l.view.releases i) [])) (drop l.ident-index l.view.held))
