use Rattle.office_looks.proofs.Common.{◌≡◌, ◌++◌, drop, filter, unwrap_or, flat_map, last_name}
use Rattle.std.specs.Prelude.{[]}
use Rattle.office_looks.specs.Who.{held_numbers, is_sought, numbers_of}
use Rattle.office_looks.proofs.who.add_held_numbers.Given as goal

-- those so far, and those of the identifiers that are left
abbrev pub invariant-loop-ident : goal.invariant-loop-ident
invariant-loop-ident l = l.initial.numbers.items ++ held_numbers l.sought l.view
    ≡ l.numbers.items ++ flat_map numbers_of
    (filter (λ i. is_sought l.sought i (unwrap_or (last_name l.view.releases i) [])) (drop l.ident-index l.view.held))
