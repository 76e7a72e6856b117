use Rattle.office_looks.proofs.Common.{◌≡◌, ◌++◌, drop, filter, flat_map, owned}
use Rattle.office_looks.specs.Who.{is_sought, live_numbers, numbers_of}
use Rattle.office_looks.proofs.who.add_live_numbers.Given as goal

-- those so far, and those of the messages that are left
abbrev pub invariant-loop-index : goal.invariant-loop-index
invariant-loop-index l = l.initial.numbers.items ++ live_numbers l.sought l.view ≡ l.numbers.items
    ++ flat_map (λ p. numbers_of p.0.ident)
    (filter (λ p. is_sought l.sought p.0.ident p.0.name) (drop l.index (owned l.view)))
