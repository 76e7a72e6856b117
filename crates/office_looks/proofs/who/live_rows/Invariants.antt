use Rattle.office_looks.proofs.Common.{◌≡◌, ◌++◌, drop, filter, map, owned}
use Rattle.office_looks.specs.Messages.{message_row}
use Rattle.office_looks.specs.Who.{is_sought, live_rows}
use Rattle.office_looks.proofs.who.live_rows.Given as goal

-- those so far, and those of the messages that are left
abbrev pub invariant-loop-index : goal.invariant-loop-index
invariant-loop-index l = live_rows l.sought l.view
    ≡ l.rows ++ map (message_row l.view)
    (filter (λ p. is_sought l.sought p.0.ident p.0.name) (drop l.index (owned l.view)))
