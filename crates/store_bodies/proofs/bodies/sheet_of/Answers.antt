use Rattle.std.proofs.Common.{Some, ap, sym, ◌∙◌}
use Rattle.store_bodies.proofs.bodies.sheet_of.Goals as goal

pub returns-in-Ok-clause-found : goal.returns-in-Ok-clause-found
returns-in-Ok-clause-found c sheet reads = ap Some (c.sheet_in.ensures ∙ sym (c.in-Ok.ensures.only.only sheet reads))

pub returns-in-Ok-clause-none : goal.returns-in-Ok-clause-none
returns-in-Ok-clause-none c nothing = absurd (nothing c.in-Ok.reading.sheet (_, c.in-Ok.ensures.reads))

pub returns-in_default-clause-found : goal.returns-in_default-clause-found
returns-in_default-clause-found c sheet reads = absurd (c.in-Err.ensures.none c.in_default.not-Memory sheet reads)
