-- Networks that have the parts that a body is given, and the refusals that don't hang on which numbers are taken.
use Rattle.std.specs.Prelude.{ℕ, List, Option, Some, None}
use Rattle.office_types.specs.declared.refusal.Refusal.{Refusal}
use Rattle.office_types.specs.declared.refusal.Refusal.TheVariants.{BlockFull}
use Rattle.office_types.specs.declared.state.GrantedBlock.{GrantedBlock}
use Rattle.office_types.specs.declared.state.Head.{Head}
use Rattle.office_types.specs.declared.state.Net.{Net}

-- a network with this head, whatever else it has
abbrev pub with_head : Head → Net → Net
with_head h net = record net { head = h }

-- and with these blocks
abbrev pub with_parts : Head → List GrantedBlock → Net → Net
with_parts h blocks net = record net { head = h; blocks = blocks }

-- a refusal that comes whatever is taken, or else that of full blocks where there is no number to give out
abbrev pub refused_or_full : Option Refusal → Option ℕ → Option Refusal
refused_or_full (Some r) given = Some r
refused_or_full None None = Some BlockFull
refused_or_full None (Some n) = None
