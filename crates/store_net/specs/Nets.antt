-- All networks of the tables.
use Rattle.std.specs.Prelude.{ℕ, List, find}
use Rattle.std.specs.List.Sorted.{IsStrictlySortedBy}
use Rattle.std.specs.Str.{bytes_eq}
use Rattle.office_types.specs.State.{by_name}
use Rattle.office_types.specs.declared.state.Net.{Net}
use Rattle.store_tables.specs.Tables.{Tables}
use Rattle.store_rows.specs.NetIn.{IsNetAt, IsRestAt, rest_of}

-- the tables have these networks and no other
pub record AreNets (t : Tables) (nets : List Net) : Type 0 where
  pub ascending : IsStrictlySortedBy by_name nets
  pub each : (name : List ℕ) → IsNetAt name t (find (λ net. bytes_eq net.name name) nets)

-- the same, whatever they have of live messages
pub record AreKnownNets (t : Tables) (nets : List Net) : Type 0 where
  pub ascending : IsStrictlySortedBy by_name nets
  pub each : (name : List ℕ) → IsRestAt name (rest_of name t) (find (λ net. bytes_eq net.name name) nets)
