-- What carrying live messages over from bodies to rows makes of the tables.
use Rattle.std.specs.Prelude.{◌≡◌, ℕ, Bool, false, List, [], if◌then◌else◌}
use Rattle.std.specs.List.{list_any}
use Rattle.std.specs.List.Sorted.{IsStrictlySortedBy}
use Rattle.std.specs.Str.{bytes_eq}
use Rattle.base.specs.Keyed.{text_cmp}
use Rattle.office_types.specs.State.{by_number}
use Rattle.office_types.specs.declared.state.LiveMessage.{LiveMessage}
use Rattle.store_tables.specs.Tables.{Tables}
use Rattle.store_rows.specs.Live.{live_rows}
use Rattle.store_rows.specs.NetIn.{HasBodies, HasRows}

-- all tables but the four of live messages
abbrev pub but_live : Tables → Tables
but_live t = record t { msg = []; sig = []; receiver = []; sigvalue = [] }

-- From t to t2 these live messages are added, as rows, to a network that had none so; the other networks' rows stay,
-- and so do the other tables.
pub record AddsLive (name : List ℕ) (live : List LiveMessage) (t t2 : Tables) : Type 0 where
  pub here : IsStrictlySortedBy by_number live → HasRows name t [] → HasRows name t2 live
  pub others : (other : List ℕ) → bytes_eq name other ≡ false → live_rows other t2 ≡ live_rows other t
  pub rest : but_live t2 ≡ but_live t

-- the same of a network's live messages that t has as bodies
pub record CarriesNet (name : List ℕ) (t t2 : Tables) : Type 0 where
  pub here : (live : List LiveMessage) → HasBodies name t live → HasRows name t [] → HasRows name t2 live
  pub others : (other : List ℕ) → bytes_eq name other ≡ false → live_rows other t2 ≡ live_rows other t
  pub rest : but_live t2 ≡ but_live t

abbrev pub named_in : List (List ℕ) → List ℕ → Bool
named_in names name = list_any (λ n. bytes_eq n name) names

-- the same of the networks of these names; those of other names have no row still
pub record CarriesNets (names : List (List ℕ)) (t t2 : Tables) : Type 0 where
  pub each : IsStrictlySortedBy text_cmp names → (name : List ℕ) (live : List LiveMessage) → HasBodies name t live
      → HasRows name t []
      → HasRows name t2 (if named_in names name then live else [])
  pub rest : but_live t2 ≡ but_live t
