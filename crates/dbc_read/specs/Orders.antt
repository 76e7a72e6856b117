-- The signals of a message in ascending order of their names.
use Rattle.std.specs.Prelude.{◌≤◌, ⊤, ℕ, List, [], ◌∷◌, Option, None, Some, Box, get_or, length, map, IsPermutation}
use Rattle.std.specs.Prelude.{IsSortedBy}
use Rattle.std.specs.List.{range_with_len}
use Rattle.std.specs.Ordering.{is_lt}
use Rattle.base.specs.Keyed.{text_cmp}
use Rattle.dbc_grammar.specs.Statement as dbc
use Rattle.dbc_sheet.specs.declared.signal.Signal.{Signal}
use Rattle.dbc_read.specs.declared.orders.NameOrder.{NameOrder}
use Rattle.dbc_read.specs.declared.orders.TheConstants.{FEW_SIGNALS}

abbrev pub signal_names : List Signal → List (List ℕ)
signal_names signals = map (λ (s : Signal). s.name) signals

abbrev pub line_names : dbc.MessageLine → List (List ℕ)
line_names m = map (λ (s : dbc.SignalLine). s.name) m.signals

-- the indices of these names, in an order in which the names ascend
pub record IsAscending (names : List (List ℕ)) (order : List ℕ) : Type 0 where
  pub indices : IsPermutation (range_with_len 0 (length names)) order
  pub sorted : IsSortedBy (λ i j. is_lt (text_cmp (get_or names i []) (get_or names j []))) order

-- an order of these names, or none where they are few
abbrev pub IsOrderOf : {A : Type 0} → List (List ℕ) → Option (Box NameOrder A) → Type 0
IsOrderOf names None = length names ≤ FEW_SIGNALS
IsOrderOf names (Some order) = IsAscending names order.value.indices.items

-- an order for each of the messages, or none
abbrev pub AreOrdersOf : {A : Type 0} → List dbc.MessageLine → List (Option (Box NameOrder A)) → Type 0
AreOrdersOf [] [] = ⊤
AreOrdersOf (m ∷ ms) (order ∷ orders) = IsOrderOf (line_names m) order × AreOrdersOf ms orders
AreOrdersOf ms orders = ⊥
