-- The names that a sheet has, as they are looked up.
use Rattle.std.specs.Prelude.{◌≡◌, ℕ, List, map, IsPermutation}
use Rattle.std.specs.Borrow.{Bor}
use Rattle.std.specs.List.{flat_map}
use Rattle.std.specs.List.Sorted.{IsSorted, IsStrictlySortedBy}
use Rattle.std.specs.Ordering.{nat_cmp, ordering_then}
use Rattle.std.specs.declared.cmp.Ordering.{Ordering}
use Rattle.base.specs.Keyed.{text_cmp}
use Rattle.dbc_sheet.specs.Messages.{by_number, number_of}
use Rattle.dbc_sheet.specs.Sheet.{node_name}
use Rattle.dbc_sheet.specs.declared.message.Message.{Message}
use Rattle.dbc_sheet.specs.declared.sheet.Sheet.{Sheet}
use Rattle.dbc_sheet.specs.declared.signal.Signal.{Signal}
use Rattle.dbc_read.specs.Keys.{key_of, text_of}
use Rattle.dbc_advice.specs.declared.key_set.KeySet.{KeySet}
use Rattle.dbc_advice.specs.declared.names.Names.{Names}

-- the keys of a list, in ascending order
pub record IsSetOf {K : Type 0} (cmp : K → K → Ordering) (set : KeySet K) (keys : List K) : Type 0 where
  pub same : IsPermutation keys set.sorted.items
  pub ascending : IsSorted cmp set.sorted.items

-- the keys of the signals of a message: its number, and their names
abbrev pub keys_of : Message → List (ℕ × List ℕ)
keys_of m = map (λ (s : Signal). (number_of m, s.name)) m.signals

-- The names of the nodes of the sheet, and the keys of the signals of its messages, which are in ascending order of
-- their numbers.
pub record AreNamesOf (n : Names) (s : Sheet) : Type 0 where
  pub node_names : List (Bor (List ℕ))
  pub nodes : IsSetOf (λ (a b : Bor (List ℕ)). text_cmp a.now b.now) n.nodes node_names
  pub names : map text_of node_names ≡ map node_name s.nodes
  pub signal_keys : List (ℕ × Bor (List ℕ))
  pub signals : IsSetOf (λ (a b : ℕ × Bor (List ℕ)). ordering_then (nat_cmp a.0 b.0) (text_cmp a.1.now b.1.now))
      n.signals signal_keys
  pub keys : map key_of signal_keys ≡ flat_map keys_of s.messages
  pub ascending : IsStrictlySortedBy by_number s.messages
