-- The rows of a network. Its live messages are rows of four tables; before that they were bodies, each in one row. So
-- the form of live messages is a parameter, and a network in tables of either form is one definition.
use Rattle.std.specs.Prelude.{◌≡◌, ℕ, List, [], ◌∷◌, Option, Some, None, filter}
use Rattle.sqlite.specs.Order.{Row}
use Rattle.office_types.specs.declared.state.LiveMessage.{LiveMessage}
use Rattle.office_types.specs.declared.state.Net.{Net}
use Rattle.store_tables.specs.Tables.{Tables}
use Rattle.store_statements.specs.Rows.{net_row, message_row, block_row, frozen_row, is_of_net}
use Rattle.store_statements.specs.Shown.{net_order, messages_order, blocks_order, held_order, approvals_order}
use Rattle.store_statements.specs.Shown.{releases_order}
use Rattle.store_rows.specs.Listed.{AreListed}
use Rattle.store_rows.specs.Live.{AreLiveRows, live_rows}
use Rattle.store_rows.specs.Rows.{IsRowOf, IsNetRow, IsMessageRow, IsBlockRow, IsHeldRow, IsApprovalRow, IsFrozenRow}
use Rattle.store_rows.specs.Rows.{is_granted, numbered}

-- how the tables have the live messages of the network of a name
abbrev pub LiveForm : Type 1
LiveForm = List ℕ → Tables → List LiveMessage → Type 0

-- before: each is one row, whose body reads as the message
abbrev pub HasBodies : LiveForm
HasBodies name t live = AreListed messages_order (IsRowOf message_row (IsMessageRow name))
    (filter (is_of_net name) t.message) live

-- now: each has rows of its own, of four tables
abbrev pub HasRows : LiveForm
HasRows name t live = AreLiveRows name (live_rows name t) live

-- the rows that are the network's, but those of its live messages
pub record RestRows : Type 0 where
  pub head : List Row
  pub blocks : List Row
  pub held : List Row
  pub approvals : List Row
  pub releases : List Row

abbrev pub no_rest : RestRows
no_rest = record { head = []; blocks = []; held = []; approvals = []; releases = [] }

abbrev pub rest_of : List ℕ → Tables → RestRows
rest_of name t = record {
  head = filter (is_of_net name) t.net;
  blocks = filter (is_granted name) t.block;
  held = filter (is_of_net name) t.held;
  approvals = filter (is_of_net name) t.approval;
  releases = filter (is_of_net name) t.frozen;
}

pub record AreRestOf (name : List ℕ) (rows : RestRows) (net : Net) : Type 0 where
  pub named : net.name ≡ name
  pub head : AreListed net_order (IsRowOf net_row (IsNetRow name)) rows.head (net.head ∷ [])
  pub blocks : AreListed blocks_order (IsRowOf block_row (IsBlockRow name)) rows.blocks net.blocks
  pub held : AreListed held_order (IsHeldRow name) rows.held net.held
  pub approvals : AreListed approvals_order (IsApprovalRow name) rows.approvals net.approvals
  pub releases : AreListed releases_order (IsRowOf frozen_row (IsFrozenRow name)) rows.releases
      (numbered 1 net.releases)

-- what is there but for live messages
abbrev pub IsRestAt : List ℕ → RestRows → Option Net → Type 0
IsRestAt name rows None = rows ≡ no_rest
IsRestAt name rows (Some net) = AreRestOf name rows net

abbrev pub live_in : Option Net → List LiveMessage
live_in None = []
live_in (Some net) = net.live

-- the tables have this network under the name; one that isn't there has no row, and no live message
pub record IsNetIn (Live : LiveForm) (name : List ℕ) (t : Tables) (net : Option Net) : Type 0 where
  pub rest : IsRestAt name (rest_of name t) net
  pub live : Live name t (live_in net)

-- the tables have this network under the name, in the form of now
abbrev pub IsNetAt : List ℕ → Tables → Option Net → Type 0
IsNetAt name t net = IsNetIn HasRows name t net
