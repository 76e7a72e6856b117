-- What holds of the tables after every history.
use Rattle.std.specs.Prelude.{◌≡◌, ◌≢◌, ℕ, false, pos, List, [], ◌∷◌, ◌++◌, Some, filter, map}
use Rattle.std.specs.Prelude.{AllPairs, Contains, IsPermutation}
use Rattle.std.specs.List.Sorted.{IsStrictlySortedBy}
use Rattle.sqlite.specs.Order.{column}
use Rattle.sqlite.specs.declared.types.Value.TheVariants.{Int}
use Rattle.can_id.specs.Ident.{dbc_number}
use Rattle.dbc_sheet.specs.Messages.{by_number, number_of}
use Rattle.dbc_sheet.specs.Sheet.{IsClearSheet}
use Rattle.dbc_sheet.specs.declared.message.Message.{Message}
use Rattle.dbc_sheet.specs.declared.sheet.Sheet.{Sheet}
use Rattle.office_types.specs.State.{live_messages, sheet_of}
use Rattle.office_types.specs.declared.state.Net.{Net}
use Rattle.office_types.specs.declared.state.Office.{Office}
use Rattle.office_rules.specs.Step.{net_named}
use Rattle.office_law.specs.Apart.{needs_book}
use Rattle.store_tables.specs.Tables.{Tables}
use Rattle.store_statements.specs.Rows.{is_of_net}
use Rattle.office_history.specs.History.{Answered, IsLegal, IsLegalHistory}
use Rattle.office_history.specs.Laws.{HaveOneNetwork, is_on, new_spns}
use Rattle.store.specs.Holds.{Holds}

-- Of a network with these rows: no two live messages have one identifier, and no message has two signals that share a
-- bit when both are present. Its rows of `msg` have the numbers of the live messages, each once, and no other.
pub record IsClearInRows (name : List ℕ) (t : Tables) (net : Net) : Type 0 where
  pub clear : IsClearSheet (sheet_of net)
  pub ascending : IsStrictlySortedBy by_number (live_messages net.live)
  pub numbers : IsPermutation (map (λ row. column row 1) (filter (is_of_net name) t.msg))
      (map (λ m. Int (pos (dbc_number m.message.ident))) net.live)

-- after every history that tables hold, each network of the office is so
abbrev pub HeldNetworksAreClear : Type 0
HeldNetworksAreClear =
    (h : List Answered) (t : Tables) (office : Office) → Holds h t → IsLegal h office → (name : List ℕ) (net : Net)
    → net_named office name ≡ Some net → IsClearInRows name t net

-- After every history that tables hold: no two first arrivals were given one suspect parameter number of their own; and
-- two releases of a network that have one message number give it one name.
pub record HeldNumbersMeanOneThing : Type 0 where
  pub spns : (h : List Answered) (t : Tables) → Holds h t → AllPairs (λ m n. m ≢ n) (new_spns h)
  pub names : (h : List Answered) (t : Tables) (office : Office) (net : Net) (r s : Sheet) (m n : Message)
      → Holds h t → IsLegal h office → Contains office.nets net → Contains net.releases r → Contains net.releases s
      → Contains r.messages m → Contains s.messages n
      → number_of m ≡ number_of n → m.name ≡ n.name

-- Some tables hold a history that ends with an arrival, and other tables hold a history with the same arrivals before
-- it on its network, answered the same. Then it may be answered the same there, whatever else either history has: if
-- the command doesn't read the book, and with this arrival no pair of team and key names two networks in either.
abbrev pub HeldNetworksAreApart : Type 0
HeldNetworksAreApart =
    (h g : List Answered) (a : Answered) (t u : Tables) → Holds (h ++ a ∷ []) t → Holds g u
    → needs_book a.command.task ≡ false → HaveOneNetwork (h ++ a ∷ []) → HaveOneNetwork (g ++ a ∷ [])
    → filter (is_on a.command.net) h ≡ filter (is_on a.command.net) g → IsLegalHistory (g ++ a ∷ [])
