-- Tables that hold a history, with live messages in a form that is a parameter.
use Rattle.std.specs.Prelude.{◌≡◌, ℕ, List, All}
use Rattle.sqlite.specs.Order.{Row}
use Rattle.office_types.specs.declared.state.Office.{Office}
use Rattle.office_rules.specs.Step.{net_named}
use Rattle.store_tables.specs.Tables.{Tables}
use Rattle.office_history.specs.History.{Answered, IsLegal}
use Rattle.office_history.specs.Laws.{IsInRange}
use Rattle.store_rows.specs.NetIn.{IsNetIn, LiveForm}
use Rattle.store_rows.specs.Rows.{IsBookIn}
use Rattle.store_changes.specs.Kept.{AreKept, AreKeptParts}

-- The history is legal, and leaves an office. The rows stand for that office: for the network of each name, if it is
-- there, and for the book. There is one kept reply for each first arrival, in whatever order, with a row for each part
-- of one that was a bundle, and these rows of the profile.
pub record HoldsIn (Live : LiveForm) (marks : List Row) (h : List Answered) (t : Tables) : Type 0 where
  pub office : Office
  pub legal : IsLegal h office
  pub in_range : All IsInRange h
  pub book : IsBookIn t office.book
  pub nets : (name : List ℕ) → IsNetIn Live name t (net_named office name)
  pub replies : AreKept h t.reply
  pub parts : AreKeptParts h t.part
  pub profile : t.profile ≡ marks
