-- The forms that tables with a history have: that of each profile, and live messages as bodies or as rows.
use Rattle.std.specs.Prelude.{◌≡◌, ℕ, List, [], ◌∷◌, All}
use Rattle.sqlite.specs.Order.{Row}
use Rattle.office_rules.specs.Profile.{One, Profile, Two}
use Rattle.store_tables.specs.Tables.{Tables}
use Rattle.store_statements.specs.Rows.{mark_row}
use Rattle.office_history.specs.History.{Answered}
use Rattle.store_rows.specs.NetIn.{HasBodies, HasRows}
use Rattle.store_migrate.specs.HoldsIn.{HoldsIn}

abbrev pub profile_number : Profile → ℕ
profile_number One = 1
profile_number Two = 2

-- the rows of the profile where live messages are bodies, and where they are rows
abbrev pub body_marks : List Row
body_marks = mark_row 1 1 ∷ []

abbrev pub row_marks : Profile → List Row
row_marks p = mark_row 1 (profile_number p) ∷ mark_row 2 2 ∷ []

-- tables of the first profile hold arrivals of that profile alone
abbrev pub AreUnder : Profile → List Answered → Type 0
AreUnder One h = All (λ a. a.profile ≡ One) h
AreUnder Two h = Unit {0}

-- no live message is there as rows, and no reply has parts
pub record HasBodiesAlone (t : Tables) : Type 0 where
  pub msg : t.msg ≡ []
  pub sig : t.sig ≡ []
  pub receiver : t.receiver ≡ []
  pub sigvalue : t.sigvalue ≡ []
  pub part : t.part ≡ []

-- the history in the tables of the first offices: under profile 1, with live messages as bodies
pub record HoldsAsBodies (h : List Answered) (t : Tables) : Type 0 where
  pub holds : HoldsIn HasBodies body_marks h t
  pub alone : HasBodiesAlone t
  pub under : AreUnder One h

-- the history in tables of a profile with live messages as rows; no body is there
pub record HoldsAsRows (p : Profile) (h : List Answered) (t : Tables) : Type 0 where
  pub holds : HoldsIn HasRows (row_marks p) h t
  pub emptied : t.message ≡ []
  pub under : AreUnder p h
