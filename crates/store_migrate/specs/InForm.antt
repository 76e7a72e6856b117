-- Tables of an office of some time, by which tables there are and by what the profile says.
use Rattle.std.specs.Prelude.{List}
use Rattle.sqlite.specs.Tree.{Trees}
use Rattle.sqlite_catalog.specs.Listing.{IsSound}
use Rattle.office_rules.specs.Profile.{One, Profile}
use Rattle.store_tables.specs.Statements.{tables_in}
use Rattle.store_tables.specs.Tables.{AreNumbered, Tables}
use Rattle.office_history.specs.History.{Answered}
use Rattle.store_migrate.specs.Forms.{HoldsAsBodies, HoldsAsRows}
use Rattle.store_migrate.specs.FormSchema.{schema_of}
use Rattle.store_migrate.specs.declared.forms.SchemaForm.{SchemaForm}
use Rattle.store_migrate.specs.declared.forms.SchemaForm.TheVariants.{All, Analyzed, Bodies, Foreign, Rows}
use Rattle.store_migrate.specs.declared.profile_rows.ProfileRows.{ProfileRows}
use Rattle.store_migrate.specs.declared.profile_rows.ProfileRows.TheVariants as marks

-- the tables, which are of this profile and form, hold the history; there are none of the second profile with bodies
abbrev pub HoldsAs : Profile → SchemaForm → List Answered → Tables → Type 0
HoldsAs One Bodies h t = HoldsAsBodies h t
HoldsAs p Rows h t = HoldsAsRows p h t
HoldsAs p All h t = HoldsAsRows p h t
HoldsAs p Analyzed h t = HoldsAsRows p h t
HoldsAs p form h t = ⊥

-- what the rows of the profile say where tables of a form are of the first profile
abbrev pub first_profile_rows : SchemaForm → ProfileRows
first_profile_rows Bodies = marks.Bodies
first_profile_rows Rows = marks.First
first_profile_rows All = marks.First
first_profile_rows Analyzed = marks.First
first_profile_rows Foreign = marks.Foreign

-- trees with the tables of a form that hold the history so
pub record KeepsAs (p : Profile) (form : SchemaForm) (h : List Answered) (db : Trees) : Type 0 where
  pub sound : IsSound (schema_of form) db
  pub numbered : AreNumbered (schema_of form) db
  pub holds : HoldsAs p form h (tables_in (schema_of form) db)
