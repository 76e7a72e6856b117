-- Tables of some form that hold a history, as an office is opened on them.
use Rattle.store.proofs.Common.{◌≡◌, ◌⊎◌, ◌∙◌, ap, false, inl, inr, Err, List, Ok, Result, refl, sym, subst, ◌≢◌, OnOk}
use Rattle.store.proofs.Common.{on_ok_weaker, Database, Schema, HasCleanDisk, IsUnchanged, State, Survives, Trees}
use Rattle.store.proofs.Common.{Profile, Two, IsCurrentSchema, IsOfficeSchema, IsOfficeWith, statistics_in}
use Rattle.store.proofs.Common.{statistics_of, AreOffice, IsOffice, Tables, tables_of, Answered, schema_of, SchemaForm}
use Rattle.store.proofs.Common.{Analyzed, Bodies, Foreign, Rows, Newer, Second, IsSound}
use Rattle.sqlite.specs.State.{Shows}
use Rattle.office_rules.specs.Profile.{One}
use Rattle.store_tables.specs.Schema.{analyzed_schema, office_schema, schema_13, schema_9}
use Rattle.store_tables.specs.Statements.{Grows, tables_in}
use Rattle.store_tables.specs.Tables.{AreNumbered}
use Rattle.store_tables.proofs.Changing.{named_rows}
use Rattle.store_migrate.specs.FormSchema.{current_schema_of}
use Rattle.store_migrate.specs.Forms.{HoldsAsRows}
use Rattle.store_migrate.specs.InForm.{HoldsAs, KeepsAs, first_profile_rows}
use Rattle.store_migrate.specs.ProfileRows.{HasProfileRows}
use Rattle.store_migrate.specs.declared.forms.SchemaForm.TheVariants.{All}
use Rattle.store_migrate.specs.declared.profile_rows.ProfileRows.{ProfileRows}
use Rattle.store_migrate.specs.declared.profile_rows.ProfileRows.TheVariants as marks
use Rattle.store_migrate.proofs.Grown.{grown_office, named_analyzed, office_with}
use Rattle.store_migrate.proofs.ReadProfile.{bodies_or_newer, first_or_newer, is_second, not_second, second_or_bodies}
use Rattle.store_migrate.proofs.ReadProfile.{second_or_first, second_or_newer}
use Rattle.store.specs.declared.lost.Lost.{Lost}
use Rattle.store.specs.Holding.{Holding, Keeps, Leaves}
use Rattle.store.specs.Opening.{HasCommitted, HasForm, HasProfileRowsOf, HasOffice, HasOlderProfileRows, HasTables}
use Rattle.store.specs.Opening.{HoldingInSomeForm, StatisticsStay, HoldingOlder, IsCarried, IsGrown, KeepsInSomeForm}
use Rattle.store.specs.Opening.{MayCarry, MayComplete, MayMigrate}
use Rattle.store.proofs.OpenedTables.{never_completed_9}
use Rattle.store.proofs.Statistics.{rows_carried, rows_grown, stay_carried, stay_grown, stay_same}

-- ---- forms and their schemas

pub form_schema : (form : SchemaForm) → form ≢ Foreign → (s : Schema) → s ≡ schema_of form → IsOfficeSchema s
form_schema Bodies known s nine = inl nine
form_schema Rows known s thirteen = inr (inl thirteen)
form_schema All known s all = inr (inr (inl all))
form_schema Analyzed known s analyzed = inr (inr (inr analyzed))
form_schema Foreign known s none = absurd (known refl)

-- what was found of the tables, where it is that form
pub form_is : (s : Schema) (found form : SchemaForm) → found ≡ form → form ≢ Foreign
    → (found ≢ Foreign → s ≡ schema_of found) → s ≡ schema_of form
form_is s found form same known exact =
    subst (λ f. s ≡ schema_of f) same (exact (λ foreign. known (sym same ∙ foreign)))

pub never_foreign : (s : Schema) (found : SchemaForm) → found ≡ Foreign
    → ((form : SchemaForm) → form ≢ Foreign → s ≡ schema_of form → found ≡ form) → IsOfficeSchema s → ⊥
never_foreign s found foreign known (inl nine) = let bodies = known Bodies (λ foreign. cc) nine in cc
never_foreign s found foreign known (inr (inl thirteen)) = let rows = known Rows (λ foreign. cc) thirteen in cc
never_foreign s found foreign known (inr (inr (inl all))) = let every = known All (λ foreign. cc) all in cc
never_foreign s found foreign known (inr (inr (inr analyzed))) =
    let every = known Analyzed (λ foreign. cc) analyzed in cc

-- tables without that of parts aren't all
pub rows_not_all : (s : Schema) (found : SchemaForm) → found ≡ Rows
    → ((form : SchemaForm) → form ≢ Foreign → s ≡ schema_of form → found ≡ form) → IsCurrentSchema s → ⊥
rows_not_all s found rows known (inl all) = let every = known All (λ foreign. cc) all in cc
rows_not_all s found rows known (inr analyzed) = let every = known Analyzed (λ foreign. cc) analyzed in cc

pub known_form : (p : Profile) (form : SchemaForm) (h : List Answered) (db : Trees) → KeepsAs p form h db
    → form ≢ Foreign
known_form One Foreign h db keeps foreign = keeps.holds
known_form Two Foreign h db keeps foreign = keeps.holds
known_form p it h db keeps foreign = cc

-- the rows of the profile are in the first table, whatever the form
profile_same : (form : SchemaForm) → form ≢ Foreign → (db : Trees)
    → (tables_in (schema_of form) db).profile ≡ (tables_of db).profile
unfolding schema_9 schema_13 office_schema analyzed_schema
profile_same Foreign known db = absurd (known refl)
profile_same it known db = refl

-- ---- what a connection holds

-- the form of all tables, by whether there are statistics
abbrev all_form : (s : Schema) → IsCurrentSchema s → SchemaForm
all_form s (inl all) = All
all_form s (inr analyzed) = Analyzed

all_known : (s : Schema) (all : IsCurrentSchema s) → all_form s all ≢ Foreign
all_known s (inl all) foreign = cc
all_known s (inr analyzed) foreign = cc

all_schema : (s : Schema) (all : IsCurrentSchema s) → s ≡ schema_of (all_form s all)
all_schema s (inl all) = all
all_schema s (inr analyzed) = analyzed

all_hold : (s : Schema) (all : IsCurrentSchema s) (h : List Answered) (db : Trees) → HoldsAsRows Two h (tables_of db)
    → HoldsAs Two (all_form s all) h (tables_in (schema_of (all_form s all)) db)
all_hold s (inl all) h db holds = subst (HoldsAsRows Two h) (named_rows db) holds
all_hold s (inr analyzed) h db holds = subst (HoldsAsRows Two h) (named_analyzed db) holds

pub has_office : (s : State) → HasTables s → HasOffice s
has_office s tables =
    let office = tables.office in
    let same = all_schema office.schema office.current in
    record {
      is_open = tables.is_open;
      form = all_form office.schema office.current;
      known = all_known office.schema office.current;
      sound = subst (λ x. IsSound x s.now.trees) same office.sound;
      numbered = subst (λ x. AreNumbered x s.now.trees) same office.numbered;
    }

pub in_form : (h : List Answered) (s : State) → Holding h s → HoldingInSomeForm h s
in_form h s holding =
    let office = holding.keeps.office in
    let same = all_schema office.schema office.current in
    record {
      is_open = holding.is_open;
      keeps = (
        Two,
        all_form office.schema office.current,
        record {
          sound = subst (λ x. IsSound x s.now.trees) same office.sound;
          numbered = subst (λ x. AreNumbered x s.now.trees) same office.numbered;
          holds = all_hold office.schema office.current h s.now.trees holding.keeps.holds;
        },
      );
    }

pub with_form : (form : SchemaForm) (s : State) → HasForm form s → s.now.schema ≡ schema_of form
    → IsOfficeWith (schema_of form) s.now
with_form form s tables schema = record { schema_is = schema; sound = tables.sound; numbered = tables.numbered }

abbrev pub office_in_form : (h : List Answered) (s : State) → HoldingInSomeForm h s → HasOffice s
office_in_form h s holding =
    record {
      is_open = holding.is_open;
      form = holding.keeps.1;
      known = known_form holding.keeps.0 holding.keeps.1 h s.now.trees holding.keeps.2;
      sound = holding.keeps.2.sound;
      numbered = holding.keeps.2.numbered;
    }

pub schema_in_form : (s : State) (office : HasOffice s) → s.now.schema ≡ schema_of office.form
    → IsOfficeSchema s.now.schema
schema_in_form s office schema = form_schema office.form office.known s.now.schema schema

pub older_in_form : (h : List Answered) (s : State) → HoldingOlder h s → HoldingInSomeForm h s
older_in_form h s holding = record { is_open = holding.is_open; keeps = (One, holding.keeps.0, holding.keeps.1) }

-- the profile's rows say which profile it is

pub older_not_second : (form : SchemaForm) (h : List Answered) (db : Trees) → KeepsAs One form h db
    → HasProfileRows (tables_of db) Second → ⊥
older_not_second form h db keeps =
    not_second form h (tables_in (schema_of form) db) (tables_of db)
    (profile_same form (known_form One form h db keeps) db) keeps.holds

pub newer_second : (form : SchemaForm) (h : List Answered) (db : Trees) → KeepsAs Two form h db
    → HasProfileRows (tables_of db) Second
newer_second form h db keeps =
    is_second form h (tables_in (schema_of form) db) (tables_of db)
    (profile_same form (known_form Two form h db keeps) db) keeps.holds

-- ---- tables of the second profile

all_trees : {schema : Schema} {db : Trees} → IsCurrentSchema schema → IsSound schema db → AreNumbered schema db
    → AreOffice db
all_trees {schema} current sound numbered =
    record { schema = schema; current = current; sound = sound; numbered = numbered }

-- the connection shows tables that hold the history, and they are committed
abbrev pub IsKept : List Answered → State → Type 0
IsKept h s = Holding h s × (s.committed ≡ s.now)

with_office : (form : SchemaForm) (db : Database) (p : Profile) (h : List Answered) → db.schema ≡ schema_of form
    → KeepsAs p form h db.trees → IsOfficeWith (schema_of form) db
with_office form db p h schema keeps =
    record { schema_is = schema; sound = keeps.sound; numbered = keeps.numbered }

-- tables of the second profile are left, or get the table of parts
pub completed : (h : List Answered) (old new : State) (holding : HoldingInSomeForm h old)
    → old.now.schema ≡ schema_of holding.keeps.1 → old.committed ≡ old.now
    → HasProfileRows (tables_of old.now.trees) Second
    → (IsCurrentSchema old.now.schema → IsUnchanged old new)
    → (IsOfficeWith schema_13 old.now → HasCommitted (IsGrown old.now.trees) new) → IsKept h new
completed h old new holding schema settled marks same grown =
    by_form holding.keeps.0 holding.keeps.1 holding.keeps.2 schema
  where
    stays : IsCurrentSchema old.now.schema → Keeps h old.now.trees → IsKept h new
    stays all kept =
        let shows = (same all).0 in (
          record {
            is_open = shows.is_open;
            keeps = subst (λ (db : Database). Keeps h db.trees) (sym shows.now_is) kept;
          },
          shows.committed_is ∙ settled ∙ sym shows.now_is,
        )

    by_form : (p : Profile) (form : SchemaForm) → KeepsAs p form h old.now.trees → old.now.schema ≡ schema_of form
        → IsKept h new
    by_form One form keeps schema = absurd (older_not_second form h old.now.trees keeps marks)
    by_form Two Rows keeps schema =
        let done = grown (with_office Rows old.now Two h schema keeps) in
        let kept : Keeps h new.now.trees = record {
          office = done.0.office.trees;
          holds = subst (HoldsAsRows Two h) (sym done.0.tables_are) keeps.holds;
        } in
        (record { is_open = done.2; keeps = kept }, done.1)
    by_form Two All keeps schema =
        stays (inl schema) (record {
          office = all_trees (inl refl) keeps.sound keeps.numbered;
          holds = subst (HoldsAsRows Two h) (sym (named_rows old.now.trees)) keeps.holds;
        })
    by_form Two Analyzed keeps schema =
        stays (inr schema) (record {
          office = all_trees (inr refl) keeps.sound keeps.numbered;
          holds = subst (HoldsAsRows Two h) (sym (named_analyzed old.now.trees)) keeps.holds;
        })
    by_form Two Bodies keeps schema = absurd keeps.holds
    by_form Two Foreign keeps schema = absurd keeps.holds

-- what the last state in a transaction shows is what its commit leaves

pub committed_so : (Becomes : Database → Type 0) (last new : State) → Becomes last.now
    → Shows last new last.now last.now false → HasCommitted Becomes new
committed_so Becomes last new becomes shows =
    (subst Becomes (sym shows.now_is) becomes, shows.committed_is ∙ sym shows.now_is, shows.is_open)

pub grown_so : (old last : State) → Grows schema_13 office_schema old last → IsGrown old.now.trees last.now
grown_so old last grown = record {
  office = grown_office schema_13 old last grown;
  schema_is = grown.office.schema_is;
  tables_are = named_rows last.now.trees ∙ grown.tables_are;
}

pub grown_done : (old last new : State) → Grows schema_13 office_schema old last
    → Shows last new last.now last.now false → HasCommitted (IsGrown old.now.trees) new
grown_done old last new grown shows =
    committed_so (IsGrown old.now.trees) last new (grown_so old last grown) shows

carried_so : (form : SchemaForm) (old last : State) → IsOfficeWith (schema_of form) old.now → IsOffice last.now
    → last.now.schema ≡ current_schema_of form → statistics_of last.now ≡ statistics_of old.now
    → ((h : List Answered) → HoldsAs One form h (tables_in (schema_of form) old.now.trees)
    → HoldsAsRows Two h (tables_of last.now.trees)) → IsCarried form old.now.trees last.now
carried_so form old last was office schema rows held = record {
  office = office;
  schema_is = schema;
  statistics = rows ∙ ap (λ s. statistics_in s old.now.trees) was.schema_is;
  holds = λ h keeps. held h keeps.holds;
}

-- of the form that was found by the tables
pub carried_as : (found form : SchemaForm) (old last : State) → found ≡ form
    → (IsOfficeWith (schema_of found) old.now → IsOffice last.now)
    → (IsOfficeWith (schema_of found) old.now → last.now.schema ≡ current_schema_of found)
    → (IsOfficeWith (schema_of found) old.now → statistics_of last.now ≡ statistics_of old.now)
    → (IsOfficeWith (schema_of found) old.now → (h : List Answered)
    → HoldsAs One found h (tables_in (schema_of found) old.now.trees) → HoldsAsRows Two h (tables_of last.now.trees))
    → IsOfficeWith (schema_of form) old.now → IsCarried form old.now.trees last.now
carried_as found form old last same office schema rows held was =
    let before = subst (λ f. IsOfficeWith (schema_of f) old.now) (sym same) was in
    subst (λ f. IsCarried f old.now.trees last.now) same
    (carried_so found old last before (office before) (schema before) (rows before) (held before))

-- ---- tables of the first

pub migrated : (h : List Answered) (old new : State) (holding : HoldingInSomeForm h old)
    → old.now.schema ≡ schema_of holding.keeps.1 → old.committed ≡ old.now
    → (IsCurrentSchema old.now.schema → HasProfileRows (tables_of old.now.trees) Second → IsUnchanged old new)
    → (IsOfficeWith schema_13 old.now → HasProfileRows (tables_of old.now.trees) Second
    → HasCommitted (IsGrown old.now.trees) new)
    → ((form : SchemaForm) → form ≢ Foreign → IsOfficeWith (schema_of form) old.now
    → ¬ HasProfileRows (tables_of old.now.trees) Second → HasCommitted (IsCarried form old.now.trees) new)
    → IsKept h new
migrated h old new holding schema settled same grown carried =
    by_profile holding.keeps.0 holding.keeps.1 holding.keeps.2 schema
  where
    by_profile : (p : Profile) (form : SchemaForm) → KeepsAs p form h old.now.trees → old.now.schema ≡ schema_of form
        → IsKept h new
    by_profile One form keeps schema =
        let done = carried form (known_form One form h old.now.trees keeps)
        (with_office form old.now One h schema keeps) (older_not_second form h old.now.trees keeps) in
        let kept : Keeps h new.now.trees = record { office = done.0.office.trees; holds = done.0.holds h keeps } in
        (record { is_open = done.2; keeps = kept }, done.1)
    by_profile Two form keeps schema =
        let marks = newer_second form h old.now.trees keeps in
        completed h old new (record { is_open = holding.is_open; keeps = (Two, form, keeps) }) schema settled marks
        (λ all. same all marks) (λ rows. grown rows marks)

-- ---- statistics of either

-- the same tables of statistics, or none still, with the same rows
abbrev pub AreTheirs : Database → Database → Type 0
AreTheirs old new = StatisticsStay old new.trees × (statistics_of new ≡ statistics_of old)

pub statistics_completed : (h : List Answered) (old new : State) (holding : HoldingInSomeForm h old)
    → old.now.schema ≡ schema_of holding.keeps.1 → HasProfileRows (tables_of old.now.trees) Second
    → (IsCurrentSchema old.now.schema → IsUnchanged old new)
    → (IsOfficeWith schema_13 old.now → HasCommitted (IsGrown old.now.trees) new)
    → AreTheirs old.now new.now
statistics_completed h old new holding schema marks same grown =
    by_form holding.keeps.0 holding.keeps.1 holding.keeps.2 schema
  where
    unchanged : IsCurrentSchema old.now.schema → IsOffice old.now → AreTheirs old.now new.now
    unchanged all office =
        subst (λ (d : Database). AreTheirs old.now d) (sym (same all).0.now_is) (stay_same old.now office, refl)

    by_form : (p : Profile) (form : SchemaForm) → KeepsAs p form h old.now.trees → old.now.schema ≡ schema_of form
        → AreTheirs old.now new.now
    by_form One form keeps schema = absurd (older_not_second form h old.now.trees keeps marks)
    by_form Two Rows keeps schema =
        let was = with_office Rows old.now Two h schema keeps in
        let it = (grown was).0 in
        (stay_grown old.now new.now was it, rows_grown old.now new.now was it)
    by_form Two All keeps schema =
        unchanged (inl schema)
        (office_with office_schema old.now (inl refl) (with_office All old.now Two h schema keeps))
    by_form Two Analyzed keeps schema =
        unchanged (inr schema)
        (office_with analyzed_schema old.now (inr refl) (with_office Analyzed old.now Two h schema keeps))
    by_form Two Bodies keeps schema = absurd keeps.holds
    by_form Two Foreign keeps schema = absurd keeps.holds

pub statistics_migrated : (h : List Answered) (old new : State) (holding : HoldingInSomeForm h old)
    → old.now.schema ≡ schema_of holding.keeps.1
    → (IsCurrentSchema old.now.schema → HasProfileRows (tables_of old.now.trees) Second → IsUnchanged old new)
    → (IsOfficeWith schema_13 old.now → HasProfileRows (tables_of old.now.trees) Second
    → HasCommitted (IsGrown old.now.trees) new)
    → ((form : SchemaForm) → form ≢ Foreign → IsOfficeWith (schema_of form) old.now
    → ¬ HasProfileRows (tables_of old.now.trees) Second → HasCommitted (IsCarried form old.now.trees) new)
    → AreTheirs old.now new.now
statistics_migrated h old new holding schema same grown carried =
    by_profile holding.keeps.0 holding.keeps.1 holding.keeps.2 schema
  where
    by_profile : (p : Profile) (form : SchemaForm) → KeepsAs p form h old.now.trees → old.now.schema ≡ schema_of form
        → AreTheirs old.now new.now
    by_profile One form keeps schema =
        let known = known_form One form h old.now.trees keeps in
        let was = with_office form old.now One h schema keeps in
        let it = (carried form known was (older_not_second form h old.now.trees keeps)).0 in
        (stay_carried form known old.now new.now was it, rows_carried form old.now new.now was it)
    by_profile Two form keeps schema =
        let marks = newer_second form h old.now.trees keeps in
        statistics_completed h old new (record { is_open = holding.is_open; keeps = (Two, form, keeps) }) schema marks
        (λ all. same all marks) (λ rows. grown rows marks)

-- ---- what the marks exclude

pub older_or_second : (t : Tables) → HasOlderProfileRows t → HasProfileRows t Second → ⊥
older_or_second t (inl bodies) second = second_or_bodies t second bodies
older_or_second t (inr first) second = second_or_first t second first

older_or_newer : (t : Tables) → HasOlderProfileRows t → HasProfileRows t Newer → ⊥
older_or_newer t (inl bodies) newer = bodies_or_newer t bodies newer
older_or_newer t (inr first) newer = first_or_newer t first newer

pub known_or_newer : (form : SchemaForm) (t : Tables) → HasProfileRowsOf form t → HasProfileRows t Newer → ⊥
known_or_newer Bodies t bodies newer = bodies_or_newer t bodies newer
known_or_newer Rows t (inl first) newer = first_or_newer t first newer
known_or_newer Rows t (inr second) newer = second_or_newer t second newer
known_or_newer All t (inl first) newer = first_or_newer t first newer
known_or_newer All t (inr second) newer = second_or_newer t second newer
known_or_newer Analyzed t (inl first) newer = first_or_newer t first newer
known_or_newer Analyzed t (inr second) newer = second_or_newer t second newer
known_or_newer Foreign t nothing newer = nothing

-- the profile that tables of a form have is the first, by the rows of that form, or the second, but not with bodies
pub first_of_form : (form : SchemaForm) (t : Tables) (m : ProfileRows) → form ≢ Foreign → m ≡ first_profile_rows form
    → HasProfileRows t m
    → HasProfileRowsOf form t
first_of_form Bodies t m known first has = subst (HasProfileRows t) first has
first_of_form Foreign t m known first has = absurd (known refl)
first_of_form it t m known first has = inl (subst (HasProfileRows t) first has)

on_any : {Y X : Type 0} (r : Result Y Lost) → X → OnOk r X
on_any (Ok y) it = it
on_any (Err e) it = tt

pub second_of_form : (form : SchemaForm) (s : Schema) (t : Tables) {Y : Type 0} (r : Result Y Lost) → form ≢ Foreign
    → s ≡ schema_of form → OnOk r ((s ≡ schema_13) ⊎ IsCurrentSchema s) → HasProfileRows t Second
    → OnOk r (HasProfileRowsOf form t)
second_of_form Bodies s t r known nine taken has =
    on_ok_weaker r (λ later. absurd (never_completed_9 s nine later)) taken
second_of_form Rows s t r known thirteen taken has = on_any r (inr has)
second_of_form All s t r known all taken has = on_any r (inr has)
second_of_form Analyzed s t r known analyzed taken has = on_any r (inr has)
second_of_form Foreign s t r known none taken has = absurd (known refl)

-- marks that are none of the others' are those of the first profile
pub older_marks : (t : Tables) (m : ProfileRows) → m ≢ Second → m ≢ Newer → m ≢ marks.Foreign → HasProfileRows t m
    → HasOlderProfileRows t
older_marks t marks.Bodies second newer foreign has = inl has
older_marks t marks.First second newer foreign has = inr has
older_marks t Second second newer foreign has = absurd (second refl)
older_marks t Newer second newer foreign has = absurd (newer refl)
older_marks t marks.Foreign second newer foreign has = absurd (foreign refl)

-- tables of a newer profile are neither carried over nor completed
pub none_migrates : (before : Database) (after : Trees) → HasProfileRows (tables_of before.trees) Newer
    → MayMigrate before after → ⊥
none_migrates before after newer (inl completes) = second_or_newer (tables_of before.trees) completes.0 newer
none_migrates before after newer (inr carries) = older_or_newer (tables_of before.trees) carries.0 newer

-- ---- what a crash leaves

-- the tables that the connection committed, or those of now, which hold the history, with the statistics that there
-- were
abbrev pub IsEither : List Answered → State → Trees → Type 0
IsEither h old db = (db ≡ old.committed.trees) ⊎ (Keeps h db × StatisticsStay old.now db)

-- the table of parts is made beside tables of the second profile, so they hold the history then
grown_keeps : (h : List Answered) (before : Database) (after : Trees) (keeps : KeepsInSomeForm h before.trees)
    → before.schema ≡ schema_of keeps.1 → MayComplete before after → Keeps h after
grown_keeps h before after keeps schema completes = by_form keeps.0 keeps.1 keeps.2 schema
  where
    by_form : (p : Profile) (form : SchemaForm) → KeepsAs p form h before.trees → before.schema ≡ schema_of form
        → Keeps h after
    by_form One form keeps schema = absurd (older_not_second form h before.trees keeps completes.0)
    by_form Two Bodies keeps schema = absurd keeps.holds
    by_form Two Rows keeps schema =
        let it = completes.1.grown (with_office Rows before Two h schema keeps) in
        subst (Keeps h) (sym it.2) (record {
          office = it.1.office.trees;
          holds = subst (HoldsAsRows Two h) (sym it.1.tables_are) keeps.holds;
        })
    by_form Two All keeps schema = absurd (completes.1.not_all (inl schema))
    by_form Two Analyzed keeps schema = absurd (completes.1.not_all (inr schema))
    by_form Two Foreign keeps schema = absurd keeps.holds

grown_stay : (h : List Answered) (before : Database) (after : Trees) (keeps : KeepsInSomeForm h before.trees)
    → before.schema ≡ schema_of keeps.1 → MayComplete before after → StatisticsStay before after
grown_stay h before after keeps schema completes = by_form keeps.0 keeps.1 keeps.2 schema
  where
    by_form : (p : Profile) (form : SchemaForm) → KeepsAs p form h before.trees → before.schema ≡ schema_of form
        → StatisticsStay before after
    by_form One form keeps schema = absurd (older_not_second form h before.trees keeps completes.0)
    by_form Two Bodies keeps schema = absurd keeps.holds
    by_form Two Rows keeps schema =
        let was = with_office Rows before Two h schema keeps in
        let it = completes.1.grown was in
        subst (StatisticsStay before) (sym it.2) (stay_grown before it.0 was it.1)
    by_form Two All keeps schema = absurd (completes.1.not_all (inl schema))
    by_form Two Analyzed keeps schema = absurd (completes.1.not_all (inr schema))
    by_form Two Foreign keeps schema = absurd keeps.holds

carried_keeps : (h : List Answered) (before : Database) (after : Trees) (keeps : KeepsInSomeForm h before.trees)
    → before.schema ≡ schema_of keeps.1 → HasOlderProfileRows (tables_of before.trees) → MayCarry before after
    → Keeps h after
carried_keeps h before after keeps schema older carries = by_profile keeps.0 keeps.1 keeps.2 schema
  where
    by_profile : (p : Profile) (form : SchemaForm) → KeepsAs p form h before.trees → before.schema ≡ schema_of form
        → Keeps h after
    by_profile One form keeps schema =
        let it = carries form (known_form One form h before.trees keeps)
        (with_office form before One h schema keeps) in
        subst (Keeps h) (sym it.2) (record { office = it.1.office.trees; holds = it.1.holds h keeps })
    by_profile Two form keeps schema =
        absurd (older_or_second (tables_of before.trees) older (newer_second form h before.trees keeps))

carried_stay : (h : List Answered) (before : Database) (after : Trees) (keeps : KeepsInSomeForm h before.trees)
    → before.schema ≡ schema_of keeps.1 → HasOlderProfileRows (tables_of before.trees) → MayCarry before after
    → StatisticsStay before after
carried_stay h before after keeps schema older carries = by_profile keeps.0 keeps.1 keeps.2 schema
  where
    by_profile : (p : Profile) (form : SchemaForm) → KeepsAs p form h before.trees → before.schema ≡ schema_of form
        → StatisticsStay before after
    by_profile One form keeps schema =
        let known = known_form One form h before.trees keeps in
        let was = with_office form before One h schema keeps in
        let it = carries form known was in
        subst (StatisticsStay before) (sym it.2) (stay_carried form known before it.0 was it.1)
    by_profile Two form keeps schema =
        absurd (older_or_second (tables_of before.trees) older (newer_second form h before.trees keeps))

pub left_in_form : (h : List Answered) (old new : State) (holding : HoldingInSomeForm h old)
    → old.now.schema ≡ schema_of holding.keeps.1 → ((db : Trees) → old.may_leave db → db ≡ old.committed.trees)
    → Survives old new (MayComplete old.now) → HasCleanDisk new → Leaves (IsEither h old) new
left_in_form h old new holding schema leaves survives clean db left = elim (survives.crash clean db left) [
  | inl was ↦ inl (leaves db was)
  | inr completes ↦ inr (
    grown_keeps h old.now db holding.keeps schema completes,
    grown_stay h old.now db holding.keeps schema completes,
  )
]

pub left_migrating : (h : List Answered) (old new : State) (holding : HoldingInSomeForm h old)
    → old.now.schema ≡ schema_of holding.keeps.1 → ((db : Trees) → old.may_leave db → db ≡ old.committed.trees)
    → Survives old new (MayMigrate old.now) → HasCleanDisk new → Leaves (IsEither h old) new
left_migrating h old new holding schema leaves survives clean db left = elim (survives.crash clean db left) [
  | inl was ↦ inl (leaves db was)
  | inr migrates ↦ inr (elim migrates [
    | inl completes ↦ (
      grown_keeps h old.now db holding.keeps schema completes,
      grown_stay h old.now db holding.keeps schema completes,
    )
    | inr carries ↦ (
      carried_keeps h old.now db holding.keeps schema carries.0 carries.1,
      carried_stay h old.now db holding.keeps schema carries.0 carries.1,
    )
  ])
]
