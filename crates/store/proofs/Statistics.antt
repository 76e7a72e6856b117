-- Statistics that stay.
use Rattle.store.proofs.Common.{◌≡◌, ℕ, ap, subst, sym, inl, inr, refl, length, ◌∙◌, arith, Err, Ok, Result, Database}
use Rattle.store.proofs.Common.{Held, state, Schema, HasCleanDisk, State, Survives, Trees, survives_then, IsSound}
use Rattle.store.proofs.Common.{Ghosts, no_schema, IsOfficeWith, statistics_in, statistics_of, IsOffice, schema_of}
use Rattle.store.proofs.Common.{SchemaForm, Analyzed, Bodies, Foreign, Rows}
use Rattle.std.proofs.Common.{◌≢◌}
use Rattle.store_tables.specs.Schema.{analyzed_schema, office_schema, schema_13}
use Rattle.store_migrate.specs.declared.forms.SchemaForm.TheVariants.{All}
use Rattle.store_migrate.proofs.Grown.{none_after_13, none_after_14, none_beside}
use Rattle.store.specs.Calls.{KeepsStatistics, LeavesStatistics, OnlyAsksWhetherOpen, SameOnErr, SameOnOk}
use Rattle.store.specs.Opening.{HasSameStatistics, HasTables, IsCarried, IsGrown, IsNew, StatisticsStay}
use Rattle.store.proofs.OpenedTables.{nine_or_15}

-- tables of an office without statistics aren't those with them
thirteen_or_15 : schema_13 ≡ analyzed_schema → ⊥
unfolding schema_13 office_schema analyzed_schema
thirteen_or_15 same =
    let counts : ◌≡◌ {A = ℕ} 13 15 = ap (λ (s : Schema). length s.tables) same in omega (arith, counts)

pub all_or_15 : office_schema ≡ analyzed_schema → ⊥
unfolding office_schema analyzed_schema
all_or_15 same =
    let counts : ◌≡◌ {A = ℕ} 14 15 = ap (λ (s : Schema). length s.tables) same in omega (arith, counts)

-- the trees of an office's tables are those of the schema that it has
sound_as : (schema : Schema) (db : Database) → IsOffice db → db.schema ≡ schema → IsSound schema db.trees
sound_as schema db office is = subst (λ s. IsSound s db.trees) (office.listed ∙ is) office.trees.sound

-- tables of an office that are the same
pub stay_after : (old last : Database) → IsOffice old → IsOffice last → HasSameStatistics old last
    → StatisticsStay old last.trees
stay_after old last was office same = record {
  none_come = λ none. elim was.schema [
    | inl all ↦ sound_as office_schema last office (same.same_schema ∙ all)
    | inr analyzed ↦ absurd (none analyzed)
  ];
  they_stay = λ analyzed. (
    sound_as analyzed_schema last office (same.same_schema ∙ analyzed),
    ap (λ s. statistics_in s last.trees) (sym (same.same_schema ∙ analyzed)) ∙ same.statistics,
  );
}

pub stay_same : (old : Database) → IsOffice old → StatisticsStay old old.trees
stay_same old was = stay_after old old was was (record { same_schema = refl; statistics = refl })

-- what stays from those in between stays from the first
pub stay_then : (old mid : Database) (db : Trees) → HasSameStatistics old mid → StatisticsStay mid db
    → StatisticsStay old db
stay_then old mid db same stay = record {
  none_come = λ none. stay.none_come (λ analyzed. none (sym same.same_schema ∙ analyzed));
  they_stay = λ analyzed.
      let it = stay.they_stay (same.same_schema ∙ analyzed) in (it.0, it.1 ∙ same.statistics);
}

pub same_after : (old mid new : Database) → HasSameStatistics old mid → HasSameStatistics mid new
    → HasSameStatistics old new
same_after old mid new one two = record {
  same_schema = two.same_schema ∙ one.same_schema;
  statistics = two.statistics ∙ one.statistics;
}

pub same_if_now : (old new : Database) → new ≡ old → HasSameStatistics old new
same_if_now old new same = record {
  same_schema = ap (λ (d : Database). d.schema) same;
  statistics = ap statistics_of same;
}

-- a connection that is left as it is keeps its statistics
pub itself_keeps : {S : Type 0} (g : Ghosts S) (conn : Held S) → KeepsStatistics g conn conn
itself_keeps g conn clean tables is_open = same_if_now _ _ refl

pub itself_leaves : {S : Type 0} (g : Ghosts S) (conn : Held S) → LeavesStatistics g conn conn
itself_leaves g conn = record {
  clean = omega arith;
  shield = λ shielded. shielded;
  counts = omega arith;
  limit = refl;
  closes = λ clean here. inl here;
  crash = λ clean db may. inl may;
}

-- a call that leaves the tables as they are, whether it succeeds or is lost, keeps them
pub keeps_if_same : {S X E : Type 0} (g : Ghosts S) (old new : Held S) (r : Result X E) → SameOnOk g old new r
    → SameOnErr g old new r → KeepsStatistics g old new
keeps_if_same g old new (Ok x) same lost_same clean tables is_open = same_if_now _ _ (same clean tables).0
keeps_if_same g old new (Err e) same lost_same clean tables is_open =
    same_if_now _ _ (lost_same clean tables is_open).0

-- and then the connection was only asked whether it is open
pub keeps_asked : {S : Type 0} (g : Ghosts S) (old mid new : Held S) → KeepsStatistics g old mid
    → OnlyAsksWhetherOpen g mid new → KeepsStatistics g old new
keeps_asked g old mid new kept asked clean tables is_open =
    let before : HasCleanDisk (state g mid) = omega (arith, asked.survives.clean, clean) in
    same_after _ _ _ (kept before tables (asked.was_open clean is_open)) (same_if_now _ _ (asked.same clean is_open).0)

pub leaves_asked : {S : Type 0} (g : Ghosts S) (old mid new : Held S) → LeavesStatistics g old mid
    → OnlyAsksWhetherOpen g mid new → LeavesStatistics g old new
leaves_asked g old mid new left asked =
    survives_then (state g old) (state g mid) (state g new)
    (λ db. HasTables (state g old) → StatisticsStay (state g old).now db) (λ _. ⊥)
    (λ db. HasTables (state g old) → StatisticsStay (state g old).now db) (λ clean db stay. stay)
    (λ clean db never. absurd never) left asked.survives

-- what a transaction leaves at its commit, whether that succeeds or fails
pub left_stay : (old last new : State) → Survives old last (λ _. ⊥) → Survives last new (λ db. db ≡ last.now.trees)
    → (HasCleanDisk new → HasTables old → StatisticsStay old.now last.now.trees)
    → Survives old new (λ db. HasTables old → StatisticsStay old.now db)
left_stay old last new inside ends stay =
    survives_then old last new (λ _. ⊥) (λ db. db ≡ last.now.trees) (λ db. HasTables old → StatisticsStay old.now db)
    (λ clean db never. absurd never)
    (λ clean db same tables. subst (StatisticsStay old.now) (sym same) (stay clean tables)) inside ends

-- new tables are made where there were none
pub rows_new : (old db : Database) → old.schema ≡ no_schema → IsNew db → statistics_of db ≡ statistics_of old
rows_new old db none new =
    none_beside office_schema none_after_14 db new.schema_is ∙ sym (none_beside no_schema refl old none)

-- where the table of parts is made there were none
pub stay_grown : (old db : Database) → IsOfficeWith schema_13 old → IsGrown old.trees db → StatisticsStay old db.trees
stay_grown old db was grown = record {
  none_come = λ none. sound_as office_schema db grown.office grown.schema_is;
  they_stay = λ analyzed. absurd (thirteen_or_15 (sym was.schema_is ∙ analyzed));
}

pub rows_grown : (old db : Database) → IsOfficeWith schema_13 old → IsGrown old.trees db
    → statistics_of db ≡ statistics_of old
rows_grown old db was grown =
    none_beside office_schema none_after_14 db grown.schema_is
    ∙ sym (none_beside schema_13 none_after_13 old was.schema_is)

-- tables that are carried over get none, and keep those that they have
pub stay_carried : (form : SchemaForm) → form ≢ Foreign → (old db : Database) → IsOfficeWith (schema_of form) old
    → IsCarried form old.trees db → StatisticsStay old db.trees
stay_carried Bodies known old db was carried = record {
  none_come = λ none. sound_as office_schema db carried.office carried.schema_is;
  they_stay = λ analyzed. absurd (nine_or_15 (sym was.schema_is ∙ analyzed));
}
stay_carried Rows known old db was carried = record {
  none_come = λ none. sound_as office_schema db carried.office carried.schema_is;
  they_stay = λ analyzed. absurd (thirteen_or_15 (sym was.schema_is ∙ analyzed));
}
stay_carried All known old db was carried = record {
  none_come = λ none. sound_as office_schema db carried.office carried.schema_is;
  they_stay = λ analyzed. absurd (all_or_15 (sym was.schema_is ∙ analyzed));
}
stay_carried Analyzed known old db was carried = record {
  none_come = λ none. absurd (none was.schema_is);
  they_stay = λ analyzed. (
    sound_as analyzed_schema db carried.office carried.schema_is,
    ap (λ s. statistics_in s db.trees) (sym carried.schema_is) ∙ carried.statistics
        ∙ ap (λ s. statistics_in s old.trees) (sym was.schema_is),
  );
}
stay_carried Foreign known old db was carried = absurd (known refl)

pub rows_carried : (form : SchemaForm) (old db : Database) → IsOfficeWith (schema_of form) old
    → IsCarried form old.trees db → statistics_of db ≡ statistics_of old
rows_carried form old db was carried = carried.statistics ∙ ap (λ s. statistics_in s old.trees) (sym was.schema_is)
