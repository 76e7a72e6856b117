-- What several statements make of an office's tables, one after the other, and what several queries leave.
use Rattle.store_rows.proofs.Common.{◌≡◌, ◌∙◌, ap, subst, sym, arith, Ok, Err, Result, state, State, HasCleanDisk}
use Rattle.store_rows.proofs.Common.{Transaction, keeps_then, Ghosts, StaysIn, Tables}
use Rattle.std.specs.Prelude.{IsTrue, OnOk}
use Rattle.sqlite.specs.Effect.{Database}
use Rattle.sqlite.proofs.Callers.{unchanged_then}
use Rattle.store_tables.specs.Frames.{ReadsOnly, ReadsWhileOpen}
use Rattle.store_tables.specs.Statements.{Makes, statistics_of}
use Rattle.store_tables.specs.Tables.{IsOffice, tables_of}
use Rattle.store_rows.proofs.Frames.{going, nothing_left}

-- a statement after another
pub makes_then : (first second : Tables → Tables) (a b c : State) → Makes first a b → Makes second b c
    → Makes (λ t. second (first t)) a c
makes_then first second a b c m1 m2 = record {
  office = m2.office;
  same_schema = m2.same_schema ∙ m1.same_schema;
  statistics = m2.statistics ∙ m1.statistics;
  tables_are = m2.tables_are ∙ ap second m1.tables_are;
  committed = m2.committed ∙ m1.committed;
  inside = m2.inside;
  was_open = m1.was_open;
  is_open = m2.is_open;
}

-- the tables that it makes, in other words
pub makes_as : (made other : Tables → Tables) (a b : State) → ((t : Tables) → made t ≡ other t) → Makes made a b
    → Makes other a b
makes_as made other a b same m = record {
  office = m.office;
  same_schema = m.same_schema;
  statistics = m.statistics;
  tables_are = m.tables_are ∙ same (tables_of a.now.trees);
  committed = m.committed;
  inside = m.inside;
  was_open = m.was_open;
  is_open = m.is_open;
}

-- what holds anyhow holds if it succeeds
pub on_any : {X E P : Type 0} (r : Result X E) → P → OnOk r P
on_any (Ok x) p = p
on_any (Err e) p = tt

-- what only reads leaves a connection that is open as it is, too
pub while_open : {S X E : Type 0} (g : Ghosts S) (old new : Transaction S) (x : X)
    → ReadsOnly {E = E} g old new (Ok x) → ReadsWhileOpen {E = E} g old new (Ok x)
while_open g old new x r = record {
  same_reference = r.same_reference;
  same = λ clean was is_open. r.same clean was;
  kept = r.kept;
  survives = r.survives;
}

-- one more query after those so far
pub reads_then : {S X Y E F : Type 0} (g : Ghosts S) (old mid new : Transaction S) (x : X) (y : Y)
    → ReadsOnly {E = E} g old mid (Ok x) → ReadsWhileOpen {E = F} g mid new (Ok y)
    → ReadsOnly {E = F} g old new (Ok y)
reads_then g old mid new x y one two =
    let a = state g old.conn.now in
    let b = state g mid.conn.now in
    let c = state g new.conn.now in
    let early : HasCleanDisk c → HasCleanDisk b = λ clean. omega (arith, two.survives.clean, clean) in
    let office : HasCleanDisk c → IsOffice a.now → IsOffice b.now =
    λ clean was. subst IsOffice (sym (one.same (early clean) was).0.now_is) was in
    record {
      same_reference = two.same_reference ∙ one.same_reference;
      same = λ clean was. unchanged_then a b c (one.same (early clean) was)
          (two.same clean (office clean was) (one.same (early clean) was).0.is_open);
      kept = λ clean was. keeps_then a b c (one.kept (early clean) was) (two.kept clean (office clean was));
      survives = nothing_left a b c one.survives two.survives;
    }

-- whatever is answered after them
pub reads_any : {S X Y E F : Type 0} (g : Ghosts S) (old new : Transaction S) (x : X) (r : Result Y F)
    → ReadsOnly {E = E} g old new (Ok x) → ReadsOnly g old new r
reads_any g old new x r one = record {
  same_reference = one.same_reference;
  same = λ clean was. on_any r (one.same clean was);
  kept = one.kept;
  survives = one.survives;
}

-- what only reads leaves an office's tables, and the transaction open
pub stays_if_read : {S X E : Type 0} (g : Ghosts S) (old new : Transaction S) (x : X)
    → ReadsOnly {E = E} g old new (Ok x) → StaysIn g old new going
stays_if_read g old new x r = record {
  same_reference = r.same_reference;
  office = λ clean was. subst IsOffice (sym (r.same clean was).0.now_is) was;
  same_schema = λ clean was. ap (λ (d : Database). d.schema) (r.same clean was).0.now_is;
  statistics = λ clean was. ap statistics_of (r.same clean was).0.now_is;
  inside = λ clean was mode. subst IsTrue (sym (r.same clean was).0.mode) mode;
  kept = r.kept;
  survives = r.survives;
}
