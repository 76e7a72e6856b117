-- Frames of several statements: what each of two keeps, both keep.
use Rattle.store_rows.proofs.Common.{◌∙◌, Ok, Err, Result, inl, refl, arith, state, State, HasCleanDisk, Transaction}
use Rattle.store_rows.proofs.Common.{keeps_then, Ghosts, StaysIn, Tables}
use Rattle.std.proofs.lemmas.Result.{on_ok_weaker}
use Rattle.sqlite.specs.State.{Survives}
use Rattle.sqlite.specs.declared.error.Error.{Error}
use Rattle.sqlite.proofs.StateLemmas.{survives_then}
use Rattle.store_tables.specs.Frames.{Edits, OnlyWrites, WritesAndEndsIn, WritesAndStaysIn}

-- of two calls that leave nothing for a crash to find
pub nothing_left : (a b c : State) → Survives a b (λ _. ⊥) → Survives b c (λ _. ⊥) → Survives a c (λ _. ⊥)
nothing_left a b c first second = survives_then a b c (λ _. ⊥) (λ _. ⊥) (λ _. ⊥) (λ _ db made. made) (λ _ db made. made)
    first second

-- each statement so far succeeded
abbrev pub going : Result (Unit {0}) Error
going = Ok tt

-- a state leaves to a crash what it had
pub nothing_done : (s : State) → Survives s s (λ _. ⊥)
nothing_done s = record {
  clean = omega arith;
  shield = λ shielded. shielded;
  counts = omega arith;
  limit = refl;
  closes = λ clean here. inl here;
  crash = λ clean db may. inl may;
}

-- before the first statement
pub none_written : {S : Type 0} (g : Ghosts S) (tx : Transaction S) → WritesAndStaysIn g tx tx going
none_written g tx = record {
  same_reference = refl;
  office = λ clean was. was;
  same_schema = λ clean was. refl;
  statistics = λ clean was. refl;
  inside = λ clean was mode. mode;
  kept = λ clean. record { was_open = λ here. here; committed = λ here. refl };
  survives = nothing_done (state g tx.conn.now);
}

-- a transaction that is open after a statement goes on
pub ends_and_stays : {S X E : Type 0} (g : Ghosts S) (old new : Transaction S) (r : Result X E)
    → WritesAndEndsIn g old new r → WritesAndStaysIn g old new r
ends_and_stays g old new (Ok x) w = record {
  same_reference = w.same_reference;
  office = w.office;
  same_schema = w.same_schema;
  statistics = w.statistics;
  inside = λ clean was mode. w.inside clean was;
  kept = w.kept;
  survives = w.survives;
}
ends_and_stays g old new (Err e) w = record {
  same_reference = w.same_reference;
  office = w.office;
  same_schema = w.same_schema;
  statistics = w.statistics;
  inside = λ clean was mode. tt;
  kept = w.kept;
  survives = w.survives;
}

-- a statement that makes tables of an office's leaves an office's, and the transaction open
pub edits_end : {S : Type 0} (g : Ghosts S) (old new : Transaction S) (made : Tables → Tables) → OnlyWrites g old new
    → Edits g old new going made
    → WritesAndEndsIn g old new going
edits_end g old new made w edits = record {
  same_reference = w.same_reference;
  office = λ clean was. (edits clean was).office;
  same_schema = λ clean was. (edits clean was).same_schema;
  statistics = λ clean was. (edits clean was).statistics;
  inside = λ clean was. (edits clean was).inside;
  kept = w.kept;
  survives = w.survives;
}

-- one more statement after those so far
pub writes_then : {S X E : Type 0} (g : Ghosts S) (old mid new : Transaction S) (x : X)
    → WritesAndStaysIn g old mid going
    → WritesAndStaysIn {E = E} g mid new (Ok x) → WritesAndStaysIn g old new going
writes_then g old mid new x i w =
    let a = state g old.conn.now in
    let b = state g mid.conn.now in
    let c = state g new.conn.now in
    let early : HasCleanDisk c → HasCleanDisk b = λ clean. omega (arith, w.survives.clean, clean) in
    record {
      same_reference = w.same_reference ∙ i.same_reference;
      office = λ clean was. w.office clean (i.office (early clean) was);
      same_schema = λ clean was. w.same_schema clean (i.office (early clean) was) ∙ i.same_schema (early clean) was;
      statistics = λ clean was. w.statistics clean (i.office (early clean) was) ∙ i.statistics (early clean) was;
      inside = λ clean was mode. w.inside clean (i.office (early clean) was) (i.inside (early clean) was mode);
      kept = λ clean. keeps_then a b c (i.kept (early clean)) (w.kept clean);
      survives = nothing_left a b c i.survives w.survives;
    }

-- the same after one that left the transaction open
pub ends_then : {S X Y E F : Type 0} (g : Ghosts S) (old mid new : Transaction S) (x : X) (r : Result Y F)
    → WritesAndEndsIn {E = E} g old mid (Ok x)
    → WritesAndStaysIn g mid new r → WritesAndEndsIn g old new r
ends_then g old mid new x r i w =
    let a = state g old.conn.now in
    let b = state g mid.conn.now in
    let c = state g new.conn.now in
    let early : HasCleanDisk c → HasCleanDisk b = λ clean. omega (arith, w.survives.clean, clean) in
    record {
      same_reference = w.same_reference ∙ i.same_reference;
      office = λ clean was. w.office clean (i.office (early clean) was);
      same_schema = λ clean was. on_ok_weaker r (λ same. same ∙ i.same_schema (early clean) was)
          (w.same_schema clean (i.office (early clean) was));
      statistics = λ clean was. on_ok_weaker r (λ same. same ∙ i.statistics (early clean) was)
          (w.statistics clean (i.office (early clean) was));
      inside = λ clean was. w.inside clean (i.office (early clean) was) (i.inside (early clean) was);
      kept = λ clean. keeps_then a b c (i.kept (early clean)) (w.kept clean);
      survives = nothing_left a b c i.survives w.survives;
    }

-- the same where they read too
pub stays_then : {S X E : Type 0} (g : Ghosts S) (old mid new : Transaction S) (x : X) → StaysIn g old mid going
    → StaysIn {E = E} g mid new (Ok x) → StaysIn g old new going
stays_then g old mid new x i w =
    let a = state g old.conn.now in
    let b = state g mid.conn.now in
    let c = state g new.conn.now in
    let early : HasCleanDisk c → HasCleanDisk b = λ clean. omega (arith, w.survives.clean, clean) in
    record {
      same_reference = w.same_reference ∙ i.same_reference;
      office = λ clean was. w.office clean (i.office (early clean) was);
      same_schema = λ clean was. w.same_schema clean (i.office (early clean) was) ∙ i.same_schema (early clean) was;
      statistics = λ clean was. w.statistics clean (i.office (early clean) was) ∙ i.statistics (early clean) was;
      inside = λ clean was mode. w.inside clean (i.office (early clean) was) (i.inside (early clean) was mode);
      kept = λ clean was. keeps_then a b c (i.kept (early clean) was) (w.kept clean (i.office (early clean) was));
      survives = nothing_left a b c i.survives w.survives;
    }
