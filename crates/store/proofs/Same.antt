-- What tables that are as they were hold.
use Rattle.store.proofs.Common.{◌≡◌, sym, subst, IsTrue, Database, State, Answered}
use Rattle.std.specs.Prelude.{List}
use Rattle.store.specs.Holding.{Holding, Keeps}
use Rattle.store.specs.Opening.{HasTables}

-- a connection that holds a history has the tables of an office
pub held_tables : (h : List Answered) (s : State) → Holding h s → HasTables s
held_tables h s holding = record { is_open = holding.is_open; office = holding.keeps.office }

-- an open connection that shows what one that held the history showed holds it
pub same_holds : (h : List Answered) (old new : State) → Holding h old → IsTrue new.is_open → new.now ≡ old.now
    → Holding h new
same_holds h old new holding is_open same = record {
  is_open = is_open;
  keeps = subst (λ (db : Database). Keeps h db.trees) (sym same) holding.keeps;
}
