-- What a crash may leave.
use Rattle.store.proofs.Common.{◌≡◌, ◌⊎◌, inl, inr, Err, Ok, Result, sym, subst, arith, OnErr, HasCleanDisk, State}
use Rattle.store.proofs.Common.{Survives, Trees, Error}
use Rattle.store.specs.Holding.{Leaves}

pub on_err : {Y X : Type 0} (r : Result Y Error) → X → OnErr r X
on_err (Ok y) it = tt
on_err (Err e) it = it

-- after a commit that may have failed it is what it was before the transaction, or what was to be committed
pub either_left : (old last new : State) (Before After : Trees → Type 0) → HasCleanDisk new
    → Survives old last (λ _. ⊥) → Survives last new (λ db. db ≡ last.now.trees)
    → Leaves Before old → After last.now.trees → Leaves (λ db. Before db ⊎ After db) new
either_left old last new Before After clean inside ends leaves after db left = elim (ends.crash clean db left) [
  | inl earlier ↦ elim (inside.crash (omega (arith, ends.clean, clean)) db earlier)
      [ inl first ↦ inl (leaves db first) | inr never ↦ absurd never ]
  | inr is ↦ inr (subst After (sym is) after)
]

-- what a crash may leave, stated with less
pub survives_more : (old new : State) (P Q : Trees → Type 0) → ((db : Trees) → P db → Q db) → Survives old new P
    → Survives old new Q
survives_more old new P Q more s = record {
  clean = s.clean;
  shield = s.shield;
  counts = s.counts;
  limit = s.limit;
  closes = s.closes;
  crash = λ clean db left. elim (s.crash clean db left) [ inl was ↦ inl was | inr made ↦ inr (more db made) ];
}
