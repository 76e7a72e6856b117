-- The first position at which a test passes is an index.
use Rattle.dbc_read.proofs.Common.{◌≡◌, ◌<◌, ◌≤◌, ◌+◌, ◌∙◌, ◌||◌, ◌++◌, ℕ, zero, suc, Bool, true, false, not, cond}
use Rattle.dbc_read.proofs.Common.{List, [], ◌∷◌, length, map, nat_lt, Option, Some, None, refl, sym, ap, subst, arith}
use Rattle.dbc_read.proofs.Common.{slice_get, list_any, list_any-append}
use Rattle.std.proofs.Common.{position}
use Rattle.std.specs.List.{position_or_len}
use Rattle.std.proofs.lemmas.Bool.{ltb-false, ltb-true}
use Rattle.dbc_read.specs.Lookup.{IsIndexIn}
use Rattle.dbc_read.proofs.Gathering.{none_true}

module _ {K : Type 0} (p : K → Bool) where
  passes_at : (xs : List K) (k : ℕ) → position_or_len p xs ≡ k → k < length xs → slice_get (map p xs) k ≡ Some true
  passes_at [] k e h = absurd (omega arith)
  passes_at (x ∷ xs) k e h = by (p x) refl (passes_at xs (position_or_len p xs) refl)
    where
      by : (b : Bool) → p x ≡ b
          → (position_or_len p xs < length xs → slice_get (map p xs) (position_or_len p xs) ≡ Some true)
          → slice_get (map p (x ∷ xs)) k ≡ Some true
      by true t rest =
          let z : 0 ≡ k = ap (λ b. cond (not b) (1 + position_or_len p xs) 0) (sym t) ∙ e in
          subst (λ n. slice_get (map p (x ∷ xs)) n ≡ Some true) z (ap (λ b. Some b) t)
      by false t rest =
          let z : 1 + position_or_len p xs ≡ k = ap (λ b. cond (not b) (1 + position_or_len p xs) 0) (sym t) ∙ e in
          let s : suc (position_or_len p xs) ≡ k = omega arith in
          subst (λ n. slice_get (map p (x ∷ xs)) n ≡ Some true) s (rest (omega arith))

  passes_nowhere : (xs : List K) → length xs ≤ position_or_len p xs → list_any p xs ≡ false
  passes_nowhere [] h = refl
  passes_nowhere (x ∷ xs) h = by (p x) refl (passes_nowhere xs)
    where
      by : (b : Bool) → p x ≡ b → (length xs ≤ position_or_len p xs → list_any p xs ≡ false)
          → list_any p (x ∷ xs) ≡ false
      by true t rest =
          let z : position_or_len p (x ∷ xs) ≡ 0 = ap (λ b. cond (not b) (1 + position_or_len p xs) 0) t in
          absurd (omega arith)
      by false t rest =
          let z : position_or_len p (x ∷ xs) ≡ 1 + position_or_len p xs =
          ap (λ b. cond (not b) (1 + position_or_len p xs) 0) t in
          ap (λ b. b || list_any p xs) t ∙ rest (omega arith)

  pub index_from_position : (xs : List K) → IsIndexIn p xs (position p xs)
  index_from_position xs = by (nat_lt (position_or_len p xs) (length xs)) refl
    where
      by : (b : Bool) → nat_lt (position_or_len p xs) (length xs) ≡ b
          → IsIndexIn p xs (cond b (Some (position_or_len p xs)) None)
      by true t = passes_at xs (position_or_len p xs) refl (ltb-true (position_or_len p xs) (length xs) t)
      by false t = passes_nowhere xs (ltb-false (position_or_len p xs) (length xs) t)

  -- an index in the front of a list, and one after it
  pub front_stays : (xs ys : List K) (i : ℕ) → slice_get (map p xs) i ≡ Some true
      → slice_get (map p (xs ++ ys)) i ≡ Some true
  front_stays [] ys i h = none_true h
  front_stays (x ∷ xs) ys zero h = h
  front_stays (x ∷ xs) ys (suc i) h = front_stays xs ys i h

  pub after_front : (xs ys : List K) (i : ℕ) → slice_get (map p ys) i ≡ Some true
      → slice_get (map p (xs ++ ys)) (length xs + i) ≡ Some true
  after_front [] ys i h = let e : i ≡ 0 + i = omega arith in subst (λ n. slice_get (map p ys) n ≡ Some true) e h
  after_front (x ∷ xs) ys i h =
      let e : suc (length xs + i) ≡ suc (length xs) + i = omega arith in
      subst (λ n. slice_get (map p (x ∷ (xs ++ ys))) n ≡ Some true) e (after_front xs ys i h)

  pub none_after : (xs ys : List K) (o : Option ℕ) → IsIndexIn p xs o → list_any p ys ≡ false → IsIndexIn p (xs ++ ys) o
  none_after xs ys None h k = list_any-append p xs ys ∙ ap (λ b. b || list_any p ys) h ∙ k
  none_after xs ys (Some i) h k = front_stays xs ys i h
