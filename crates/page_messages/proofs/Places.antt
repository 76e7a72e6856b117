-- Bits in reading order: those at a place are side by side.
use Rattle.page_messages.proofs.Common.{◌≡◌, ◌+◌, ◌-◌, ◌<◌, ◌≤◌, ◌==◌, ◌∙◌, ℕ, zero, suc, Bool, true, false, List, []}
use Rattle.page_messages.proofs.Common.{◌∷◌, length, take, filter, cond, get_or, leb, ltb, refl, sym, ap, arith}
use Rattle.page_messages.proofs.Common.{nat_tests}
use Rattle.std.proofs.Common.{drop}
use Rattle.std.specs.List.Sorted.{IsPartitionPoint}
use Rattle.std.proofs.lemmas.List.{get_or-drop, length-drop}
use Rattle.page_messages.specs.Layouts.{bits_at, place_of}
use Rattle.page_messages.specs.declared.bits.Held.{Held}

-- ---- those at a place, between two places of a list

skipped : (p : Held → Bool) (i : ℕ) (ys : List Held) → ((k : ℕ) (d : Held) → k < i → p (get_or ys k d) ≡ false)
    → i ≤ length ys → filter p ys ≡ filter p (drop i ys)
skipped p zero ys fails h = refl
skipped p (suc i) [] fails h = refl
skipped p (suc i) (y ∷ ys) fails h =
    ap (λ b. cond b (y ∷ filter p ys) (filter p ys)) (fails 0 y (omega arith))
    ∙ skipped p i ys (λ k d below. fails (suc k) d (omega arith)) (omega arith)

in_front : (p : Held → Bool) (j : ℕ) (ys : List Held) → ((k : ℕ) (d : Held) → k < j → p (get_or ys k d) ≡ true)
    → ((k : ℕ) (d : Held) → j ≤ k → k < length ys → p (get_or ys k d) ≡ false) → filter p ys ≡ take j ys
in_front p zero [] passes fails = refl
in_front p zero (y ∷ ys) passes fails =
    ap (λ b. cond b (y ∷ filter p ys) (filter p ys)) (fails 0 y (omega arith) (omega arith))
    ∙ in_front p zero ys (λ k d below. absurd (omega arith))
    (λ k d above below. fails (suc k) d (omega arith) (omega arith))
in_front p (suc j) [] passes fails = refl
in_front p (suc j) (y ∷ ys) passes fails =
    ap (λ b. cond b (y ∷ filter p ys) (filter p ys)) (passes 0 y (omega arith))
    ∙ ap (λ v. y ∷ v)
    (in_front p j ys (λ k d below. passes (suc k) d (omega arith))
    (λ k d above below. fails (suc k) d (omega arith) (omega arith)))

below_apart : (a n : ℕ) → ltb a n ≡ true → (a == n) ≡ false
below_apart a n h = grind (arith, nat_tests)

same_at : (a n : ℕ) → ltb a n ≡ false → leb a n ≡ true → (a == n) ≡ true
same_at a n h g = grind (arith, nat_tests)

above_apart : (a n : ℕ) → leb a n ≡ false → (a == n) ≡ false
above_apart a n h = grind (arith, nat_tests)

-- from the first one that isn't before the place, up to the last one that isn't after it
pub between : (n : ℕ) (ys rest : List Held) (i j : ℕ) → i ≤ length ys → rest ≡ drop i ys
    → IsPartitionPoint (λ y. ltb (place_of y) n ≡ true) (λ y. ltb (place_of y) n ≡ false) ys i
    → IsPartitionPoint (λ y. leb (place_of y) n ≡ true) (λ y. leb (place_of y) n ≡ false) rest j → j ≤ length rest
    → take j rest ≡ bits_at ys n
between n ys rest i j h is first last g =
    let p : Held → Bool = λ (y : Held). y.place == n in
    let long : length rest ≡ length ys - i = ap length is ∙ length-drop i ys in
    let at : (k : ℕ) (d : Held) → get_or rest k d ≡ get_or ys (i + k) d =
    λ k d. ap (λ v. get_or v k d) is ∙ get_or-drop i ys k d in
    let above : (k : ℕ) (d : Held) → k < length rest → ltb (place_of (get_or rest k d)) n ≡ false =
    λ k d below. ap (λ y. ltb (place_of y) n) (at k d) ∙ first.1 (i + k) d (omega arith) (omega arith) in
    sym (skipped p i ys (λ k d below. below_apart _ n (first.0 k d (omega arith) below)) h
    ∙ ap (filter p) (sym is)
    ∙ in_front p j rest
    (λ k d below. same_at _ n (above k d (omega arith)) (last.0 k d (omega arith) below))
    (λ k d from below. above_apart _ n (last.1 k d from below)))
