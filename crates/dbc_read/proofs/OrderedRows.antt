-- Computed rows of the definitions of orders.
use Rattle.dbc_read.proofs.Common.{◌≡◌, ◌<◌, ◌≤◌, ◌+◌, ℕ, zero, suc, false, List, [], ◌∷◌, Global, None, get_or, refl}
use Rattle.dbc_read.proofs.Common.{true≢false, arith, is_lt, text_cmp}
use Rattle.dbc_read.specs.Orders.{IsAscending, IsOrderOf}

-- the names b and a
abbrev b_and_a : List (List ℕ)
b_and_a = (98 ∷ []) ∷ (97 ∷ []) ∷ []

a_is_first : (k d : ℕ) → 0 ≤ k → k + 1 < 2
    → is_lt (text_cmp (get_or b_and_a (get_or (1 ∷ 0 ∷ []) (k + 1) d) []) (get_or b_and_a (get_or (1 ∷ 0 ∷ []) k d) []))
    ≡ false
a_is_first zero d low high = refl
a_is_first (suc k) d low high = absurd (omega arith)

-- they ascend if the second comes first
ascend : IsAscending b_and_a (1 ∷ 0 ∷ [])
ascend = record {
  indices = record { moves = (0, 1) ∷ []; below = (omega arith, omega arith, tt); is = refl };
  sorted =
      a_is_first;
}

-- and not as they are
unordered : ¬ IsAscending b_and_a (0 ∷ 1 ∷ [])
unordered = λ h. true≢false (h.sorted 0 0 (omega arith) (omega arith))

-- so few need no order
need_none : IsOrderOf {A = Global} b_and_a None
need_none = omega arith
