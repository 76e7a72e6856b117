-- The positions of a signal's bits (Vector's DBC File Format Documentation, start bit, size and byte order of
-- a signal). Position 8 * b + i is bit i of byte b, 7 being the byte's most significant bit.
use Rattle.std.specs.Prelude.{ℕ, ◌+◌, ◌-◌, ◌*◌, ◌%◌, ◌<◌, ◌==◌, nat_lt, if◌then◌else◌, Bool, List, [], ◌∷◌, Contains}
use Rattle.std.specs.List.{list_any, list_all}
use Prim.Native.Nat.{zero, suc}
use Rattle.bitlayout.specs.declared.layout.Order.{Order}
use Rattle.bitlayout.specs.declared.layout.Order.TheVariants.{Intel, Motorola}
use Rattle.bitlayout.specs.declared.layout.Layout.{Layout}

-- the position after p
abbrev pub next_position : Order → ℕ → ℕ
next_position Intel p = p + 1
next_position Motorola p = if p % 8 == 0 then p + 15 else p - 1

-- the first positions of the walk from p
unfoldable pub walk : Order → ℕ → ℕ → List ℕ
walk order zero p = []
walk order (suc count) p = p ∷ walk order count (next_position order p)

-- the positions of a signal's bits, in the order of the walk
abbrev pub positions : Layout → List ℕ
positions layout = walk layout.order layout.size layout.start

-- q is the position of one of the signal's bits
abbrev pub IsBit : Layout → ℕ → Type 0
IsBit layout q = Contains (positions layout) q

-- the signals have a position in common
abbrev pub SharesBit : Layout → Layout → Type 0
SharesBit a b = (q : ℕ) × IsBit a q × IsBit b q

-- each of the signal's bits lies in a payload of this many bytes
abbrev pub IsInside : Layout → ℕ → Type 0
IsInside layout bytes = (q : ℕ) → IsBit layout q → q < 8 * bytes

-- The same computed.

-- whether q is the position of one of the signal's bits
unfoldable pub is_bit : Layout → ℕ → Bool
is_bit layout q = list_any (λ p. q == p) (positions layout)

-- whether the signals have a position in common
unfoldable pub shares_bit : Layout → Layout → Bool
shares_bit a b = list_any (λ p. list_any (λ q. p == q) (positions b)) (positions a)

-- whether each of the signal's bits lies in a payload of this many bytes
unfoldable pub is_inside : Layout → ℕ → Bool
is_inside layout bytes = list_all (λ q. nat_lt q (8 * bytes)) (positions layout)
