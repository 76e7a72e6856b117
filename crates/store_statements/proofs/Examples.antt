-- Worked examples, computed from the definitions.
use Rattle.store_statements.proofs.Common.{◌≡◌, [], ◌∷◌, pos, not, codes, false, refl, Null, Int, Text, put_row}
use Rattle.std.proofs.Common.{negsuc, filter, map, true}
use Rattle.std.specs.declared.cmp.Ordering.TheVariants.{Less, Greater}
use Rattle.sqlite_value.specs.Order.{value_cmp}
use lib.Ieee
use Rattle.store_statements.specs.Rows.{approval_row, held_row, spn_row, is_of_net, has_name_of, has_net_and_number}
use Rattle.store_statements.specs.Rows.{has_rowid_above, has_rowid_below, has_two_texts, is_number}
use Rattle.store_statements.specs.Shown.{held_shown, blocks_order, net_names_order}

-- the held numbers of one network
of_truck : map held_shown
    (filter (is_of_net (codes "truck"))
    (held_row (codes "bus") 7 ∷ held_row (codes "truck") 0 ∷ held_row (codes "truck") 4294967295 ∷ []))
    ≡ (Int (pos 0) ∷ []) ∷ (Int (pos 4294967295) ∷ []) ∷ []
unfolding value_cmp lib.Ieee.is_nan lib.Ieee.lt
of_truck = refl

-- a DELETE by a key leaves the other network's row of the same number
without_one : filter (λ row. not (has_net_and_number (codes "truck") 7 row))
    (held_row (codes "bus") 7 ∷ held_row (codes "truck") 7 ∷ held_row (codes "truck") 8 ∷ [])
    ≡ held_row (codes "bus") 7 ∷ held_row (codes "truck") 8 ∷ []
unfolding value_cmp lib.Ieee.is_nan lib.Ieee.lt
without_one = refl

-- a DELETE by the beginning of a key leaves a network whose name goes on
without_truck : filter (λ row. not (is_of_net (codes "truck") row))
    (approval_row (codes "truck") (codes "engine") ∷ approval_row (codes "truck-2") (codes "engine")
    ∷ approval_row (codes "truck") (codes "brake") ∷ [])
    ≡ approval_row (codes "truck-2") (codes "engine") ∷ []
unfolding value_cmp lib.Ieee.is_nan lib.Ieee.lt
without_truck = refl

one_approval : map (has_two_texts (codes "truck") (codes "brake"))
    (approval_row (codes "truck") (codes "brake") ∷ approval_row (codes "brake") (codes "truck") ∷ []) ≡ true ∷ false
    ∷ []
unfolding value_cmp lib.Ieee.is_nan lib.Ieee.lt
one_approval = refl

-- a signal of the message, one of another message, and one of another name
one_signal : map (has_name_of (codes "truck") 256 (codes "Speed"))
    ((Text (codes "truck") ∷ Int (pos 256) ∷ Int (pos 4) ∷ Text (codes "Speed") ∷ [])
    ∷ (Text (codes "truck") ∷ Int (pos 257) ∷ Int (pos 4) ∷ Text (codes "Speed") ∷ [])
    ∷ (Text (codes "truck") ∷ Int (pos 256) ∷ Int (pos 5) ∷ Text (codes "Gear") ∷ []) ∷ [])
    ≡ true ∷ false ∷ false ∷ []
unfolding value_cmp lib.Ieee.is_nan lib.Ieee.lt
one_signal = refl

-- rows of a tree, which begin with their rowids
above_two : map (has_rowid_above 2) ((Int (pos 2) ∷ []) ∷ (Int (pos 3) ∷ []) ∷ []) ≡ false ∷ true ∷ []
unfolding value_cmp lib.Ieee.is_nan lib.Ieee.lt
above_two = refl

below_one : map (has_rowid_below 1) ((Int (negsuc 0) ∷ []) ∷ (Int (pos 0) ∷ []) ∷ (Int (pos 1) ∷ []) ∷ (Null ∷ []) ∷ [])
    ≡ true ∷ true ∷ false ∷ false ∷ []
unfolding value_cmp lib.Ieee.is_nan lib.Ieee.lt
below_one = refl

-- a used number comes in its place, and the same number again stays one row
used : put_row (spn_row 500) (spn_row 84 ∷ spn_row 520 ∷ []) ≡ spn_row 84 ∷ spn_row 500 ∷ spn_row 520 ∷ []
unfolding value_cmp lib.Ieee.is_nan lib.Ieee.lt
used = refl

used_again : map (is_number 500) (put_row (spn_row 500) (spn_row 84 ∷ spn_row 500 ∷ [])) ≡ false ∷ true ∷ []
unfolding value_cmp lib.Ieee.is_nan lib.Ieee.lt
used_again = refl

-- blocks by form and then by first number; names by their bytes, a beginning first
by_form_first : blocks_order (Text (codes "truck") ∷ Int (pos 0) ∷ Int (pos 900) ∷ [])
    (Text (codes "truck") ∷ Int (pos 1) ∷ Int (pos 5) ∷ []) ≡ Less
unfolding value_cmp lib.Ieee.is_nan lib.Ieee.lt
by_form_first = refl

by_bytes : net_names_order (Text (codes "truck-2") ∷ []) (Text (codes "truck") ∷ []) ≡ Greater
unfolding value_cmp lib.Ieee.is_nan lib.Ieee.lt
by_bytes = refl
