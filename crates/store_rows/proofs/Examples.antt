-- Worked examples, computed from the definitions.
use Rattle.store_rows.proofs.Common.{◌≡◌, [], ◌∷◌, pos, codes, refl, Int, Text, Tables, no_rows, approval_row, held_row}
use Rattle.store_rows.proofs.Common.{spn_row}
use Rattle.sqlite_value.specs.Order.{value_cmp}
use lib.Ieee
use Rattle.office_types.specs.declared.state.Phase.TheVariants.{Draft, Review}
use Rattle.dbc_sheet.specs.Sheet.{empty_sheet}
use Rattle.store_rows.specs.NetIn.{no_rest, rest_of}
use Rattle.store_rows.specs.Rows.{numbered, submitter_text}
use Rattle.store_rows.specs.Written.{with_approval_row, with_held_row, with_spn_row, without_approval_rows}

-- one held number of `truck`, one of `bus`, two approvals of `truck`, and two used numbers
abbrev tables : Tables
tables = record no_rows {
  held = held_row (codes "truck") 7 ∷ held_row (codes "bus") 7 ∷ [];
  approval = approval_row (codes "truck") (codes "engine") ∷ approval_row (codes "truck") (codes "brake") ∷ [];
  spn = spn_row 84 ∷ spn_row 520 ∷ [];
}

-- the rows of a network, and of one that isn't there
of_bus : rest_of (codes "bus") tables ≡ record no_rest { held = held_row (codes "bus") 7 ∷ [] }
unfolding value_cmp lib.Ieee.is_nan lib.Ieee.lt
of_bus = refl

of_none : rest_of (codes "tractor") tables ≡ no_rest
unfolding value_cmp lib.Ieee.is_nan lib.Ieee.lt
of_none = refl

-- a block of suspect parameter numbers isn't among the network's own
own_blocks : rest_of (codes "truck") (record no_rows {
  block = (Text (codes "truck") ∷ Int (pos 3) ∷ Int (pos 500) ∷ Int (pos 509) ∷ Text (codes "engine") ∷ [])
      ∷ (Text (codes "truck") ∷ Int (pos 0) ∷ Int (pos 256) ∷ Int (pos 258) ∷ Text (codes "engine") ∷ []) ∷ [];
})
    ≡ record no_rest {
      blocks =
          (Text (codes "truck") ∷ Int (pos 0) ∷ Int (pos 256) ∷ Int (pos 258) ∷ Text (codes "engine") ∷ []) ∷ [];
    }
unfolding value_cmp lib.Ieee.is_nan lib.Ieee.lt
own_blocks = refl

-- a number that is held again stays one row, and other networks' rows stay
held_again : (with_held_row (codes "truck") 7 tables).held ≡ held_row (codes "bus") 7 ∷ held_row (codes "truck") 7 ∷ []
unfolding value_cmp lib.Ieee.is_nan lib.Ieee.lt
held_again = refl

entered : (with_spn_row 500 tables).spn ≡ spn_row 84 ∷ spn_row 500 ∷ spn_row 520 ∷ []
unfolding value_cmp lib.Ieee.is_nan lib.Ieee.lt
entered = refl

approved : (with_approval_row (codes "truck") (codes "engine") tables).approval
    ≡ approval_row (codes "truck") (codes "brake") ∷ approval_row (codes "truck") (codes "engine") ∷ []
unfolding value_cmp lib.Ieee.is_nan lib.Ieee.lt
approved = refl

cleared : (without_approval_rows (codes "truck") tables).approval ≡ []
unfolding value_cmp lib.Ieee.is_nan lib.Ieee.lt
cleared = refl

draft_submitter : submitter_text Draft ≡ []
draft_submitter = refl

review_submitter : submitter_text (Review (codes "engine")) ≡ codes "engine"
review_submitter = refl

two_releases : numbered 1 (empty_sheet ∷ empty_sheet ∷ []) ≡ (1, empty_sheet) ∷ (2, empty_sheet) ∷ []
two_releases = refl
