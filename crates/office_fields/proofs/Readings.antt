-- What a reader answers of what was found.
use Rattle.std.proofs.Common.{◌≡◌, Bool, true, false, Option, Some, None, SomeIff, Decides, refl, sym, ap}
use Rattle.std.specs.Option.{ok_or}
use Rattle.office_fields.specs.declared.unread.Unread.TheVariants.{Wrong}
use Rattle.office_fields.specs.Reading.{ReadsField}
use Rattle.office_fields.specs.Value.{where_true}

-- an answer that is wrong where nothing was found
pub ReadsField-ok_or : {A : Type 0} (found o : Option A) → o ≡ found → ReadsField found (ok_or o Wrong)
ReadsField-ok_or found None e = sym e
ReadsField-ok_or found (Some x) e = sym e

-- what is there exactly where a test passes
pub found_where : {A P : Type 0} (test : Bool) (found : Option A) (value : A) → SomeIff found P value → Decides test P
    → found ≡ where_true test (Some value)
found_where true None value h decides = absurd (h (decides.0 refl))
found_where true (Some x) value h decides = ap Some h.1
found_where false None value h decides = refl
found_where false (Some x) value h decides = let e : false ≡ true = decides.1 h.0 in cc
