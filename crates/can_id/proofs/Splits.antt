-- A 29-bit identifier and its fields give each other back.
use Rattle.std.proofs.Common.{◌≡◌, ℕ, ◌≤◌, ◌/◌, arith}
use Rattle.std.proofs.lemmas.Bool.Decides.{nat_tests}
use Rattle.can_id.specs.J1939.{Fields, AreInRange, AreFieldsOf, fields_of, number_of}
use Rattle.can_id.proofs.Groups.{page_bit-page_of}

-- every 29-bit number has its fields
pub AreFieldsOf-fields_of : (n : ℕ) → n ≤ 536870911 → AreFieldsOf n (fields_of n)
AreFieldsOf-fields_of n h =
    let extended = page_bit-page_of (n / 33554432) in
    let page = page_bit-page_of (n / 16777216) in
    record {
      ranges = record { priority = omega arith; pf = omega arith; ps = omega arith; source = omega arith };
      number = omega arith;
    }

pub fields_of-number_of : (f : Fields) → AreInRange f → fields_of (number_of f) ≡ f
fields_of-number_of f ranges = grind (arith, nat_tests)
