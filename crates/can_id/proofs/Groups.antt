-- Parameter group numbers, stated and computed.
use Rattle.std.proofs.Common.{◌≡◌, ℕ, ◌/◌, ◌%◌, ◌<◌, ◌≤◌, Bool, true, false, cond, refl, arith}
use Rattle.std.specs.Prelude.{◌↔◌, IsTrue, Ok}
use Rattle.std.proofs.lemmas.Bool.Decides.{nat_tests}
use Rattle.can_id.specs.J1939.{Fields, IsOfGroup, IsPgn, IsBuilt, page_bit, page_of, is_pdu1, is_pgn, format_of}
use Rattle.can_id.specs.J1939.{fields_with, build_result}

pub page_bit_below : (b : Bool) → page_bit b ≤ 1
page_bit_below true = omega arith
page_bit_below false = omega arith

pub page_bit-page_of : (n : ℕ) → page_bit (page_of n) ≡ n % 2
page_bit-page_of n = grind (arith, nat_tests)

pub page_of-page_bit : (n : ℕ) (b : Bool) → n % 2 ≡ page_bit b → page_of n ≡ b
page_of-page_bit n true e = grind (arith, nat_tests)
page_of-page_bit n false e = grind (arith, nat_tests)

pub is_pgn_of_group : (n : ℕ) (f : Fields) → IsOfGroup n f → is_pgn n ≡ true
is_pgn_of_group n f group =
    let extended = page_bit_below f.extended_page in
    let page = page_bit_below f.data_page in
    let pdu_format = group.ranges.pf in
    let specific = group.ranges.ps in
    let low : cond (is_pdu1 f.pf) 0 f.ps ≤ 255 = grind arith in
    let whole = group.pgn in
    let format : format_of n ≡ f.pf = omega arith in
    let last : n % 256 ≡ cond (is_pdu1 f.pf) 0 f.ps = omega arith in
    let small : n < 262144 = omega arith in
    grind (arith, nat_tests)

pub group_of_fields_with : (priority pgn destination source : ℕ) → priority ≤ 7 → is_pgn pgn ≡ true → destination ≤ 255
    → source ≤ 255
    → IsOfGroup pgn (fields_with priority pgn destination source)
group_of_fields_with priority pgn destination source hp hg hd hs =
    let extended = page_bit-page_of (pgn / 131072) in
    let page = page_bit-page_of (pgn / 65536) in
    record {
      ranges = record { priority = hp; pf = omega arith; ps = grind (arith, nat_tests); source = hs };
      pgn = grind (arith, nat_tests);
    }

pub pgn_decides : (n : ℕ) (answer : Bool) → answer ≡ is_pgn n → IsTrue answer ↔ IsPgn n
pgn_decides n answer same =
    rw same (
      (λ e. (fields_with 0 n 0 0, group_of_fields_with 0 n 0 0 (omega arith) e (omega arith) (omega arith))),
      (λ (f, group). is_pgn_of_group n f group),
    )

-- what is built is as it was requested
pub built_as_requested : (priority pgn destination source : ℕ) → priority ≤ 7 → is_pgn pgn ≡ true
    → (is_pdu1 (format_of pgn) ≡ false → destination ≡ 255) → destination ≤ 255 → source ≤ 255
    → IsBuilt priority pgn destination source (fields_with priority pgn destination source)
built_as_requested priority pgn destination source hp hg global hd hs =
    record {
      group = group_of_fields_with priority pgn destination source hp hg hd hs;
      priority = refl;
      destination = grind (arith, nat_tests);
      source = refl;
    }

-- and it is the only message with these fields
pub build_result_only : (wanted pgn address sender : ℕ) (f : Fields) → IsBuilt wanted pgn address sender f
    → build_result wanted pgn address sender ≡ Ok f
build_result_only wanted pgn address sender f h =
    let extended = page_bit_below f.extended_page in
    let page = page_bit_below f.data_page in
    let test = is_pgn_of_group pgn f h.group in
    grind (arith, nat_tests)
