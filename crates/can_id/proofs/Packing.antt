-- Fields that are shifted past one another and joined by `|` are a sum of products.
use Rattle.std.proofs.Common.{◌≡◌, ℕ, ◌+◌, ◌*◌, ◌%◌, ◌^◌, ◌<◌, ◌≤◌, Bool, true, false, Option, Some, None, refl, bit_or}
use Rattle.std.proofs.Common.{arith, ◌∙◌, ap}
use Rattle.std.specs.Prelude.{SomeIff}
use Rattle.std.proofs.lemmas.Nat.{or_shifted}
use Rattle.std.specs.Int.{from_bool}
use Rattle.can_id.specs.J1939.{Fields, AreInRange, number_of, page_bit}
use Rattle.can_id.proofs.Groups.{page_bit_below}

or_low : (high low k a : ℕ) → high ≡ a * 2 ^ k → low < 2 ^ k → bit_or high low ≡ high + low
or_low high low k a e h = rw e (or_shifted a k low h)

pub packed_group : (e d pf low : ℕ) → e ≤ 1 → d ≤ 1 → pf ≤ 255 → low ≤ 255
    → bit_or (bit_or (bit_or (e * 131072 % 4294967296) (d * 65536 % 4294967296)) (pf * 256 % 4294967296)) low
    ≡ e * 131072 + d * 65536 + pf * 256 + low
packed_group e d pf low he hd hp hl =
    let pages : bit_or (e * 131072 % 4294967296) (d * 65536 % 4294967296) ≡ e * 131072 + d * 65536 =
    or_low (e * 131072 % 4294967296) (d * 65536 % 4294967296) 17 e (omega arith) (omega arith) ∙ omega arith in
    let formats : bit_or (e * 131072 + d * 65536) (pf * 256 % 4294967296) ≡ e * 131072 + d * 65536 + pf * 256 =
    or_low (e * 131072 + d * 65536) (pf * 256 % 4294967296) 16 (e * 2 + d) (omega arith) (omega arith) ∙ omega arith in
    rw (pages, formats) (or_low (e * 131072 + d * 65536 + pf * 256) low 8 (e * 512 + d * 256 + pf) (omega arith)
    (omega arith))

packed_fields : (p e d pf ps s : ℕ) → p ≤ 7 → e ≤ 1 → d ≤ 1 → pf ≤ 255 → ps ≤ 255 → s ≤ 255
    → bit_or (bit_or (bit_or
    (bit_or (bit_or (p * 67108864 % 4294967296) (e * 33554432 % 4294967296)) (d * 16777216 % 4294967296))
    (pf * 65536 % 4294967296)) (ps * 256 % 4294967296)) s
    ≡ p * 67108864 + e * 33554432 + d * 16777216 + pf * 65536 + ps * 256 + s
packed_fields p e d pf ps s hp he hd hf hs hl =
    let first : bit_or (p * 67108864 % 4294967296) (e * 33554432 % 4294967296) ≡ p * 67108864 + e * 33554432 =
    or_low (p * 67108864 % 4294967296) (e * 33554432 % 4294967296) 26 p (omega arith) (omega arith) ∙ omega arith in
    let pages : bit_or (p * 67108864 + e * 33554432) (d * 16777216 % 4294967296) ≡ p * 67108864 + e * 33554432 + d *
    16777216 =
    or_low (p * 67108864 + e * 33554432) (d * 16777216 % 4294967296) 25 (p * 2 + e) (omega arith) (omega arith)
    ∙ omega arith in
    let formats : bit_or (p * 67108864 + e * 33554432 + d * 16777216) (pf * 65536 % 4294967296)
    ≡ p * 67108864 + e * 33554432 + d * 16777216 + pf * 65536 =
    or_low (p * 67108864 + e * 33554432 + d * 16777216) (pf * 65536 % 4294967296) 24 (p * 4 + e * 2 + d) (omega arith)
    (omega arith) ∙ omega arith in
    let specifics : bit_or (p * 67108864 + e * 33554432 + d * 16777216 + pf * 65536) (ps * 256 % 4294967296)
    ≡ p * 67108864 + e * 33554432 + d * 16777216 + pf * 65536 + ps * 256 =
    or_low (p * 67108864 + e * 33554432 + d * 16777216 + pf * 65536) (ps * 256 % 4294967296) 16
    (p * 1024 + e * 512 + d * 256 + pf) (omega arith) (omega arith) ∙ omega arith in
    rw (first, pages, formats, specifics)
    (or_low (p * 67108864 + e * 33554432 + d * 16777216 + pf * 65536 + ps * 256) s 8
    (p * 262144 + e * 131072 + d * 65536 + pf * 256 + ps) (omega arith) (omega arith))

page_bit-from_bool : (b : Bool) → from_bool b ≡ page_bit b
page_bit-from_bool true = refl
page_bit-from_bool false = refl

-- the code's words of the fields give the identifier that they are the fields of
pub packed_number : (f : Fields) (p e d pf ps s : ℕ) → AreInRange f → p ≡ f.priority → e ≡ from_bool f.extended_page
    → d ≡ from_bool f.data_page
    → pf ≡ f.pf → ps ≡ f.ps → s ≡ f.source
    → bit_or (bit_or (bit_or
    (bit_or (bit_or (p * 67108864 % 4294967296) (e * 33554432 % 4294967296)) (d * 16777216 % 4294967296))
    (pf * 65536 % 4294967296)) (ps * 256 % 4294967296)) s
    ≡ number_of f
packed_number f p e d pf ps s ranges ep ee ed ef es ea =
    let be : e ≡ page_bit f.extended_page = ee ∙ page_bit-from_bool f.extended_page in
    let bd : d ≡ page_bit f.data_page = ed ∙ page_bit-from_bool f.data_page in
    let he = page_bit_below f.extended_page in
    let hd = page_bit_below f.data_page in
    packed_fields p e d pf ps s (omega arith) (omega arith) (omega arith) (omega arith) (omega arith) (omega arith)
    ∙ rw (ep, be, bd, ef, es, ea) refl

number_below : (f : Fields) → AreInRange f → number_of f ≤ 536870911
number_below f ranges =
    let he = page_bit_below f.extended_page in
    let hd = page_bit_below f.data_page in
    omega arith

found_since : (found : Option ℕ) (n limit : ℕ) → SomeIff found (n ≤ limit) n → n ≤ limit → found ≡ Some n
found_since None n limit claim below = absurd (claim below)
found_since (Some x) n limit claim below = ap Some claim.1

-- so it is an identifier's
pub packed_identifier : (f : Fields) (n : ℕ) (found : Option ℕ) → AreInRange f → n ≡ number_of f
    → SomeIff found (n ≤ 536870911) n → found ≡ Some (number_of f)
packed_identifier f n found ranges same claim =
    let below = number_below f ranges in
    found_since found n 536870911 claim (omega arith) ∙ ap Some same
