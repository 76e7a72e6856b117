-- The text of JSON reads as the value that it is written for.
use Rattle.desk_send.proofs.Common.{◌≡◌, ◌<◌, ◌≤◌, ◌^◌, ◌∙◌, ℕ, List, [], ◌∷◌, ◌++◌, Bool, true, false, Some, IsUtf8}
use Rattle.desk_send.proofs.Common.{refl, sym, ap, append-nil, arith, decimal, nat_lt, digit_value, AllDigits}
use Rattle.desk_send.proofs.Common.{nat_tests, ⊤, decimal_is_IsNumeral, IsUtf8-are_ascii, are_ascii, unsigned, Data}
use Rattle.desk_send.proofs.Common.{boolean, number, string, array, object, Items, no_items, item, Members, no_members}
use Rattle.desk_send.proofs.Common.{member, max_depth, of_json, read, compact_text, items_outline, outline, json_in}
use Rattle.desk_send.proofs.Common.{is_json}
use Rattle.std.proofs.Common.{option_and_then}
use Rattle.std.proofs.lemmas.Str.{IsUtf8-append}
use Rattle.json.specs.Json as json
use Rattle.json.specs.Lex.{tokens}
use Rattle.json.specs.Print.{quoted}
use Rattle.json.specs.Tree.{json_tokens, HasNumbers, ItemsHaveNumbers, MembersHaveNumbers}
use Rattle.json.specs.Tree as tree
use Rattle.json.proofs.Printed.Decimals.{IsNumber-decimal}
use Rattle.json.proofs.Printed.Tokens.{tokens-print}
use Rattle.json.proofs.Printed.Trees.{ArePrintable-json_tokens, value-json_tokens}
use Rattle.json.proofs.Printed.Utf8.{IsUtf8-boolean, IsUtf8-quoted}
use Rattle.serde_json.specs.Data.{Num, negative, float, null}
use Rattle.serde_json.specs.Written.{comma_if, items_text, members_outline, members_text}
use Rattle.serde_json.proofs.Texts.{print-outline}

-- ---- values of which the text is read: whole numbers of 64 bits, and texts that are UTF-8

abbrev pub IsWhole : Num → Type 0
IsWhole (unsigned n) = n < 2 ^ 64
IsWhole (negative z) = ⊥
IsWhole (float x) = ⊥

abbrev mutual
  pub IsPlain : Data → Type 0
  IsPlain null = ⊤
  IsPlain (boolean b) = ⊤
  IsPlain (number n) = IsWhole n
  IsPlain (string s) = IsUtf8 s
  IsPlain (array ds) = ArePlain ds
  IsPlain (object ms) = HasPlain ms

  pub ArePlain : Items → Type 0
  ArePlain no_items = ⊤
  ArePlain (item d ds) = IsPlain d × ArePlain ds

  pub HasPlain : Members → Type 0
  HasPlain no_members = ⊤
  HasPlain (member k d ms) = IsUtf8 k × IsPlain d × HasPlain ms

mutual
  has_numbers : (d : Data) → IsPlain d → HasNumbers (outline d)
  has_numbers null is = tt
  has_numbers (boolean b) is = tt
  has_numbers (number (unsigned n)) is = IsNumber-decimal n is
  has_numbers (number (negative z)) is = absurd is
  has_numbers (number (float x)) is = absurd is
  has_numbers (string s) is = tt
  has_numbers (array ds) is = items_have_numbers ds is
  has_numbers (object ms) is = members_have_numbers ms is

  items_have_numbers : (ds : Items) → ArePlain ds → ItemsHaveNumbers (items_outline ds)
  items_have_numbers no_items is = tt
  items_have_numbers (item d ds) is = (has_numbers d is.0, items_have_numbers ds is.1)

  members_have_numbers : (ms : Members) → HasPlain ms → MembersHaveNumbers (members_outline ms)
  members_have_numbers no_members is = tt
  members_have_numbers (member k d ms) is = (has_numbers d is.1, members_have_numbers ms is.2)

-- ---- the text is UTF-8

digit_small : (b : ℕ) → digit_value b < 10 → nat_lt b 128 ≡ true
digit_small b h = grind (arith, nat_tests, h)

digits_ascii : (bytes : List ℕ) → AllDigits 10 bytes → are_ascii bytes ≡ true
digits_ascii [] h = refl
digits_ascii (b ∷ bytes) h = rw (digit_small b h.0) (digits_ascii bytes h.1)

pub decimal_ascii : (n : ℕ) → n < 2 ^ 64 → are_ascii (decimal n) ≡ true
decimal_ascii n h = digits_ascii (decimal n) (decimal_is_IsNumeral n h).0.1

a_byte : (b : ℕ) (bytes : List ℕ) → are_ascii (b ∷ []) ≡ true → IsUtf8 bytes → IsUtf8 (b ∷ bytes)
a_byte b bytes small is = IsUtf8-append (b ∷ []) bytes (IsUtf8-are_ascii (b ∷ []) small) is

comma : (later : Bool) → IsUtf8 (comma_if later)
comma true = IsUtf8-are_ascii (44 ∷ []) refl
comma false = IsUtf8-are_ascii [] refl

mutual
  utf8_text : (d : Data) → IsPlain d → IsUtf8 (compact_text d)
  utf8_text null is = IsUtf8-are_ascii (110 ∷ 117 ∷ 108 ∷ 108 ∷ []) refl
  utf8_text (boolean b) is = IsUtf8-boolean b
  utf8_text (number (unsigned n)) is = IsUtf8-are_ascii (decimal n) (decimal_ascii n is)
  utf8_text (number (negative z)) is = absurd is
  utf8_text (number (float x)) is = absurd is
  utf8_text (string s) is = IsUtf8-quoted s is
  utf8_text (array ds) is = a_byte 91 (items_text false ds) refl (utf8_items false ds is)
  utf8_text (object ms) is = a_byte 123 (members_text false ms) refl (utf8_members false ms is)

  utf8_items : (later : Bool) (ds : Items) → ArePlain ds → IsUtf8 (items_text later ds)
  utf8_items later no_items is = IsUtf8-are_ascii (93 ∷ []) refl
  utf8_items later (item d ds) is =
      IsUtf8-append (comma_if later) (compact_text d ++ items_text true ds) (comma later)
      (IsUtf8-append (compact_text d) (items_text true ds) (utf8_text d is.0) (utf8_items true ds is.1))

  utf8_members : (later : Bool) (ms : Members) → HasPlain ms → IsUtf8 (members_text later ms)
  utf8_members later no_members is = IsUtf8-are_ascii (125 ∷ []) refl
  utf8_members later (member k d ms) is =
      let rest = compact_text d ++ members_text true ms in
      IsUtf8-append (comma_if later) (quoted k ++ 58 ∷ rest) (comma later)
      (IsUtf8-append (quoted k) (58 ∷ rest) (IsUtf8-quoted k is.0)
      (a_byte 58 rest refl
      (IsUtf8-append (compact_text d) (members_text true ms) (utf8_text d is.1) (utf8_members true ms is.2))))

-- ---- the text reads as the value

reads_tokens : (d : Data) → IsPlain d → tree.depth (outline d) ≤ max_depth → of_json (outline d) ≡ Some d
    → read (compact_text d) ≡ Some d
reads_tokens d is shallow back =
    let ts = json_tokens (outline d) in
    let same : tokens (compact_text d) ≡ ts ++ [] =
    ap tokens (sym (print-outline d)) ∙ tokens-print ts (ArePrintable-json_tokens (outline d) (has_numbers d is))
    ∙ sym (append-nil ts) in
    ap (λ us. option_and_then of_json (option_and_then (λ p. json.if_last p.0 p.1) (json.value max_depth us))) same
    ∙ ap (λ o. option_and_then of_json (option_and_then (λ p. json.if_last p.0 p.1) o))
    (value-json_tokens (outline d) max_depth [] shallow)
    ∙ back

pub text_back : (d : Data) → IsPlain d → tree.depth (outline d) ≤ max_depth → of_json (outline d) ≡ Some d
    → json_in (compact_text d) ≡ Some d
text_back d is shallow back = sym (is_json (compact_text d) d (utf8_text d is) (reads_tokens d is shallow back))
