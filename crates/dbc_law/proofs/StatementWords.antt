-- What the tokens of pieces say.
use Rattle.dbc_law.proofs.Common.{◌≡◌, ◌^◌, ◌<◌, ◌≤◌, ◌&&◌, ℕ, Bool, true, false, not, List, [], ◌∷◌, length, Some}
use Rattle.dbc_law.proofs.Common.{refl, sym, ap, ◌∙◌, arith, decimal, is_negative, bytes_eq, and_parts, nat_tests}
use Rattle.dbc_law.proofs.Common.{IsDecimal, Number, text_reads, is_keyword, name_limit, IsName, is_c_identifier}
use Rattle.dbc_law.proofs.Common.{no_node, mark, number, quoted, space, word, node_of, IsMessage, number_of, Message}
use Rattle.std.proofs.Common.{Ok}
use Rattle.std.specs.Prelude.{nat_le}
use Rattle.std.specs.Result.{result_ok}
use Rattle.std.specs.Str.Parse.{IsNumeral, digits_value}
use Rattle.std.proofs.lemmas.Bool.{not-true}
use Rattle.std.proofs.lemmas.Fmt.{decimal_is_IsNumeral}
use Rattle.base.specs.WholeNumber.{is_numeral, whole_of}
use Rattle.base.proofs.WholeNumbers.{numeral, whole_of-is}
use Rattle.decimal.specs.Reading.{reading}
use Rattle.decimal.proofs.Computed.{read_is_reading}
use Rattle.dbc_words.specs.Name.{is_name}
use Rattle.dbc_grammar.specs.Fields.{cited_number, is_mark, made_name, number_of as decimal_of, text_of, whole_where}
use Rattle.dbc_grammar.specs.Rules.{only}
use Rattle.dbc_grammar.proofs.SheetStated.{bytes_itself}
use Rattle.dbc_grammar.proofs.TokenTexts.{inside_kept}
use Rattle.dbc_law.proofs.DecimalPieces.{digits, digits_piece}
use Rattle.dbc_law.proofs.MessageNumbers.{number_small}
use Rattle.dbc_law.proofs.PieceTokens.{token_of}

pub says_text : (gap text : List ℕ) (start end : ℕ) → text_of (token_of (quoted gap text) start end) ≡ Some text
says_text gap text start end = ap Some (inside_kept text)

pub says_mark : (gap : List ℕ) (m : ℕ) (start end : ℕ)
    → only (is_mark (m ∷ []) (token_of (mark gap (m ∷ [])) start end)) (tt {0}) ≡ Some (tt {0})
says_mark gap m start end = ap (λ b. only b tt) (bytes_itself (m ∷ []))

-- ---- names

pub says_made : (gap name : List ℕ) → IsName name → (start end : ℕ) → made_name (token_of (word gap name) start end)
    ≡ Some name
says_made gap name h start end = rw h refl

is_some_node : (name : List ℕ) → IsName name → bytes_eq name no_node ≡ false
unfolding is_name
is_some_node name h =
    let known = is_c_identifier name && nat_le (length name) name_limit && not (is_keyword name) in
    not-true (bytes_eq name no_node) (and_parts known (not (bytes_eq name no_node)) h).1

pub says_node : (gap name : List ℕ) → IsName name → (start end : ℕ)
    → node_of (token_of (word gap name) start end) ≡ Some (Some name)
says_node gap name h start end = rw (is_some_node name h, h) refl

-- ---- whole numbers

digits_back : (n : ℕ) → n < 2 ^ 32 → IsNumeral 10 (decimal n) × (digits_value 10 (decimal n) ≡ n)
digits_back n h = decimal_is_IsNumeral n (omega (arith, h))

pub whole_decimal : (n : ℕ) → n < 2 ^ 32 → whole_of (decimal n) ≡ Some n
whole_decimal n h = let back = digits_back n h in
    sym (whole_of-is (decimal n) (Some n) ((back.0, rw back.1 h), sym back.1))

pub says_where : (test : ℕ → Bool) (gap : List ℕ) (n : ℕ) → n < 2 ^ 32 → test n ≡ true
    → (start end : ℕ) → whole_where test (token_of (number gap n) start end) ≡ Some n
says_where test gap n h e start end = rw (whole_decimal n h, e) refl

pub says_at_most : (limit : ℕ) (gap : List ℕ) (n : ℕ) → limit < 2 ^ 32 → n ≤ limit
    → (start end : ℕ) → whole_where (λ m. nat_le m limit) (token_of (number gap n) start end) ≡ Some n
says_at_most limit gap n small h =
    let within : nat_le n limit ≡ true = grind (arith, nat_tests) in
    says_where (λ m. nat_le m limit) gap n (omega (arith, small, h)) within

-- the number of a message that another statement cites
pub says_cited : (m : Message) → IsMessage m → (start end : ℕ)
    → cited_number (token_of (number space (number_of m)) start end) ≡ Some (Some (number_of m))
says_cited m h start end =
    let text = decimal (number_of m) in
    let digits : is_numeral text ≡ true = (numeral text).1 (digits_back (number_of m) (number_small m h)).0 in
    ap (λ b. only b (whole_of text)) digits ∙ ap Some (whole_decimal (number_of m) (number_small m h))

-- ---- decimals

pub says_number : (gap : List ℕ) (n : Number) (negative : Bool) → IsDecimal n → is_negative n.mantissa ≡ negative
    → (start end : ℕ)
    → decimal_of negative (token_of (digits_piece gap n) start end) ≡ Some n
says_number gap n negative h e start end =
    let read : Ok n ≡ reading (is_negative n.mantissa) (digits n) =
    read_is_reading (is_negative n.mantissa) (digits n) (Ok n) (text_reads n h) in
    ap result_ok (sym (rw e at read))
