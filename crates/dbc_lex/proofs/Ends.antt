-- What begins with a byte, and where it ends.
use Rattle.std.proofs.Common.{◌≡◌, ◌==◌, ◌||◌, ℕ, ◌+◌, ◌<◌, ◌≤◌, ◌⊎◌, Bool, true, false, true≢false, if◌then◌else◌}
use Rattle.std.proofs.Common.{List, [], ◌∷◌, length, get_or, take, drop, Option, Some, None, Ok, Err, ◌-◌, slice_range}
use Rattle.std.proofs.Common.{option_and_then, inl, inr, refl, sym, ap, ◌∙◌, arith}
use Rattle.std.specs.Char.{is_ascii_digit}
use Rattle.std.specs.List.{prefix_len}
use Rattle.std.proofs.lemmas.List.{drop-drop, drop_more}
use Rattle.std.proofs.lemmas.Option.{slice_get-get_or, slice_get_past}
use Rattle.std.proofs.lemmas.Bool.{cases_lt}
use Rattle.std.proofs.Math.ListN.{drop_of_length-le}
use Rattle.std.proofs.lemmas.List.Sums.{prefix_len-drop_yes}
use Rattle.decimal.specs.Cutting.{fraction_len}
use Rattle.decimal.specs.Spelling.{is_letter_e}
use Rattle.dbc_words.specs.Name.{starts_identifier}
use Rattle.dbc_grammar.specs.declared.token.TokenKind.{TokenKind}
use Rattle.dbc_grammar.specs.declared.token.TokenKind.TheVariants.{Name, Number, Text, Mark}
use Rattle.dbc_grammar.specs.Lexing.{StrayByte, UnclosedText, exponent_len, kind_of, number_len, of_kind, power_len}
use Rattle.dbc_grammar.specs.Lexing.{tail_len, token_at, token_or_fault, with_front, word_len}
use Rattle.dbc_grammar.specs.Spelling.{is_quote, is_mark}
use Rattle.dbc_lex.specs.First.{kind_at}
use Rattle.dbc_lex.specs.Offset.{further_by}
use Rattle.dbc_lex.proofs.Exponents.{none_if}

-- the kind, from the four tests of the byte
abbrev kind_by : Bool → Bool → Bool → Bool → Option TokenKind
kind_by true d q m = Some Name
kind_by false true q m = Some Number
kind_by false false true m = Some Text
kind_by false false false true = Some Mark
kind_by false false false false = None

kind_tests : (s d q m : Bool)
    → (if s then Some Name else (if d then Some Number else (if q then Some Text else (if m then Some Mark else None))))
    ≡ kind_by s d q m
kind_tests true d q m = refl
kind_tests false true q m = refl
kind_tests false false true m = refl
kind_tests false false false true = refl
kind_tests false false false false = refl

digit_by : (s d q m : Bool) → kind_by s d q m ≡ Some Number → d ≡ true
digit_by true d q m h = absurd cc
digit_by false true q m h = refl
digit_by false false true m h = absurd cc
digit_by false false false true h = absurd cc
digit_by false false false false h = absurd cc

digit_first : (b : ℕ) → kind_of b ≡ Some Number → is_ascii_digit b ≡ true
digit_first b h = digit_by (starts_identifier b) (is_ascii_digit b) (is_quote b) (is_mark b)
    (sym (kind_tests (starts_identifier b) (is_ascii_digit b) (is_quote b) (is_mark b)) ∙ h)

-- a point with its digits, and an exponent
pub tail_is : (source : List ℕ) (whole fraction end : ℕ) → fraction ≡ whole + fraction_len (drop whole source)
    → end ≡ fraction + exponent_len (drop fraction source)
    → end ≡ whole + tail_len (drop whole source)
unfolding tail_len
tail_is source whole fraction end f e =
    let len = fraction_len (drop whole source) in
    let rest : drop len (drop whole source) ≡ drop fraction source = drop-drop len whole source
    ∙ ap (λ n. drop n source) (sym f) in
    let tail : tail_len (drop whole source) ≡ len + exponent_len (drop fraction source) =
    ap (λ v. len + exponent_len v) rest in
    omega (arith, f, e, tail)

-- there are none before a byte that begins neither, nor at the end of the text
both_false : (point letter : Bool) → (point || letter) ≡ false → (point ≡ false) × (letter ≡ false)
both_false true letter h = absurd (true≢false h)
both_false false true h = absurd (true≢false h)
both_false false false h = (refl, refl)

neither : (b : ℕ) (rest : List ℕ) → (b == 46 || is_letter_e b) ≡ false → tail_len (b ∷ rest) ≡ 0
unfolding tail_len exponent_len
neither b rest h =
    let (point, letter) = both_false (b == 46) (is_letter_e b) h in
    let fraction : fraction_len (b ∷ rest) ≡ 0 = none_if (b == 46) (1 + prefix_len is_ascii_digit rest) point in
    let power : exponent_len (drop 0 (b ∷ rest)) ≡ 0 = none_if (is_letter_e b) (with_front (power_len rest)) letter in
    let both : tail_len (b ∷ rest) ≡ 0 + exponent_len (drop 0 (b ∷ rest)) =
    ap (λ n. n + exponent_len (drop n (b ∷ rest))) fraction in
    omega (arith, both, power)

-- a number that ends with its digits
pub no_tail : (source : List ℕ) (at : ℕ) → at < length source
    → false ≡ (get_or source at 0 == 46 || is_letter_e (get_or source at 0)) → at ≡ at + tail_len (drop at source)
no_tail source at there h =
    let none : tail_len (drop at source) ≡ 0 = ap tail_len (drop_more source at 0 there)
    ∙ neither (get_or source at 0) (drop (at + 1) source) (sym h) in
    omega (arith, none)

pub no_tail_at_end : (source : List ℕ) (at : ℕ) → at ≡ length source → at ≡ at + tail_len (drop at source)
unfolding tail_len exponent_len
no_tail_at_end source at past =
    let none : tail_len (drop at source) ≡ 0 = ap tail_len (drop_of_length-le source (omega (arith, past))) in
    omega (arith, none)

module _ (source : List ℕ) (start : ℕ) (there : start < length source) where
  -- the end of a number, looked for after its first digit
  pub number_end_is : (whole end : ℕ) → kind_of (get_or source start 0) ≡ Some Number
      → whole ≡ start + 1 + prefix_len is_ascii_digit (drop (start + 1) source)
      → end ≡ whole + tail_len (drop whole source) → end ≡ start + number_len (drop start source)
  unfolding number_len
  number_end_is whole end h w e =
      let digits = prefix_len is_ascii_digit (drop start source) in
      let ends : start + digits ≡ whole =
      omega (
        arith,
        w,
        prefix_len-drop_yes is_ascii_digit source start 0 there
            (digit_first (get_or source start 0) h),
      ) in
      let rest : drop digits (drop start source) ≡ drop whole source = drop-drop digits start source
      ∙ ap (λ n. drop n source) ends in
      let all : number_len (drop start source) ≡ digits + tail_len (drop whole source) =
      ap (λ v. digits + tail_len v) rest in
      omega (arith, ends, all, e)

  -- the token, or the fault, of the first byte's kind
  first_is : token_at start (drop start source) ≡ of_kind start (drop start source) (kind_of (get_or source start 0))
  unfolding token_at
  first_is =
      ap (token_at start) (drop_more source start 0 there)
      ∙ ap (λ v. of_kind start v (kind_of (get_or source start 0))) (sym (drop_more source start 0 there))

  -- no token begins with the byte
  pub stray_here : kind_of (get_or source start 0) ≡ None → token_at start (drop start source) ≡ Err (StrayByte start)
  stray_here h = first_is ∙ ap (of_kind start (drop start source)) h

  -- no quote closes the text
  unclosed_by : (kind : TokenKind) (bytes : List ℕ) (len : Option ℕ) → None ≡ further_by start len
      → token_or_fault start bytes kind len ≡ Err (UnclosedText start)
  unclosed_by kind bytes None h = refl
  unclosed_by kind bytes (Some n) h = absurd cc

  pub unclosed_here : (kind : TokenKind) → kind_of (get_or source start 0) ≡ Some kind
      → None ≡ further_by start (word_len kind (drop start source))
      → token_at start (drop start source) ≡ Err (UnclosedText start)
  unclosed_here kind h none =
      first_is ∙ ap (of_kind start (drop start source)) h
      ∙ unclosed_by kind (drop start source) (word_len kind (drop start source)) none

  -- a token of the kind ends there
  token_by : (kind : TokenKind) (end : ℕ) (len : Option ℕ) → further_by start len ≡ Some end
      → token_or_fault start (drop start source) kind len
      ≡ Ok (Some (record { kind = kind; start = start; end = end; text = slice_range source start end }))
  token_by kind end None h = absurd cc
  token_by kind end (Some n) h =
      let ends : start + n ≡ end = cc in
      let size : n ≡ end - start = omega (arith, ends) in
      ap (λ m. Ok (Some (record { kind = kind; start = start; end = m; text = take n (drop start source) }))) ends
      ∙ ap (λ m. Ok (Some (record { kind = kind; start = start; end = end; text = take m (drop start source) }))) size

  pub token_here : (kind : TokenKind) (end : ℕ) → kind_of (get_or source start 0) ≡ Some kind
      → further_by start (word_len kind (drop start source)) ≡ Some end
      → token_at start (drop start source)
      ≡ Ok (Some (record { kind = kind; start = start; end = end; text = slice_range source start end }))
  token_here kind end h ends =
      first_is ∙ ap (of_kind start (drop start source)) h ∙ token_by kind end (word_len kind (drop start source)) ends

-- a mark is its one byte
pub mark_token : (source : List ℕ) (start : ℕ) → start < length source → kind_of (get_or source start 0) ≡ Some Mark
    → token_at start (drop start source)
    ≡ Ok (Some (record { kind = Mark; start = start; end = start + 1; text = slice_range source start (start + 1) }))
unfolding word_len
mark_token source start there kind = token_here source start there Mark (start + 1) kind refl

pub mark_text : (source : List ℕ) (start mark : ℕ) → start < length source → get_or source start 0 ≡ mark
    → take (start + 1 - start) (drop start source) ≡ mark ∷ []
mark_text source start mark there is =
    let one : start + 1 - start ≡ 1 = omega arith in
    ap (λ n. take n (drop start source)) one ∙ ap (take 1) (drop_more source start 0 there) ∙ ap (λ b. b ∷ []) is

-- a byte with a kind is one of the source, and the kind is its own
module _ (source : List ℕ) (at : ℕ) where
  pub kind_there : at < length source → kind_at source at ≡ kind_of (get_or source at 0)
  kind_there there = ap (option_and_then kind_of) (slice_get-get_or source at 0 there)

  pub there_if_kind : (kind : TokenKind) → Some kind ≡ kind_at source at → at < length source
  there_if_kind kind h = by (cases_lt at (length source))
    where
      by : (at < length source) ⊎ (length source ≤ at) → at < length source
      by (inl below) = below
      by (inr past) = let none : Some kind ≡ None = h ∙ ap (option_and_then kind_of) (slice_get_past source at past) in
          absurd cc
