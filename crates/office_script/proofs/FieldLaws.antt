-- What the fields are that words are.
use Rattle.std.proofs.Common.{◌≡◌, ◌≢◌, ◌==◌, ◌↔◌, ◌+◌, ◌++◌, ℕ, suc, true, false, List, [], ◌∷◌, Option, Some, None}
use Rattle.std.proofs.Common.{length, take, drop, refl, sym, ap, ◌∙◌, arith, inl, inr, ◌⊎◌, append_assoc, append-nil}
use Rattle.std.proofs.Common.{add-one}
use Rattle.std.specs.Option.{option_map, option_and_then}
use Rattle.std.specs.List.{list_any, position_or_len}
use Rattle.std.proofs.lemmas.Bool.{ne_eqb}
use Rattle.std.proofs.lemmas.Bool.Decides.{eqb_tells, nat_tests}
use Rattle.std.proofs.lemmas.List.Elements.{All-head, All-tail, All-cons, All-nil}
use Rattle.office_script.proofs.Parts.{Lacks}
use Rattle.office_script.proofs.EscapeLaws.{escapes_law}
use Rattle.office_script.specs.Escapes.{unescaped}
use Rattle.office_fields.specs.Given.{NamedValue}
use Rattle.office_script.specs.Fields.{IsFieldWord, AreFieldWords, field_of, fields_of}

-- bytes without `c` fail the search for it
any_lacks : (c : ℕ) (bs : List ℕ) → Lacks c bs → list_any (λ b. b == c) bs ≡ false
any_lacks c [] h = refl
any_lacks c (b ∷ bs) h = rw (ne_eqb b c (All-head (λ b. b ≢ c) b bs h)) (any_lacks c bs (All-tail (λ b. b ≢ c) b bs h))

-- bytes with `c` pass it
any_found : (c : ℕ) (front bs : List ℕ) → Lacks c front → list_any (λ b. b == c) (front ++ (c ∷ bs)) ≡ true
any_found c [] bs h = grind (arith, nat_tests)
any_found c (b ∷ front) bs h =
    rw (ne_eqb b c (All-head (λ b. b ≢ c) b front h)) (any_found c front bs (All-tail (λ b. b ≢ c) b front h))

-- the first `c` comes after the prefix that has none
position_found : (c : ℕ) (front bs : List ℕ) → Lacks c front → position_or_len (λ b. b == c) (front ++ (c ∷ bs))
    ≡ length front
position_found c [] bs h = let same : (c == c) ≡ true = grind (arith, nat_tests) in rw same refl
position_found c (b ∷ front) bs h =
    rw (ne_eqb b c (All-head (λ b. b ≢ c) b front h))
    (omega (arith, position_found c front bs (All-tail (λ b. b ≢ c) b front h)))

-- the prefix, removed again
front_of : (front bs : List ℕ) → take (length front) (front ++ bs) ≡ front
front_of [] bs = refl
front_of (b ∷ front) bs = ap (λ ts. b ∷ ts) (front_of front bs)

-- what follows the prefix and one byte
after_prefix : (front bs : List ℕ) (c : ℕ) → drop (suc (length front)) (front ++ (c ∷ bs)) ≡ bs
after_prefix [] bs c = refl
after_prefix (b ∷ front) bs c = after_prefix front bs c

-- the same, with the length as the code has it
back_of : (front bs : List ℕ) (c : ℕ) → drop (length front + 1) (front ++ (c ∷ bs)) ≡ bs
back_of front bs c = rw (add-one (length front)) (after_prefix front bs c)

-- a word with no `=`
pub no_field : (word : List ℕ) → Lacks 61 word → field_of word ≡ None
no_field word h = rw (any_lacks 61 word h) refl

-- a word round its first `=`
field_read : (word name written : List ℕ) → Lacks 61 name → word ≡ name ++ (61 ∷ written)
    → field_of word ≡ option_map (λ value. record { name = name; value = value }) (unescaped written)
field_read word name written h e =
    rw (
      e,
      any_found 61 name written h,
      position_found 61 name written h,
      front_of name (61 ∷ written),
      back_of name written 61,
    ) refl

-- a word whose value was read
pub value_read : (word name written : List ℕ) (found : Option (List ℕ)) → Lacks 61 name → word ≡ name ++ (61 ∷ written)
    → found ≡ unescaped written → option_map (λ value. record { name = name; value = value }) found ≡ field_of word
value_read word name written found h e read =
    ap (option_map (λ value. record { name = name; value = value })) read ∙ sym (field_read word name written h e)

-- a word round its first `=`
record Cut (word : List ℕ) : Type 0 where
  name : List ℕ
  written : List ℕ
  apart : Lacks 61 name
  parts : word ≡ name ++ (61 ∷ written)

-- a word has a first `=`, or none
cut_of : (word : List ℕ) → Lacks 61 word ⊎ Cut word
cut_of [] = inl (All-nil (λ b. b ≢ 61))
cut_of (b ∷ word) =
    elim (eqb_tells b 61) [
      | inl h ↦ inr record { name = []; written = word; apart = All-nil (λ b. b ≢ 61); parts = ap (λ c. c ∷ word) h.1 }
      | inr h ↦ elim (cut_of word) [
        | inl none ↦ inl (All-cons (λ b. b ≢ 61) b word h.1 none)
        | inr cut ↦ inr record {
          name = b ∷ cut.name;
          written = cut.written;
          apart =
              All-cons (λ b. b ≢ 61) b cut.name h.1 cut.apart;
          parts = ap (λ bs. b ∷ bs) cut.parts;
        }
      ]
    ]

-- the field that a word is, is read
field_from : (word : List ℕ) (field : NamedValue) → IsFieldWord word field → field_of word ≡ Some field
field_from word field h =
    field_read word field.name h.written h.name h.parts
    ∙ ap (option_map (λ value. record { name = field.name; value = value }))
    ((escapes_law h.written field.value).0 h.value)

-- a value that was read under a name
record Named (name : List ℕ) (found : Option (List ℕ)) (field : NamedValue) : Type 0 where
  same : name ≡ field.name
  value : found ≡ Some field.value

-- the parts of a field that was read
named : (name : List ℕ) (found : Option (List ℕ)) (field : NamedValue)
    → option_map (λ value. record { name = name; value = value }) found ≡ Some field → Named name found field
named name None field e = cc
named name (Some value) field e =
    let one : NamedValue = record { name = name; value = value } in
    let same : one ≡ field = cc in
    record { same = ap (λ f. f.name) same; value = ap (λ f. Some f.value) same }

-- a field that is read is the field that the word is
is_field : (word : List ℕ) (field : NamedValue) → field_of word ≡ Some field → IsFieldWord word field
is_field word field e =
    elim (cut_of word) [
      | inl none ↦ let no : None ≡ Some field = sym (no_field word none) ∙ e in cc
      | inr cut ↦
          let as_cut : option_map (λ value. record { name = cut.name; value = value }) (unescaped cut.written)
          ≡ Some field = sym (field_read word cut.name cut.written cut.apart cut.parts) ∙ e in
          let n = named cut.name (unescaped cut.written) field as_cut in
          record {
            written = cut.written;
            name = rw (sym n.same) cut.apart;
            parts = cut.parts ∙ ap (λ name. name ++ (61 ∷ cut.written)) n.same;
            value = (escapes_law cut.written field.value).1 n.value;
          }
    ]

-- the fields that words are, are read
fields_from : (words : List (List ℕ)) (fields : List NamedValue) → AreFieldWords words fields
    → fields_of words ≡ Some fields
fields_from [] [] h = refl
fields_from [] (field ∷ fields) h = absurd h
fields_from (word ∷ words) [] h = absurd h
fields_from (word ∷ words) (field ∷ fields) h = rw (field_from word field h.0, fields_from words fields h.1) refl

-- one word more
more_fields : (word : List ℕ) (words : List (List ℕ)) (fields : List NamedValue) (first : Option NamedValue)
    (rest : Option (List NamedValue)) → field_of word ≡ first → fields_of words ≡ rest
    → ((others : List NamedValue) → rest ≡ Some others → AreFieldWords words others)
    → option_and_then (λ field. option_map (λ fields. field ∷ fields) rest) first ≡ Some fields
    → AreFieldWords (word ∷ words) fields
more_fields word words fields None rest one more own e = cc
more_fields word words fields (Some field) None one more own e = cc
more_fields word words [] (Some field) (Some others) one more own e = cc
more_fields word words (f ∷ fs) (Some field) (Some others) one more own e =
    let first : field ≡ f = cc in
    let rest : others ≡ fs = cc in
    (is_field word f (one ∙ ap Some first), own fs (ap Some rest))

-- fields that are read are those that the words are
are_fields : (words : List (List ℕ)) (fields : List NamedValue) → fields_of words ≡ Some fields
    → AreFieldWords words fields
are_fields [] [] e = tt
are_fields [] (field ∷ fields) e = cc
are_fields (word ∷ words) fields e =
    more_fields word words fields (field_of word) (fields_of words) refl refl
    (λ others own. are_fields words others own) e

-- words are just the fields that are read
pub fields_law : (words : List (List ℕ)) (found : Option (List NamedValue)) → found ≡ fields_of words
    → (fields : List NamedValue) → (AreFieldWords words fields ↔ (found ≡ Some fields))
fields_law words found e fields = rw e (fields_from words fields, are_fields words fields)

-- one more field at the end of those read so far
one_more : (fields : List NamedValue) (f : NamedValue) (found : Option (List NamedValue))
    → option_map (λ more. fields ++ more) (option_map (λ more. f ∷ more) found)
    ≡ option_map (λ more. (fields ++ (f ∷ [])) ++ more) found
one_more fields f None = refl
one_more fields f (Some more) = ap Some (sym (append_assoc fields (f ∷ []) more))

-- a field was read
pub field_more : (all : Option (List NamedValue)) (fields : List NamedValue) (word : List ℕ)
    (words after : List (List ℕ)) (f : NamedValue) → all ≡ option_map (λ more. fields ++ more) (fields_of words)
    → words ≡ word ∷ after → Some f ≡ field_of word
    → all ≡ option_map (λ more. (fields ++ (f ∷ [])) ++ more) (fields_of after)
field_more all fields word words after f h cut read =
    let step : fields_of words ≡ option_map (λ more. f ∷ more) (fields_of after) = rw (cut, sym read) refl in
    h ∙ (ap (option_map (λ more. fields ++ more)) step ∙ one_more fields f (fields_of after))

-- a word is no field
pub field_stops : (all : Option (List NamedValue)) (fields : List NamedValue) (word : List ℕ)
    (words after : List (List ℕ)) → all ≡ option_map (λ more. fields ++ more) (fields_of words) → words ≡ word ∷ after
    → None ≡ field_of word → None ≡ all
field_stops all fields word words after h cut read =
    let step : fields_of words ≡ None = rw (cut, sym read) refl in
    sym (h ∙ ap (option_map (λ more. fields ++ more)) step)

-- all words were read
pub fields_whole : (all : Option (List NamedValue)) (fields : List NamedValue)
    → all ≡ option_map (λ more. fields ++ more) (fields_of []) → Some fields ≡ all
fields_whole all fields h = sym (h ∙ ap Some (append-nil fields))
