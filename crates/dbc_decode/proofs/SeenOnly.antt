-- Of signals that are read alike no change is marked.
use Rattle.dbc_decode.proofs.Common.{◌≡◌, ◌⊎◌, ◌∙◌, Bool, true, false, not, ℕ, List, [], ◌∷◌, inl, inr, refl, sym, ap}
use Rattle.dbc_decode.proofs.Common.{subst, ◌≤◌, ◌++◌, length, pos, length-reverse, positions, Layout, Order, Intel}
use Rattle.dbc_decode.proofs.Common.{Motorola, both_ways, cases_Bool, cond-false, cond-true, not-true, ValueType}
use Rattle.dbc_decode.proofs.Common.{Integer, Float, Double, Signal, changes_between, Valued, signal_fields, Dec, Value}
use Rattle.dbc_decode.proofs.Common.{same_value, value_text, Alteration, SheetField, In, in_from, value_decides, length-walk}
use Rattle.std.proofs.lemmas.Bool.{false≢true}
use Rattle.std.specs.Prelude.{ℤ}
use Rattle.std.proofs.Common.{◌||◌}
use Rattle.bitlayout.specs.Weight.{by_weight, in_weight, same_bits}
use Rattle.dbc_compare.specs.Differences.{field_changes, signal_changes}
use Rattle.dbc_compare.specs.Fields.{is_integer, meaning_fields, reading_fields, scale_fields, signal_breaks}
use Rattle.dbc_compare.specs.Fields.{truth_word, type_word}
use Rattle.dbc_compare.specs.Value.{Word}
use Rattle.dbc_compare.proofs.Members.{none_if_empty, in_alone, in_either}
use Rattle.bitlayout.specs.Mux.{indicator_of}
use Rattle.dbc_compare.specs.declared.difference.Alteration.TheVariants as change
use Rattle.dbc_decode.specs.Decoding.{Coding, Reading, Signed, Single, Twofold, Unsigned, Whole, OfSingle, OfDouble}
use Rattle.dbc_decode.specs.Decoding.{coding_by, coding_of, raw_by}
use Rattle.dbc_decode.specs.Laws.{IsPayload}
use Rattle.dbc_decode.specs.Marks.{MarkedIsRead, ReadIsUnmarked, ReadsAs, is_marked}
use Rattle.dbc_decode.proofs.Quiet.{MarkedSame, NonePasses, IsByMark}
use Rattle.dbc_decode.proofs.Seen.{bits_decide}
use Rattle.dbc_decode.proofs.Signed.{SameSigned, mixed_told, signed_told}
use Rattle.dbc_decode.proofs.Sizes.{AreApart, are_apart, sizes_told}
use Rattle.dbc_decode.proofs.Positions.{AreBelow, are_below, its_payload, lists_told, one_bit}

-- ---- types and the signs of integers are told by codings

type_of : Coding → ValueType
type_of Single = Float
type_of Twofold = Double
type_of c = Integer

sign_of : Coding → Bool
sign_of Signed = true
sign_of c = false

its_type : (t : ValueType) (x : Bool) → type_of (coding_by t x) ≡ t
unfolding type_of
its_type Integer true = refl
its_type Integer false = refl
its_type Float x = refl
its_type Double x = refl

its_sign : (t : ValueType) (x : Bool) → is_integer t ≡ true → sign_of (coding_by t x) ≡ x
unfolding sign_of
its_sign Integer true i = refl
its_sign Integer false i = refl
its_sign t x i = absurd (false≢true i)

type_coded : (t u : ValueType) (x y : Bool) → coding_by t x ≡ coding_by u y → t ≡ u
type_coded t u x y e = sym (its_type t x) ∙ ap type_of e ∙ its_type u y

sign_coded : (t u : ValueType) (x y : Bool) → coding_by t x ≡ coding_by u y → is_integer t ≡ true → x ≡ y
sign_coded t u x y e i =
    sym (its_sign t x i) ∙ ap sign_of e ∙ its_sign u y (ap is_integer (sym (type_coded t u x y e)) ∙ i)

-- ---- no change is marked

-- where the fields are the same whose changes are marked, no change passes the test
module _ (test : Alteration → Bool) (by_mark : IsByMark test) where
  field_unmarked : (f : SheetField) (b : Bool) (x y : Value) → (b ≡ true → x ≡ y) → NonePasses test (field_changes f b x y)
  unfolding field_changes
  field_unmarked f b x y same c h = by_test (cases_Bool (same_value x y))
    where
      told : Alteration
      told = change.Changed f b (value_text x) (value_text y)

      unmarked : same_value x y ≡ false → (b ≡ true) ⊎ (b ≡ false) → b ≡ false
      unmarked n (inl t) = absurd (both_ways (same_value x y) n ((value_decides x y).1 (same t)))
      unmarked n (inr f) = f

      by_test : (same_value x y ≡ true) ⊎ (same_value x y ≡ false) → test c ≡ false
      by_test (inl t) =
          absurd (none_if_empty [] refl c (subst (λ cs. In c cs) (cond-true (same_value x y) [] (told ∷ []) t) h))
      by_test (inr n) =
          let it : c ≡ told = in_alone c told
          (subst (λ cs. In c cs) (cond-false (same_value x y) [] (told ∷ []) n) h) in
          ap test it ∙ by_mark f b (value_text x) (value_text y) ∙ unmarked n (cases_Bool b)

  fields_unmarked : (marks : SheetField → Bool) (xs ys : List Valued) → MarkedSame marks xs ys
      → NonePasses test (changes_between marks xs ys)
  fields_unmarked marks [] ys same c h = absurd (none_if_empty [] refl c h)
  fields_unmarked marks (x ∷ xs) [] same c h = absurd (none_if_empty [] refl c h)
  fields_unmarked marks (x ∷ xs) (y ∷ ys) same c h =
      by_place (in_either (field_changes x.0 (marks x.0) x.1 y.1) (changes_between marks xs ys) c h)
      (fields_unmarked marks xs ys same.1 c)
    where
      by_place : In c (field_changes x.0 (marks x.0) x.1 y.1) ⊎ In c (changes_between marks xs ys)
          → (In c (changes_between marks xs ys) → test c ≡ false) → test c ≡ false
      by_place (inl here) rest = field_unmarked x.0 (marks x.0) x.1 y.1 same.0 c here
      by_place (inr later) rest = rest later

module _ (a b : Signal) where
  moved : {A : Type 0} → same_bits a.layout b.layout ≡ true → not (same_bits a.layout b.layout) ≡ true → A
  moved bits t = absurd (both_ways (same_bits a.layout b.layout) (not-true (same_bits a.layout b.layout) t) bits)

  never : {A : Type 0} → false ≡ true → A
  never e = absurd (false≢true e)

  -- one coding has one type, so the sign counts in both or in neither
  by_sign : ReadsAs a b → (is_integer a.value_type || is_integer b.value_type) ≡ true → a.signed ≡ b.signed
  by_sign like t = by_type (cases_Bool (is_integer a.value_type))
    where
      types : a.value_type ≡ b.value_type
      types = type_coded a.value_type b.value_type a.signed b.signed like.coding

      by_type : (is_integer a.value_type ≡ true) ⊎ (is_integer a.value_type ≡ false) → a.signed ≡ b.signed
      by_type (inl i) = sign_coded a.value_type b.value_type a.signed b.signed like.coding i
      by_type (inr n) =
          let other : is_integer b.value_type ≡ true =
          sym (ap (λ i. i || is_integer b.value_type) n) ∙ t in
          absurd (both_ways (is_integer a.value_type) n (ap is_integer types ∙ other))

  all_same : ReadsAs a b → MarkedSame (signal_breaks a b) (signal_fields a) (signal_fields b)
  all_same like =
      let bits : same_bits a.layout b.layout ≡ true = (bits_decide a.layout b.layout).1 like.bits in
      let meaning : MarkedSame (signal_breaks a b) (meaning_fields a) (meaning_fields b) =
      (never, (never, (never, (never, (never, tt))))) in
      let scale : MarkedSame (signal_breaks a b) (scale_fields a ++ meaning_fields a) (scale_fields b ++ meaning_fields b) =
      ((λ t. ap Dec like.factor), ((λ t. ap Dec like.offset), (never, (never, meaning)))) in
      let taken : MarkedSame (signal_breaks a b) (reading_fields a ++ (scale_fields a ++ meaning_fields a))
      (reading_fields b ++ (scale_fields b ++ meaning_fields b)) = (
        (λ t. ap (λ s. Word (truth_word s)) (by_sign like t)),
        (
          (λ t. ap (λ v. Word (type_word v)) (type_coded a.value_type b.value_type a.signed b.signed like.coding)),
          ((λ t. ap (λ m. Word (indicator_of m)) like.mux), scale),
        ),
      ) in
      (moved bits, (moved bits, (moved bits, taken)))

pub read_unmarked : ReadIsUnmarked
read_unmarked a b like c h =
    fields_unmarked is_marked (λ f b old new. refl) (signal_breaks a b) (signal_fields a) (signal_fields b)
    (all_same a b like) c (in_from (signal_changes a b) c h)

-- ---- what readings tell

abbrev SameRaw : ℕ → Coding → Coding → List ℕ → List ℕ → Type 0
SameRaw bytes c d ps qs = (payload : List ℕ) → IsPayload bytes payload → raw_by c payload ps ≡ raw_by d payload qs

pub record AreToldSame (c d : Coding) (ps qs : List ℕ) : Type 0 where
  pub coding : c ≡ d
  pub bits : ps ≡ qs

whole_told : (m n : ℕ) → Whole (pos m) ≡ Whole (pos n) → m ≡ n
whole_told m n e = cc

single_told : (m n : ℕ) → OfSingle m ≡ OfSingle n → m ≡ n
single_told m n e = cc

double_told : (m n : ℕ) → OfDouble m ≡ OfDouble n → m ≡ n
double_told m n e = cc

integer_told : (x y : ℤ) → Whole x ≡ Whole y → x ≡ y
integer_told x y e = cc

length_weight : (order : Order) (ps : List ℕ) → length (in_weight order ps) ≡ length ps
length_weight Intel ps = refl
length_weight Motorola ps = length-reverse ps

its_length : (layout : Layout) → length (by_weight layout) ≡ layout.size
its_length layout =
    length_weight layout.order (positions layout) ∙ length-walk layout.order layout.size layout.start

raw_told : (bytes : ℕ) (c d : Coding) (ps qs : List ℕ) → AreBelow bytes ps → AreBelow bytes qs → AreApart ps
    → AreApart qs → 1 ≤ length ps → 1 ≤ length qs → SameRaw bytes c d ps qs → AreToldSame c d ps qs
raw_told bytes Unsigned Unsigned ps qs hp hq apart_p apart_q some_p some_q same =
    record { coding = refl; bits = lists_told bytes ps qs hp hq (λ payload is. whole_told _ _ (same payload is)) }
raw_told bytes Single Single ps qs hp hq apart_p apart_q some_p some_q same =
    record { coding = refl; bits = lists_told bytes ps qs hp hq (λ payload is. single_told _ _ (same payload is)) }
raw_told bytes Twofold Twofold ps qs hp hq apart_p apart_q some_p some_q same =
    record { coding = refl; bits = lists_told bytes ps qs hp hq (λ payload is. double_told _ _ (same payload is)) }
raw_told bytes Signed Signed ps qs hp hq apart_p apart_q some_p some_q same =
    let whole : SameSigned bytes ps qs = λ payload is. integer_told _ _ (same payload is) in
    let sizes : length ps ≡ length qs = sizes_told bytes ps qs hp hq apart_p apart_q whole in
    record { coding = refl; bits = signed_told bytes ps qs hp hq sizes whole }
raw_told bytes Signed Unsigned ps qs hp hq apart_p apart_q some_p some_q same =
    absurd (mixed_told bytes ps qs hp some_p (λ payload is. integer_told _ _ (same payload is)))
raw_told bytes Unsigned Signed ps qs hp hq apart_p apart_q some_p some_q same =
    absurd (mixed_told bytes qs ps hq some_q (λ payload is. sym (integer_told _ _ (same payload is))))
raw_told bytes c d ps qs hp hq apart_p apart_q some_p some_q same =
    let e = same (one_bit bytes 0) (its_payload bytes 0) in cc e

pub marked_read : MarkedIsRead
marked_read a b bytes ha hb inside_a inside_b mux same =
    let some_a : 1 ≤ length (by_weight a.layout) = subst (λ n. 1 ≤ n) (sym (its_length a.layout)) ha.layout.least in
    let some_b : 1 ≤ length (by_weight b.layout) = subst (λ n. 1 ≤ n) (sym (its_length b.layout)) hb.layout.least in
    let told = raw_told bytes (coding_of a) (coding_of b) (by_weight a.layout) (by_weight b.layout)
    (are_below a.layout bytes inside_a) (are_below b.layout bytes inside_b) (are_apart a.layout) (are_apart b.layout)
    some_a some_b (λ payload is. ap (λ (r : Reading). r.raw) (same payload is)) in
    let once = same (one_bit bytes 0) (its_payload bytes 0) in
    read_unmarked a b (record {
      bits = told.bits;
      coding = told.coding;
      mux = mux;
      factor = ap (λ (r : Reading). r.factor) once;
      offset = ap (λ (r : Reading). r.offset) once;
    })
