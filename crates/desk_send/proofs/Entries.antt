-- What is given for a field, in the named values of fields.
use Rattle.desk_send.proofs.Common.{◌≡◌, ◌∙◌, ◌&&◌, not, ℕ, Bool, true, false, List, [], ◌∷◌, ◌++◌, map, Option, Some}
use Rattle.desk_send.proofs.Common.{None, refl, sym, ap, append-nil, ⊤, IfSome, All, list_all, option_map, bytes_eq}
use Rattle.desk_send.proofs.Common.{and_parts, All-head, All-tail, list_all-append, bytes_eq-Decides, row_of}
use Rattle.desk_send.proofs.Common.{NamedValue, Readings, value_from, Field, Occurrence, Required, Optional, Repeated}
use Rattle.desk_send.proofs.Common.{named}
use Rattle.std.specs.List.{filter}
use Rattle.std.proofs.lemmas.List.Elements.{filter-append}
use Rattle.std.proofs.lemmas.List.{map-append}
use Rattle.office_fields.specs.Given.{are_known, given, is_name_of, read_as, read_each, values_of}
use Rattle.desk_send.specs.Fields.{Entry, all_named, named_of, texts_as}
use Rattle.desk_send.specs.Texts.{IsValue, text_of}
use Rattle.desk_send.proofs.ValuesBack.{values_come_back}

abbrev pub field_name : Entry → List ℕ
field_name e = (row_of e.of).name

abbrev texts_of : Entry → List (List ℕ)
texts_of e = texts_as (row_of e.of).occurrence (text_of (row_of e.of).kind) e.value

-- ---- names apart, tested both ways round

abbrev pub are_unlike : List ℕ → List ℕ → Bool
are_unlike a b = not (bytes_eq a b) && not (bytes_eq b a)

abbrev pub is_apart : List ℕ → List Entry → Bool
is_apart name es = list_all (λ e. are_unlike (field_name e) name) es

abbrev pub are_apart : List Entry → Bool
are_apart [] = true
are_apart (e ∷ es) = is_apart (field_name e) es && are_apart es

pub negated : (b : Bool) → not b ≡ true → b ≡ false
negated true h = sym h
negated false h = refl

-- ---- the values under a name

values-append : (xs ys : List NamedValue) (name : List ℕ)
    → values_of (xs ++ ys) name ≡ values_of xs name ++ values_of ys name
values-append xs ys name =
    ap (map (λ v. v.value)) (filter-append (λ v. bytes_eq v.name name) xs ys)
    ∙ map-append (λ v. v.value) (filter (λ v. bytes_eq v.name name) xs) (filter (λ v. bytes_eq v.name name) ys)

under_it : (f : Field) (name : List ℕ) → bytes_eq (row_of f).name name ≡ true → (texts : List (List ℕ))
    → values_of (map (named f) texts) name ≡ texts
under_it f name e [] = refl
under_it f name e (text ∷ texts) = rw e (ap (λ l. text ∷ l) (under_it f name e texts))

under_another : (f : Field) (name : List ℕ) → bytes_eq (row_of f).name name ≡ false → (texts : List (List ℕ))
    → values_of (map (named f) texts) name ≡ []
under_another f name e [] = refl
under_another f name e (text ∷ texts) = rw e (under_another f name e texts)

same_bytes : (name : List ℕ) → bytes_eq name name ≡ true
same_bytes name = (bytes_eq-Decides name name).1 refl

values_past : (e : Entry) (es : List Entry) (name : List ℕ) → bytes_eq (field_name e) name ≡ false
    → values_of (all_named (e ∷ es)) name ≡ values_of (all_named es) name
values_past e es name other =
    values-append (named_of e) (all_named es) name
    ∙ ap (λ l. l ++ values_of (all_named es) name) (under_another e.of name other (texts_of e))

values_none : (es : List Entry) (name : List ℕ) → is_apart name es ≡ true → values_of (all_named es) name ≡ []
values_none [] name h = refl
values_none (e ∷ es) name h =
    let parts = and_parts (are_unlike (field_name e) name) (is_apart name es) h in
    let unlike = and_parts (not (bytes_eq (field_name e) name)) (not (bytes_eq name (field_name e))) parts.0 in
    values_past e es name (negated _ unlike.0) ∙ values_none es name parts.1

values_here : (e : Entry) (es : List Entry) → is_apart (field_name e) es ≡ true
    → values_of (all_named (e ∷ es)) (field_name e) ≡ texts_of e
values_here e es h =
    values-append (named_of e) (all_named es) (field_name e)
    ∙ ap (λ l. l ++ values_of (all_named es) (field_name e))
    (under_it e.of (field_name e) (same_bytes (field_name e)) (texts_of e))
    ∙ ap (λ l. texts_of e ++ l) (values_none es (field_name e) h)
    ∙ append-nil (texts_of e)

-- ---- what is read of them

abbrev pub AreValues : {A : Type 0} → (o : Occurrence) → (A → Type 0) → Readings o A → Type 0
AreValues Required Is v = Is v
AreValues Optional Is v = IfSome v Is
AreValues Repeated Is vs = All Is vs

-- the values are ones that the field may have
abbrev pub IsEntry : Entry → Type 0
IsEntry e = AreValues (row_of e.of).occurrence (IsValue (row_of e.of).kind) e.value

abbrev pub AreEntries : List Entry → Type 0
AreEntries [] = ⊤
AreEntries (e ∷ es) = IsEntry e × AreEntries es

module _ {A : Type 0} (read : List ℕ → Option A) (text : A → List ℕ) (Is : A → Type 0) where
  each_back : ((v : A) → Is v → read (text v) ≡ Some v) → (vs : List A) → All Is vs
      → read_each read (map text vs) ≡ Some vs
  each_back back [] is = refl
  each_back back (v ∷ vs) is =
      rw (back v (All-head Is v vs is), each_back back vs (All-tail Is v vs is)) refl

  as_back : ((v : A) → Is v → read (text v) ≡ Some v) → (o : Occurrence) (v : Readings o A) → AreValues o Is v
      → read_as o read (texts_as o text v) ≡ Some v
  as_back back Required v is = back v is
  as_back back Optional None is = refl
  as_back back Optional (Some v) is = ap (option_map Some) (back v is)
  as_back back Repeated vs is = each_back back vs is

entry_back : (e : Entry) → IsEntry e
    → read_as (row_of e.of).occurrence (value_from (row_of e.of).kind) (texts_of e) ≡ Some e.value
entry_back e is =
    let k = (row_of e.of).kind in
    as_back (value_from k) (text_of k) (IsValue k) (values_come_back k) (row_of e.of).occurrence e.value is

-- each field is given by its value
abbrev pub AreGiven : List Entry → List NamedValue → Type 0
AreGiven [] values = ⊤
AreGiven (e ∷ es) values = (given e.of values ≡ Some e.value) × AreGiven es values

-- its texts are what is given under its name
abbrev HaveTexts : List Entry → List NamedValue → Type 0
HaveTexts [] values = ⊤
HaveTexts (e ∷ es) values = (values_of values (field_name e) ≡ texts_of e) × HaveTexts es values

texts_past : (e : Entry) (es others : List Entry) → is_apart (field_name e) others ≡ true
    → HaveTexts others (all_named es) → HaveTexts others (all_named (e ∷ es))
texts_past e es [] h have = tt
texts_past e es (other ∷ others) h have =
    let parts = and_parts (are_unlike (field_name other) (field_name e)) (is_apart (field_name e) others) h in
    let unlike = and_parts (not (bytes_eq (field_name other) (field_name e)))
    (not (bytes_eq (field_name e) (field_name other))) parts.0 in (
      values_past e es (field_name other) (negated _ unlike.1) ∙ have.0,
      texts_past e es others parts.1 have.1,
    )

have_texts : (es : List Entry) → are_apart es ≡ true → HaveTexts es (all_named es)
have_texts [] h = tt
have_texts (e ∷ es) h =
    let parts = and_parts (is_apart (field_name e) es) (are_apart es) h in
    (values_here e es parts.0, texts_past e es es parts.0 (have_texts es parts.1))

given_by_texts : (es : List Entry) (values : List NamedValue) → AreEntries es → HaveTexts es values
    → AreGiven es values
given_by_texts [] values are have = tt
given_by_texts (e ∷ es) values are have = (
  ap (read_as (row_of e.of).occurrence (value_from (row_of e.of).kind)) have.0 ∙ entry_back e are.0,
  given_by_texts es values are.1 have.1,
)

pub all_given : (es : List Entry) → are_apart es ≡ true → AreEntries es → AreGiven es (all_named es)
all_given es apart are = given_by_texts es (all_named es) are (have_texts es apart)

-- ---- no other names

abbrev pub are_fields : List Field → List Entry → Bool
are_fields fields es = list_all (λ e. is_name_of fields (field_name e)) es

named_known : (fields : List Field) (f : Field) → is_name_of fields (row_of f).name ≡ true → (texts : List (List ℕ))
    → are_known fields (map (named f) texts) ≡ true
named_known fields f h [] = refl
named_known fields f h (text ∷ texts) = rw h (named_known fields f h texts)

pub all_known : (fields : List Field) (es : List Entry) → are_fields fields es ≡ true
    → are_known fields (all_named es) ≡ true
all_known fields [] h = refl
all_known fields (e ∷ es) h =
    let parts = and_parts (is_name_of fields (field_name e)) (are_fields fields es) h in
    rw (
      list_all-append (λ v. is_name_of fields v.name) (named_of e) (all_named es),
      named_known fields e.of parts.0 (texts_of e),
    )
    (all_known fields es parts.1)
