-- Lists of differences of which none breaks a receiver.
use Rattle.dbc_decode.proofs.Common.{◌≡◌, ◌++◌, ◌⊎◌, ◌∙◌, Bool, true, false, cond, not, ℕ, List, [], ◌∷◌, Option, Some}
use Rattle.dbc_decode.proofs.Common.{None, inl, inr, refl, sym, subst, ◌==◌, bytes_eq, both_ways, cases_Bool}
use Rattle.dbc_decode.proofs.Common.{cond-false, eq-eqb, has_name, thing_named, none_found, changes_between}
use Rattle.dbc_decode.proofs.Common.{differences, Valued, breaks, Value, same_value, value_text, Alteration, Difference}
use Rattle.dbc_decode.proofs.Common.{SheetField, In, in_first, in_left, in_map, in_right, all_in, in_from, found_named}
use Rattle.dbc_decode.proofs.Common.{found_self, value_decides, count_by, Sheet}
use Rattle.std.proofs.lemmas.List.Folds.{sum_by-zero}
use Rattle.std.proofs.lemmas.List.Sums.{AllPass-from_list_all}
use Rattle.std.specs.List.{flat_map, list_all}
use Rattle.dbc_words.specs.Named.{AreNamedApart}
use Rattle.dbc_compare.specs.Differences.{change_if, changes_since, differences_about, field_changes, gone_thing}
use Rattle.dbc_compare.specs.Differences.{shown_thing, thing_differences}
use Rattle.dbc_compare.specs.List.{is_breaking}
use Rattle.dbc_compare.proofs.Members.{in_flat}
use Rattle.dbc_compare.specs.declared.difference.Alteration.TheVariants as change
use Rattle.dbc_compare.specs.declared.place.Region.{Region}
use Rattle.dbc_decode.specs.Laws.{BreakingNone}

-- ---- lists

abbrev pub Quiet : List Difference → Type 0
Quiet ds = (d : Difference) → In d ds → breaks d ≡ false

-- no change passes the test
abbrev pub NonePasses : (Alteration → Bool) → List Alteration → Type 0
NonePasses test cs = (c : Alteration) → In c cs → test c ≡ false

pub quiet_left : (xs ys : List Difference) → Quiet (xs ++ ys) → Quiet xs
quiet_left xs ys quiet d h = quiet d (in_left xs ys d h)

pub quiet_right : (xs ys : List Difference) → Quiet (xs ++ ys) → Quiet ys
quiet_right xs ys quiet d h = quiet d (in_right xs ys d h)

pub quiet_each : {A : Type 0} (f : A → List Difference) (xs : List A) → Quiet (flat_map f xs) → (x : A) → In x xs
    → Quiet (f x)
quiet_each f xs quiet x h d k = quiet d (in_flat f xs x d h k)

pub quiet_about : (here : Region) (name : Option (List ℕ)) (cs : List Alteration)
    → Quiet (differences_about here name cs)
    → NonePasses (is_breaking here) cs
unfolding differences_about
quiet_about here name cs quiet c h =
    quiet (record { place = here; name = name; change = c })
    (in_map (λ (x : Alteration). record { place = here; name = name; change = x }) cs c h)

uncounted : (b : Bool) → (cond b 1 0 == 0) ≡ true → b ≡ false
uncounted true e = cc e
uncounted false e = refl

-- where none that breaks is counted, none breaks
pub breaking_none : (old new : Sheet) → BreakingNone old new
breaking_none old new e d h =
    let each : list_all (λ x. cond (breaks x) 1 0 == 0) (differences old new) ≡ true =
    sym (sum_by-zero (λ x. cond (breaks x) 1 0) (differences old new))
    ∙ eq-eqb (count_by breaks (differences old new)) 0 e in
    uncounted (breaks d)
    (all_in (λ x. (cond (breaks x) 1 0 == 0) ≡ true) (differences old new) d
    (AllPass-from_list_all (λ x. cond (breaks x) 1 0 == 0) (differences old new) each)
    (in_from (differences old new) d h))

-- ---- fields

-- of the change of a field the test says what its mark says
abbrev pub IsByMark : (Alteration → Bool) → Type 0
IsByMark test =
    (f : SheetField) (b : Bool) (old new : List ℕ) → test (change.Changed f b old new) ≡ b

-- those whose changes are marked are the same
abbrev pub MarkedSame : (SheetField → Bool) → List Valued → List Valued → Type 0
MarkedSame marks [] ys = Unit {0}
MarkedSame marks (x ∷ xs) [] = Unit {0}
MarkedSame marks (x ∷ xs) (y ∷ ys) = (marks x.0 ≡ true → x.1 ≡ y.1) × MarkedSame marks xs ys

module _ (test : Alteration → Bool) (by_mark : IsByMark test) where
  field_same : (f : SheetField) (b : Bool) (x y : Value) → NonePasses test (field_changes f b x y) → b ≡ true → x ≡ y
  unfolding field_changes
  field_same f b x y none marked = by_test (cases_Bool (same_value x y))
    where
      told : Alteration
      told = change.Changed f b (value_text x) (value_text y)

      by_test : (same_value x y ≡ true) ⊎ (same_value x y ≡ false) → x ≡ y
      by_test (inl t) = (value_decides x y).0 t
      by_test (inr n) =
          let there : In told (cond (same_value x y) [] (told ∷ [])) =
          subst (λ cs. In told cs) (sym (cond-false (same_value x y) [] (told ∷ []) n)) (in_first told told [] refl) in
          absurd (both_ways b (sym (by_mark f b (value_text x) (value_text y)) ∙ none told there) marked)

  pub fields_same : (marks : SheetField → Bool) (xs ys : List Valued) → NonePasses test (changes_between marks xs ys)
      → MarkedSame marks xs ys
  fields_same marks [] ys none = tt
  fields_same marks (x ∷ xs) [] none = tt
  fields_same marks (x ∷ xs) (y ∷ ys) none =
      let here = field_changes x.0 (marks x.0) x.1 y.1 in
      let later = changes_between marks xs ys in (
        field_same x.0 (marks x.0) x.1 y.1 (λ c h. none c (in_left here later c h)),
        fields_same marks xs ys (λ c h. none c (in_right here later c h)),
      )

-- ---- things

found_if_any : {A : Type 0} (name : A → List ℕ) (xs : List A) (n : List ℕ) → has_name name xs n ≡ true
    → (o : Option A) → thing_named name xs n ≡ o → (x : A) × (thing_named name xs n ≡ Some x)
found_if_any name xs n has None e =
    absurd (both_ways (has_name name xs n) (none_found (λ a. bytes_eq (name a) n) xs e) has)
found_if_any name xs n has (Some x) e = (x, e)

not_gone : (here : Region) (b : Bool) → is_breaking here change.Removed ≡ true
    → NonePasses (is_breaking here) (change_if (not b) change.Removed) → b ≡ true
not_gone here true removed quiet = refl
not_gone here false removed quiet =
    absurd (both_ways (is_breaking here change.Removed)
    (quiet change.Removed (in_first change.Removed change.Removed [] refl)) removed)

module _ {A : Type 0} (name : A → List ℕ) (changes : A → A → List Alteration) where
  -- each thing of the old list is in the new one, and none of its changes breaks a receiver
  pub things_quiet : (here : Region) → is_breaking here change.Removed ≡ true → (old new : List A)
      → AreNamedApart name old
      → Quiet (thing_differences here name changes old new) → (x : A) → In x old
      → (y : A) × In y new × (name y ≡ name x) × NonePasses (is_breaking here) (changes x y)
  unfolding thing_differences
  things_quiet here removed old new apart quiet x h =
      let gone : NonePasses (is_breaking here) (change_if (not (has_name name new (name x))) change.Removed) =
      quiet_about here (Some (name x)) _
      (quiet_each (gone_thing here name new) old
      (quiet_left (flat_map (gone_thing here name new) old) _
      (quiet_right (flat_map (shown_thing here name changes old) new) _ quiet)) x h) in
      let has : has_name name new (name x) ≡ true = not_gone here (has_name name new (name x)) removed gone in
      let found = found_if_any name new (name x) has (thing_named name new (name x)) refl in
      let y : A = found.0 in
      let it = found_named name new (name x) y found.1 in
      let shown : NonePasses (is_breaking here) (changes_since changes (thing_named name old (name y)) y) =
      quiet_about here (Some (name y)) _
      (quiet_each (shown_thing here name changes old) new
      (quiet_left (flat_map (shown_thing here name changes old) new) _ quiet) y it.0) in (
        y,
        it.0,
        it.1,
        subst (λ (o : Option A). NonePasses (is_breaking here) (changes_since changes o y))
            (found_self name old apart x h (name y) (sym it.1)) shown,
      )
