-- Masks of the positions that places have.
use Rattle.bitlayout.proofs.Common.{◌≡◌, ℕ, ◌+◌, ◌<◌, ◌≤◌, ◌↔◌, ◌⊎◌, Bool, true, false, List, [], ◌∷◌, ◌++◌, length}
use Rattle.bitlayout.proofs.Common.{take, get_or, Option, Some, None, refl, sym, ap, subst, ◌∙◌, inl, inr, arith}
use Rattle.bitlayout.proofs.Common.{IsTrue, Any, IfSome, get_or-append, get_or-append_seam, cases_lt, eqb-true, eq-eqb}
use Rattle.bitlayout.proofs.Common.{false≢true, true≢false, length-append}
use Rattle.std.proofs.lemmas.List.{take_more}
use Rattle.std.proofs.lemmas.List.Quantifiers.{Any-push}
use Rattle.bitlayout.specs.declared.layout.Layout.{Layout}
use Rattle.bitlayout.specs.declared.mask.Mask.{Mask}
use Rattle.bitlayout.specs.declared.mask.Strip.{Strip}
use Rattle.bitlayout.specs.declared.place.Mux.{Mux}
use Rattle.bitlayout.specs.declared.place.Mux.TheVariants.{Always, Multiplexor, Under}
use Rattle.bitlayout.specs.declared.place.Place.{Place}
use Rattle.bitlayout.specs.declared.taken.Taken.{Taken}
use Rattle.bitlayout.specs.Bits.{IsBit, SharesBit}
use Rattle.bitlayout.specs.Mask.{mask_end, Has, StripHas}
use Rattle.bitlayout.specs.Mux.{is_under, meets}
use Rattle.bitlayout.specs.Taken.{IsStripOf, Covers, IsTakenBy, Collides, CoversMore, UnderAt, is_any, is_everywhere}
use Rattle.bitlayout.specs.Taken.{is_present_at}

-- some element of a list with one more
pub Any-split : {X : Type 0} (P : X → Type 0) (xs : List X) (y : X) → Any P (xs ++ y ∷ []) → Any P xs ⊎ P y
Any-split P xs y (k, x, below, at, is) =
    let many = length-append xs (y ∷ []) in
    elim (cases_lt k (length xs)) [
      | inl earlier ↦ inl (k, x, earlier, sym (get_or-append xs (y ∷ []) x k earlier) ∙ at, is)
      | inr last ↦
          let here : k ≡ length xs = omega arith in
          let same : y ≡ x = sym (get_or-append_seam xs y [] x) ∙ sym (ap (λ n. get_or (xs ++ y ∷ []) n x) here) ∙ at in
          inr (subst P (sym same) is)
    ]

pub Any-kept : {X : Type 0} (P : X → Type 0) (xs : List X) (y : X) → Any P xs → Any P (xs ++ y ∷ [])
Any-kept P xs y (k, x, below, at, is) =
    let many = length-append xs (y ∷ []) in
    (k, x, omega arith, get_or-append xs (y ∷ []) x k below ∙ at, is)

pub Any-map : {X : Type 0} (P Q : X → Type 0) (xs : List X) → ((x : X) → P x → Q x) → Any P xs → Any Q xs
Any-map P Q xs f (k, x, below, at, is) = (k, x, below, at, f x is)

-- a position that a place has
abbrev pub HasAt : (Mux → Bool) → ℕ → Place → Type 0
HasAt test q place = (test place.mux ≡ true) × IsBit place.layout q

-- no places
pub covers_none : (mask : Mask) (test : Mux → Bool) → ((q : ℕ) → Has mask q → ⊥) → Covers mask test []
unfolding Covers
covers_none mask test none q = (λ has. absurd (none q has), λ (below, (k, place, within, at, is)). absurd (omega arith))

-- one more place, whose mark passes the test or doesn't
pub covers_added : (old new : Mask) (test : Mux → Bool) (places : List Place) (place : Place) (strip : Strip)
    (wanted : Bool) → wanted ≡ test place.mux
    → Covers old test places → IsStripOf strip place.layout
    → ((q : ℕ) → Has new q ↔ (Has old q ⊎ ((q < mask_end) × IsTrue wanted × StripHas strip q)))
    → Covers new test (places ++ place ∷ [])
unfolding Covers IsStripOf
covers_added old new test places place strip wanted is covers of_place each q = (
  λ has. elim ((each q).0 has) [
    | inl before ↦ let (below, some) = (covers q).0 before in (below, Any-kept (HasAt test q) places place some)
    | inr (below, t, bit) ↦ (below, Any-push (HasAt test q) places place (sym is ∙ t, (of_place q).0 bit))
  ],
  λ (below, some). elim (Any-split (HasAt test q) places place some) [
    | inl before ↦ (each q).1 (inl ((covers q).1 (below, before)))
    | inr (t, bit) ↦ (each q).1 (inr (below, is ∙ t, (of_place q).1 bit))
  ],
)

-- the same test in other words
pub covers_like : (mask : Mask) (test other : Mux → Bool) (places : List Place) → ((mux : Mux) → test mux ≡ other mux)
    → Covers mask test places → Covers mask other places
unfolding Covers
covers_like mask test other places same covers q = (
  λ has. let (below, some) = (covers q).0 has in
      (below, Any-map (HasAt test q) (HasAt other q) places (λ p (t, bit). (sym (same p.mux) ∙ t, bit)) some),
  λ (below, some). (covers q).1
      (below, Any-map (HasAt other q) (HasAt test q) places (λ p (t, bit). (same p.mux ∙ t, bit)) some),
)

-- a strip touches the mask where it shares a bit with one of the places
pub touched : (mask : Mask) (test : Mux → Bool) (places : List Place) (strip : Strip) (layout : Layout) (result : Bool)
    → Covers mask test places → IsStripOf strip layout
    → ((q : ℕ) → IsBit layout q → q < mask_end) → IsTrue result ↔ ((q : ℕ) × Has mask q × StripHas strip q)
    → IsTrue result ↔ Any (λ other. (test other.mux ≡ true) × SharesBit other.layout layout) places
unfolding Covers IsStripOf
touched mask test places strip layout result covers of_layout inside touches = (
  λ t.
      let (q, has, bit) = touches.0 t in
      let (below, some) = (covers q).0 has in
      Any-map (HasAt test q) (λ other. (test other.mux ≡ true) × SharesBit other.layout layout) places
      (λ p (passes, there). (passes, (q, there, (of_layout q).0 bit))) some,
  λ (k, other, within, at, (passes, (q, there, here))).
      touches.1 (q, (covers q).1 (inside q here, (k, other, within, at, (passes, there))), (of_layout q).1 here),
)

-- ---- the three masks

-- no place depends on a value from the end on, so the mask needs no more
pub covers_no_more : (always : Mask) (value : ℕ) (places : List Place)
    → (Any (λ place. place.mux ≡ Under value) places → ⊥) → CoversMore always always value places
covers_no_more always value places none q = (
  λ has. inl has,
  λ h. elim h [
    | inl has ↦ has
    | inr (below, some) ↦ absurd
        (none (Any-map (UnderAt value q) (λ place. place.mux ≡ Under value) places (λ p (at, bit). at) some))
  ],
)

pub taken_by_none : (taken : Taken) → ((q : ℕ) → Has taken.all q → ⊥) → ((q : ℕ) → Has taken.always q → ⊥)
    → taken.value ≡ None → IsTakenBy taken []
taken_by_none taken all always none = record {
  all = covers_none taken.all is_any all;
  always = covers_none taken.always is_everywhere always;
  present = subst (λ o. IfSome o (λ value. Covers taken.present (is_present_at value) [])) (sym none) tt;
  values = λ value (k, place, within, at, is). absurd (omega arith);
}

-- the places after one more
pub taken_more : (taken : Taken) (places : List Place) (i : ℕ) (d : Place) → i < length places
    → IsTakenBy taken (take i places ++ get_or places i d ∷ []) → IsTakenBy taken (take (i + 1) places)
taken_more taken places i d below by = subst (IsTakenBy taken) (sym (take_more places i d below)) by

pub taken_by_added : (old new : Taken) (places : List Place) (layout : Layout) (mux : Mux) (strip : Strip)
    (everywhere present : Bool) → everywhere ≡ is_everywhere mux
    → IfSome old.value (λ value. present ≡ is_present_at value mux)
    → IsTakenBy old places → IsStripOf strip layout → new.value ≡ old.value
    → ((q : ℕ) → Has new.all q ↔ (Has old.all q ⊎ ((q < mask_end) × StripHas strip q)))
    → ((q : ℕ) → Has new.always q ↔ (Has old.always q ⊎ ((q < mask_end) × IsTrue everywhere × StripHas strip q)))
    → ((q : ℕ) → Has new.present q ↔ (Has old.present q ⊎ ((q < mask_end) × IsTrue present × StripHas strip q)))
    → old.value_end ≤ new.value_end → ((value : ℕ) → mux ≡ Under value → value < new.value_end)
    → IsTakenBy new (places ++ record { layout = layout; mux = mux } ∷ [])
taken_by_added old new places layout mux strip everywhere present is_e is_p by of_layout same all always at_value
    no_less below = record {
      all = covers_added old.all new.all is_any places _ strip true refl by.all of_layout (λ q. (
        λ has. elim ((all q).0 has) [ inl before ↦ inl before | inr (below, bit) ↦ inr (below, refl, bit) ],
        λ h. (all q).1 (elim h [ inl before ↦ inl before | inr (below, t, bit) ↦ inr (below, bit) ]),
      ));
      always = covers_added old.always new.always is_everywhere places _ strip everywhere is_e by.always of_layout always;
      present = subst (λ o. IfSome o
          (λ value. Covers new.present (is_present_at value) (places ++ record { layout = layout; mux = mux } ∷ [])))
          (sym same) (of_value old.value is_p by.present);
      values = λ value some. elim (Any-split (λ place. place.mux ≡ Under value) places _ some) [
        | inl before ↦ let earlier = by.values value before in omega arith
        | inr at ↦ below value at
      ];
    }
  where
    of_value : (o : Option ℕ) → IfSome o (λ value. present ≡ is_present_at value mux)
        → IfSome o (λ value. Covers old.present (is_present_at value) places)
        → IfSome o (λ value. Covers new.present (is_present_at value)
        (places ++ record { layout = layout; mux = mux } ∷ []))
    of_value None is covers = tt
    of_value (Some value) is covers = covers_added old.present new.present (is_present_at value) places _ strip present
        is covers of_layout at_value

-- ---- the positions at a value

pub value_added : (always old new : Mask) (value : ℕ) (places : List Place) (place : Place) (strip : Strip)
    → place.mux ≡ Under value → IsStripOf strip place.layout
    → ((q : ℕ) → Has new q ↔ (Has old q ⊎ ((q < mask_end) × StripHas strip q))) → CoversMore always old value places
    → CoversMore always new value (places ++ place ∷ [])
unfolding IsStripOf
value_added always old new value places place strip is of_place each covers q = (
  λ has. elim ((each q).0 has) [
    | inl before ↦ elim ((covers q).0 before)
        [ inl first ↦ inl first | inr (below, some) ↦ inr (below, Any-kept (UnderAt value q) places place some) ]
    | inr (below, bit) ↦ inr (below, Any-push (UnderAt value q) places place (is, (of_place q).0 bit))
  ],
  λ h. elim h [
    | inl first ↦ (each q).1 (inl ((covers q).1 (inl first)))
    | inr (below, some) ↦ elim (Any-split (UnderAt value q) places place some) [
      | inl before ↦ (each q).1 (inl ((covers q).1 (inr (below, before))))
      | inr (at, bit) ↦ (each q).1 (inr (below, (of_place q).1 bit))
    ]
  ],
)

pub value_skipped : (always mask : Mask) (value : ℕ) (places : List Place) (place : Place)
    → (place.mux ≡ Under value → ⊥) → CoversMore always mask value places
    → CoversMore always mask value (places ++ place ∷ [])
value_skipped always mask value places place other covers q = (
  λ has. elim ((covers q).0 has)
      [ inl first ↦ inl first | inr (below, some) ↦ inr (below, Any-kept (UnderAt value q) places place some) ],
  λ h. elim h [
    | inl first ↦ (covers q).1 (inl first)
    | inr (below, some) ↦ elim (Any-split (UnderAt value q) places place some) [
      | inl before ↦ (covers q).1 (inr (below, before))
      | inr (at, bit) ↦ absurd (other at)
    ]
  ],
)

pub value_next : (always mask : Mask) (value : ℕ) (places : List Place) (i : ℕ) (place : Place) → i < length places
    → get_or places i place ≡ place → CoversMore always mask value (take i places ++ place ∷ [])
    → CoversMore always mask value (take (i + 1) places)
value_next always mask value places i place below at covers =
    subst (CoversMore always mask value) (sym (take_more places i place below ∙ ap (λ p. take i places ++ p ∷ []) at))
    covers

everywhere_meets : (mux : Mux) (value : ℕ) → is_everywhere mux ≡ true → is_present_at value mux ≡ true
everywhere_meets Always value t = refl
everywhere_meets Multiplexor value t = refl
everywhere_meets (Under v) value t = absurd (false≢true t)

under_meets : (mux : Mux) (value : ℕ) → mux ≡ Under value → is_present_at value mux ≡ true
under_meets mux value is = ap (λ m. is_present_at value m) is ∙ eq-eqb value value refl

present_cases : (mux : Mux) (value : ℕ) → is_present_at value mux ≡ true → (is_everywhere mux ≡ true)
    ⊎ (mux ≡ Under value)
present_cases Always value t = inl refl
present_cases Multiplexor value t = inl refl
present_cases (Under v) value t = inr (ap Under (eqb-true v value t))

pub covers_present : (always mask : Mask) (value : ℕ) (places : List Place) → Covers always is_everywhere places
    → CoversMore always mask value places → Covers mask (is_present_at value) places
unfolding Covers
covers_present always mask value places first more q = (
  λ has. elim ((more q).0 has) [
    | inl before ↦ let (below, some) = (first q).0 before in (
      below,
      Any-map (HasAt is_everywhere q) (HasAt (is_present_at value) q) places
          (λ p (t, bit). (everywhere_meets p.mux value t, bit)) some,
    )
    | inr (below, some) ↦ (
      below,
      Any-map (UnderAt value q) (HasAt (is_present_at value) q) places
          (λ p (at, bit). (under_meets p.mux value at, bit)) some,
    )
  ],
  λ (below, (k, place, within, at, (t, bit))). elim (present_cases place.mux value t) [
    | inl everywhere ↦ (more q).1 (inl ((first q).1 (below, (k, place, within, at, (everywhere, bit)))))
    | inr under ↦ (more q).1 (inr (below, (k, place, within, at, (under, bit))))
  ],
)

-- the masks after `present` became that of a value
pub taken_turned : (old now : Taken) (places : List Place) (value : ℕ) (present : Mask) → IsTakenBy old places
    → CoversMore old.always present value places
    → now ≡ record {
      all = old.all;
      always = old.always;
      value = old.value;
      present = present;
      value_end =
          old.value_end;
    }
    → IsTakenBy (record {
      all = now.all;
      always = now.always;
      value = Some value;
      present = now.present;
      value_end =
          now.value_end;
    }) places
taken_turned old now places value present by more is =
    subst (λ t. IsTakenBy (record {
      all = t.all;
      always = t.always;
      value = Some value;
      present = t.present;
      value_end =
          t.value_end;
    }) places) (sym is) (record {
      all = by.all;
      always = by.always;
      present = covers_present old.always present value places by.always more;
      values = by.values;
    })

-- ---- collisions

abbrev pub Shares : (Mux → Bool) → Layout → Place → Type 0
Shares test layout other = (test other.mux ≡ true) × SharesBit other.layout layout

-- a signal that is present at every value collides with whatever it shares a bit with
pub meets_everywhere : (a b : Mux) → is_under b ≡ false → meets a b ≡ true
meets_everywhere Always b t = refl
meets_everywhere Multiplexor b t = refl
meets_everywhere (Under v) Always t = refl
meets_everywhere (Under v) Multiplexor t = refl
meets_everywhere (Under v) (Under w) t = absurd (true≢false t)

pub collides_any : (places : List Place) (mux : Mux) (layout : Layout) → Collides places mux layout
    → Any (Shares is_any layout) places
collides_any places mux layout some = Any-map (λ other. (meets other.mux mux ≡ true) × SharesBit other.layout layout)
    (Shares is_any layout) places (λ p (t, share). (refl, share)) some

pub any_collides : (places : List Place) (mux : Mux) (layout : Layout) → is_under mux ≡ false
    → Any (Shares is_any layout) places → Collides places mux layout
any_collides places mux layout everywhere some =
    Any-map (Shares is_any layout) (λ other. (meets other.mux mux ≡ true) × SharesBit other.layout layout) places
    (λ p (t, share). (meets_everywhere p.mux mux everywhere, share)) some

pub always_collides : (places : List Place) (value : ℕ) (layout : Layout) → Any (Shares is_everywhere layout) places
    → Collides places (Under value) layout
always_collides places value layout some = Any-map (Shares is_everywhere layout) (Shares (is_present_at value) layout)
    places (λ p (t, share). (everywhere_meets p.mux value t, share)) some

-- the present mask, where the value is known
pub present_covers : (taken : Taken) (places : List Place) (value : ℕ) → IsTakenBy taken places
    → taken.value ≡ Some value → Covers taken.present (is_present_at value) places
present_covers taken places value by is = subst (λ o. IfSome o (λ v. Covers taken.present (is_present_at v) places)) is
    by.present

pub not_under : (mux : Mux) → ((value : ℕ) → mux ≡ Under value → ⊥) → is_under mux ≡ false
not_under Always other = refl
not_under Multiplexor other = refl
not_under (Under v) other = absurd (other v refl)
