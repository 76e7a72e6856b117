-- What is kept for suspect parameter numbers after one place more.
use Rattle.dbc_lint.proofs.Common.{◌≡◌, ◌∙◌, ◌<◌, ◌+◌, ◌++◌, ◌∷◌, ℕ, Bool, true, false, List, [], Option, Some, None}
use Rattle.dbc_lint.proofs.Common.{ap, cond, get_or, length, map, refl, subst, sym, take, is_some, is_eq, append_assoc}
use Rattle.dbc_lint.proofs.Common.{Message, Signal}
use Rattle.std.specs.Prelude.{◌==◌}
use Rattle.std.specs.Cmp.{unsigned_tied}
use Rattle.std.specs.Option.{option_or}
use Rattle.std.specs.Ordering.{nat_cmp}
use Rattle.std.proofs.lemmas.Bool.{eqb-true, false≢true}
use Rattle.std.proofs.lemmas.List.{flat_map_more, map_more, take_more}
use Rattle.std.proofs.lemmas.List.Folds.{find-append}
use Rattle.dbc_lint.specs.OfSpn.{SpnPlace, first_place, has_spn, place_of, places, places_in}
use Rattle.dbc_lint.specs.SpnPlaces.{HasFirsts, kept_place}
use Rattle.dbc_lint.specs.declared.spn_places.FirstPlaces.{FirstPlaces}

or_none : {A : Type 0} (o : Option A) → option_or o None ≡ o
or_none None = refl
or_none (Some x) = refl

or_some : {A : Type 0} (o q : Option A) → is_some o ≡ true → option_or o q ≡ o
or_some None q there = absurd (false≢true there)
or_some (Some x) q there = refl

or_free : {A : Type 0} (o q : Option A) → is_some o ≡ false → option_or o q ≡ q
or_free None q free = refl
or_free (Some x) q free = absurd (false≢true (sym free))

-- ---- the first place of a number, with one place more

with_one : (n : ℕ) (ps : List SpnPlace) (p : SpnPlace)
    → first_place (ps ++ p ∷ []) n ≡ option_or (first_place ps n) (cond (p.1.spn == n) (Some p) None)
with_one n ps p = find-append (has_spn n) ps (p ∷ [])

kept : (n : ℕ) (ps : List SpnPlace) (p : SpnPlace) (same : Bool) → (p.1.spn == n) ≡ same
    → is_some (first_place ps p.1.spn) ≡ true
    → first_place ps n ≡ option_or (first_place ps n) (cond same (Some p) None)
kept n ps p false is there = sym (or_none (first_place ps n))
kept n ps p true is there =
    let here : is_some (first_place ps n) ≡ true =
    subst (λ m. is_some (first_place ps m) ≡ true) (eqb-true p.1.spn n is) there in
    sym (or_some (first_place ps n) (Some p) here)

added : (n : ℕ) (ps : List SpnPlace) (p : SpnPlace) (same : Bool) → (p.1.spn == n) ≡ same
    → is_some (first_place ps p.1.spn) ≡ false
    → cond same (Some p) (first_place ps n) ≡ option_or (first_place ps n) (cond same (Some p) None)
added n ps p false is free = sym (or_none (first_place ps n))
added n ps p true is free =
    let here : is_some (first_place ps n) ≡ false =
    subst (λ m. is_some (first_place ps m) ≡ false) (eqb-true p.1.spn n is) free in
    sym (or_free (first_place ps n) (Some p) here)

-- nothing changes where a place is kept for the number of the one more
pub stays : (firsts : FirstPlaces) (ps : List SpnPlace) (p : SpnPlace) → is_some (kept_place firsts p.1.spn) ≡ true
    → HasFirsts ps firsts → HasFirsts (ps ++ p ∷ []) firsts
stays firsts ps p there has n =
    has n ∙ kept n ps p (p.1.spn == n) refl (sym (ap is_some (has p.1.spn)) ∙ there) ∙ sym (with_one n ps p)

-- and else that one is kept too
pub grows : (old new : FirstPlaces) (ps : List SpnPlace) (p : SpnPlace) → is_some (kept_place old p.1.spn) ≡ false
    → ((n : ℕ) → kept_place new n ≡ cond (is_eq (nat_cmp p.1.spn n)) (Some p) (kept_place old n)) → HasFirsts ps old
    → HasFirsts (ps ++ p ∷ []) new
grows old new ps p free more has n =
    more n ∙ ap (λ b. cond b (Some p) (kept_place old n)) (unsigned_tied p.1.spn n)
    ∙ ap (λ o. cond (p.1.spn == n) (Some p) o) (has n)
    ∙ added n ps p (p.1.spn == n) refl (sym (ap is_some (has p.1.spn)) ∙ free)
    ∙ sym (with_one n ps p)

-- ---- the places of signals and messages, one by one

pub signals_more : (ps : List SpnPlace) (m : Message) (signals : List Signal) (i : ℕ) (s : Signal) → i < length signals
    → s ≡ get_or signals i s
    → (ps ++ map (place_of m) (take i signals)) ++ (m, s) ∷ [] ≡ ps ++ map (place_of m) (take (i + 1) signals)
signals_more ps m signals i s below is =
    append_assoc ps (map (place_of m) (take i signals)) ((m, s) ∷ [])
    ∙ ap (λ (x : Signal). ps ++ (map (place_of m) (take i signals) ++ place_of m x ∷ [])) is
    ∙ ap (λ (qs : List SpnPlace). ps ++ qs) (sym (map_more (place_of m) signals i s below))

pub messages_more : (messages : List Message) (i : ℕ) (m : Message) → i < length messages → m ≡ get_or messages i m
    → places (take i messages) ++ places_in m ≡ places (take (i + 1) messages)
messages_more messages i m below is =
    flat_map_more places_in [] (take i messages) m
    ∙ ap (λ (x : Message). places (take i messages ++ x ∷ [])) is
    ∙ ap (λ (ms : List Message). places ms) (sym (take_more messages i m below))
