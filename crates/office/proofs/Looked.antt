-- What a look-up finds among live messages and identifiers, which are in order of their numbers.
use Rattle.office.proofs.Common.{◌≡◌, ◌∙◌, ◌<◌, ◌≤◌, ◌||◌, Bool, true, false, cond, ℕ, List, [], ◌∷◌, Option, Some}
use Rattle.office.proofs.Common.{None, length, get_or, find, take, inl, inr, refl, sym, ap, subst, arith, is_some}
use Rattle.office.proofs.Common.{option_map, slice_get, list_any, position, IsStrictlySortedBy, false_from_ne_true}
use Rattle.office.proofs.Common.{drop_more, slice_get_cases, IsAt, IsGap, IsIdentifier, dbc_number, ident_of, IdentForm}
use Rattle.office.proofs.Common.{Standard, Extended, Ident, by_number, live_messages, LiveMessage, Net, has_ident}
use Rattle.office.proofs.Common.{live_named, same_ident, IsNet, same_ident-true, same_ident-from}
use Rattle.std.specs.Prelude.{MatchOption}
use Rattle.std.specs.List.{All}
use Rattle.std.specs.Option.{option_and_then}
use Rattle.std.proofs.lemmas.Bool.{cases_lt}
use Rattle.std.proofs.lemmas.Bool.Decides.{eqb_tells}
use Rattle.std.proofs.lemmas.List.{get_or_default}
use Rattle.std.proofs.lemmas.List.Folds.{list_any_at}
use Rattle.std.proofs.lemmas.List.Elements.{All-head, All-tail}
use Rattle.can_id.specs.Form.{greatest_number}
use Rattle.dbc_sheet.specs.Form.{IsMessage}
use Rattle.office_types.proofs.Least.{or_false}
use Rattle.office_rules.specs.Facts.{MessageFacts, message_facts}
use Rattle.office_facts.proofs.Searched.{gap_passes, passes_at}
use Rattle.office.specs.Indexed.{IsFoundAt, live_number}
use Rattle.office.proofs.AppliedToOffice.{found_at, not_found}
use Rattle.office.proofs.Indexes.{named, nothing_mapped}
use Rattle.office.proofs.InPlace.{rising_live}

pub live_rises : (net : Net) → IsNet net → IsStrictlySortedBy by_number net.live
live_rises net is = rising_live net.live is.live.sheet.well_formed.together.ascending

-- Identifiers.

-- what passes has the number, so it is at the number's index
pub alone : {A : Type 0} (key : A → ℕ) (p : A → Bool) (n : ℕ) → ((x : A) → p x ≡ true → key x ≡ n)
    → (xs : List A) (i : ℕ) (d : A) → IsAt key xs n i
    → list_any p xs ≡ p (get_or xs i d)
alone key p n of_number xs i d at =
    sym (passes_at key p n of_number xs i at) ∙ ap (λ ys. list_any p (take 1 ys)) (drop_more xs i d at.within)
    ∙ or_false (p (get_or xs i d))

pub of_live : (i : Ident) (m : LiveMessage) → has_ident i m ≡ true → live_number m ≡ dbc_number i
of_live i m t = ap dbc_number (same_ident-true m.message.ident i t)

pub of_ident : (i j : Ident) → same_ident j i ≡ true → dbc_number j ≡ dbc_number i
of_ident i j t = ap dbc_number (same_ident-true j i t)

pub ident_found : (live : List LiveMessage) (i : Ident) (at : ℕ) (d : LiveMessage)
    → IsAt live_number live (dbc_number i) at → has_ident i (get_or live at d) ≡ true → IsFoundAt live i at
ident_found live i at d there t = record {
  there = there;
  same = λ e. ap (λ (m : LiveMessage). m.message.ident) (get_or_default live at e d there.within)
      ∙ same_ident-true (let m : LiveMessage = get_or live at d in m.message.ident) i t;
}

pub other_there : (live : List LiveMessage) (i : Ident) (at : ℕ) (d : LiveMessage)
    → IsAt live_number live (dbc_number i) at → has_ident i (get_or live at d) ≡ false
    → list_any (has_ident i) live ≡ false
other_there live i at d there f = alone live_number (has_ident i) (dbc_number i) (of_live i) live at d there ∙ f

pub none_there : (live : List LiveMessage) (i : Ident) (at : ℕ) → IsGap live_number live (dbc_number i) at
    → list_any (has_ident i) live ≡ false
none_there live i at gap = gap_passes live_number (has_ident i) (dbc_number i) (of_live i) live at gap

pub live_if_found : (live : List LiveMessage) (i : Ident) (o : Option ℕ)
    → MatchOption o (list_any (has_ident i) live ≡ false) (IsFoundAt live i) → is_some o ≡ list_any (has_ident i) live
live_if_found live i None h = sym h
live_if_found [] i (Some at) h = absurd (let w : at < 0 = h.there.within in omega (arith, w))
live_if_found (x ∷ xs) i (Some at) h =
    sym (list_any_at (has_ident i) (x ∷ xs) at x h.there.within
    (same_ident-from (let m : LiveMessage = get_or (x ∷ xs) at x in m.message.ident) i (h.same x)))

pub among_at : (idents : List Ident) (i : Ident) (at : ℕ) (d : Ident) → IsAt dbc_number idents (dbc_number i) at
    → same_ident (get_or idents at d) i ≡ list_any (λ j. same_ident j i) idents
among_at idents i at d there =
    sym (alone dbc_number (λ j. same_ident j i) (dbc_number i) (of_ident i) idents at d there)

pub among_none : (idents : List Ident) (i : Ident) (at : ℕ) → IsGap dbc_number idents (dbc_number i) at
    → list_any (λ j. same_ident j i) idents ≡ false
among_none idents i at gap = gap_passes dbc_number (λ j. same_ident j i) (dbc_number i) (of_ident i) idents at gap

-- what is no identifier is neither live nor held
module _ (i : Ident) (none : IsIdentifier i → ⊥) where
  pub not_live : (live : List LiveMessage) → All IsMessage (live_messages live) → list_any (has_ident i) live ≡ false
  not_live [] h = refl
  not_live (m ∷ live) h =
      ap (λ b. b || list_any (has_ident i) live)
      (false_from_ne_true (has_ident i m) (λ t. let is = All-head IsMessage m.message (live_messages live) h in
      none (subst IsIdentifier (same_ident-true m.message.ident i t) is.ident)))
      ∙ not_live live (All-tail IsMessage m.message (live_messages live) h)

  pub not_held : (held : List Ident) → All IsIdentifier held → list_any (λ j. same_ident j i) held ≡ false
  not_held [] h = refl
  not_held (j ∷ held) h =
      ap (λ b. b || list_any (λ k. same_ident k i) held)
      (false_from_ne_true (same_ident j i)
      (λ t. none (subst IsIdentifier (same_ident-true j i t) (All-head IsIdentifier j held h))))
      ∙ not_held held (All-tail IsIdentifier j held h)

pub no_identifier : (form : IdentForm) (n : ℕ) → (n ≤ greatest_number form → ⊥) → IsIdentifier (ident_of form n) → ⊥
no_identifier Standard n none h = none h
no_identifier Extended n none h = none h

-- Names.

module _ {A : Type 0} (p : A → Bool) where
  pub no_position : (xs : List A) → find p xs ≡ None → None ≡ position p xs
  no_position xs none = by_position (position p xs) refl
    where
      none_some : (a : A) → ◌≡◌ {A = Option A} None (Some a) → ⊥
      none_some a e = cc

      by_position : (o : Option ℕ) → position p xs ≡ o → None ≡ o
      by_position None e = refl
      by_position (Some j) e = let found = found_at p xs j e in elim (slice_get_cases xs j).1 [
        | inl here ↦ absurd (none_some here.0 (sym none ∙ sym found.1 ∙ here.2))
        | inr past ↦ absurd (let w = found.0 in let v = past.0 in omega arith)
      ]

  pub found_there : (xs : List A) (o : Option ℕ) → o ≡ position p xs → option_and_then (slice_get xs) o ≡ find p xs
  found_there xs None h = sym (not_found p xs (sym h))
  found_there xs (Some i) h = (found_at p xs i (sym h)).1

  pub any_found : (key : A → ℕ) (xs : List A) → is_some (option_map key (find p xs)) ≡ list_any p xs
  any_found key [] = refl
  any_found key (x ∷ xs) = by_test (p x) (any_found key xs)
    where
      by_test : (b : Bool) → is_some (option_map key (find p xs)) ≡ list_any p xs
          → is_some (option_map key (cond b (Some x) (find p xs))) ≡ (b || list_any p xs)
      by_test true h = refl
      by_test false h = h

pub not_named : (live : List LiveMessage) (name : List ℕ) → None ≡ option_map live_number (live_named live name)
    → None ≡ position (named name) live
not_named live name h = no_position (named name) live (nothing_mapped (live_named live name) h)

-- the message that a name's number leads to
pub record IsHolder (live : List LiveMessage) (name : List ℕ) (k : ℕ) : Type 0 where
  pub at : ℕ
  pub m : LiveMessage
  pub within : at < length live
  pub here : get_or live at m ≡ m
  pub number : live_number m ≡ k
  pub found : Some at ≡ position (named name) live

holder : (live : List LiveMessage) (name : List ℕ) (k : ℕ) → Some k ≡ option_map live_number (live_named live name)
    → IsHolder live name k
holder live name k is = by_position (position (named name) live) refl
  where
    none_some : (a : ℕ) → ◌≡◌ {A = Option ℕ} (Some a) None → ⊥
    none_some a e = cc

    some_none : (a : LiveMessage) → ◌≡◌ {A = Option LiveMessage} None (Some a) → ⊥
    some_none a e = cc

    some_same : (a b : ℕ) → ◌≡◌ {A = Option ℕ} (Some a) (Some b) → b ≡ a
    some_same a b e = cc

    by_position : (o : Option ℕ) → position (named name) live ≡ o → IsHolder live name k
    by_position None e = absurd (none_some k (is ∙ ap (option_map live_number) (not_found (named name) live e)))
    by_position (Some j) e = let found = found_at (named name) live j e in elim (slice_get_cases live j).1 [
      | inl h ↦ record {
        at = j;
        m = h.0;
        within = h.1;
        here = h.3;
        number = some_same k (live_number h.0) (is ∙ ap (option_map live_number) (sym found.1 ∙ h.2));
        found = sym e;
      }
      | inr past ↦ absurd (let w = found.0 in let v = past.0 in omega arith)
    ]

-- a look-up of the number of a name ends at the message of the name
pub leads_there : (live : List LiveMessage) (name : List ℕ) (k i : ℕ)
    → Some k ≡ option_map live_number (live_named live name) → IsAt live_number live k i
    → Some i ≡ position (named name) live
leads_there live name k i is at = let h = holder live name k is in elim (eqb_tells h.at i) [
  | inl e ↦ ap Some (sym e.1) ∙ h.found
  | inr e ↦ absurd (at.others h.at h.m h.within e.1 (ap live_number h.here ∙ h.number))
]

pub never_gap : (live : List LiveMessage) (name : List ℕ) (k i : ℕ)
    → Some k ≡ option_map live_number (live_named live name) → IsGap live_number live k i → ⊥
never_gap live name k i is gap =
    let h = holder live name k is in
    let same : live_number (get_or live h.at h.m) ≡ k = ap live_number h.here ∙ h.number in
    elim (cases_lt h.at i) [
      | inl below ↦ let l = gap.below h.at h.m below in omega (arith, l, same)
      | inr above ↦ let l = gap.above h.at h.m above h.within in omega (arith, l, same)
    ]

-- what a command reads of the message at the index of its name
pub facts_are_those : (net : Net) (name : List ℕ) (index : Option ℕ) (facts : MessageFacts)
    → facts ≡ record {
      phase = net.head.phase;
      nodes = net.head.frame.nodes;
      found =
          option_and_then (slice_get net.live) index;
    }
    → index ≡ position (named name) net.live → facts ≡ message_facts net name
facts_are_those net name index facts is at =
    is ∙ ap (λ (o : Option LiveMessage). record { phase = net.head.phase; nodes = net.head.frame.nodes; found = o })
    (found_there (named name) net.live index at)
