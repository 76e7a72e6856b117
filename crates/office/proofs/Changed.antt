-- Changes of live messages and held identifiers, made where a search finds them.
use Rattle.office.proofs.Common.{◌≡◌, ◌∙◌, ◌<◌, Bool, true, false, not, cond, ℕ, zero, suc, List, [], ◌∷◌, Option}
use Rattle.office.proofs.Common.{length, get_or, set, filter, ◌++◌, inl, inr, refl, sym, ap, subst, arith, nat_cmp_is}
use Rattle.office.proofs.Common.{Err, IfSome, Ok, OnErr, OnOk, Result, slice_get, slice_set, AllByRecursion, insert}
use Rattle.office.proofs.Common.{list_any, remove, IsStrictlySortedBy, nat_cmp, bytes_eq, Equal, false_from_ne_true}
use Rattle.office.proofs.Common.{or_parts, slice_get_cases, IsAt, IsGap, put, IsIdentifier, dbc_number, Ident}
use Rattle.office.proofs.Common.{AreNamedApart, Signal, by_number, live_messages, LiveMessage, Net, has_ident, is_held}
use Rattle.office.proofs.Common.{live_name, same_ident, IsNet, same_ident-true, same_ident-from, with_last_signal}
use Rattle.office.proofs.Common.{with_signals}
use Rattle.std.proofs.Common.{◌≢◌, Contains}
use Rattle.std.specs.List.{IsDistinct}
use Rattle.std.proofs.lemmas.List.Folds.{Any-from_list_any}
use Rattle.base.proofs.AscendingLists.{put_gap}
use Rattle.dbc_sheet.specs.Messages.{message_name}
use Rattle.office_types.specs.State.{by_ident}
use Rattle.office_law.proofs.Idents.{same_number}
use Rattle.office.specs.Indexed.{IsIndexIfThere, IsFoundAt, IsRemovable, indexed_alike, live_number}
use Rattle.office.specs.declared.net_index.NetIndex.{NetIndex}
use Rattle.office.proofs.InPlace.{alike_with}
use Rattle.office.proofs.Indexes.{index-replaced}
use Rattle.office.proofs.Looked.{of_live}
use Rattle.office.proofs.PutThere.{put_same}

-- a message whose number is there takes the place of the other
pub put_set : (live : List LiveMessage) (m : LiveMessage) (at : ℕ) → IsStrictlySortedBy by_number live
    → IsAt live_number live (live_number m) at → put by_number m live ≡ set live at m
put_set live m at rising there = elim (slice_get_cases live at).1 [
  | inl h ↦
      put_same by_number m h.0 (ap (λ k y. nat_cmp k (live_number y)) (sym (there.here h.0) ∙ ap live_number h.3)) live
      at rising there.within (sym h.3)
      (sym (nat_cmp_is (live_number h.0) (live_number h.0) Equal refl))
  | inr past ↦ absurd (let w = there.within in let v = past.0 in omega arith)
]

-- one whose number isn't there is inserted where it would go
pub put_insert : (live : List LiveMessage) (m : LiveMessage) (at : ℕ) → IsGap live_number live (live_number m) at
    → put by_number m live ≡ insert live at m
put_insert live m at gap = put_gap live_number m live at gap

pub hold_insert : (held : List Ident) (i : Ident) (at : ℕ) → IsGap dbc_number held (dbc_number i) at
    → put by_ident i held ≡ insert held at i
hold_insert held i at gap = put_gap dbc_number i held at gap

-- Messages without one of an identifier.

module _ {A : Type 0} (key : A → ℕ) (p : A → Bool) (k : ℕ) (of_number : (x : A) → p x ≡ true → key x ≡ k) where
  other : (x : A) → key x ≢ k → p x ≡ false
  other x differs = false_from_ne_true (p x) (λ t. differs (of_number x t))

  all_kept : (xs : List A) → ((j : ℕ) (d : A) → j < length xs → key (get_or xs j d) ≢ k)
      → filter (λ x. not (p x)) xs ≡ xs
  all_kept [] differ = refl
  all_kept (x ∷ xs) differ =
      ap (λ b. cond (not b) (x ∷ filter (λ y. not (p y)) xs) (filter (λ y. not (p y)) xs))
      (other x (differ 0 x (omega arith)))
      ∙ ap (λ ys. x ∷ ys) (all_kept xs (λ j d lt. differ (suc j) d (omega (arith, lt))))

  pub removed_at : (xs : List A) (i : ℕ) → IsAt key xs k i → ((d : A) → p (get_or xs i d) ≡ true)
      → remove xs i ≡ filter (λ x. not (p x)) xs
  removed_at [] i at passes = absurd (let w : i < 0 = at.within in omega (arith, w))
  removed_at (x ∷ xs) zero at passes =
      sym (ap (λ b. cond (not b) (x ∷ filter (λ y. not (p y)) xs) (filter (λ y. not (p y)) xs)) (passes x)
      ∙ all_kept xs (λ j d lt. at.others (suc j) d (omega (arith, lt)) (omega arith)))
  removed_at (x ∷ xs) (suc i) at passes =
      ap (λ ys. x ∷ ys) (removed_at xs i
      (record {
        within = omega (arith, at.within);
        here = at.here;
        others =
            λ j d lt differs. at.others (suc j) d (omega (arith, lt)) (omega (arith, differs));
      }) passes)
      ∙ sym (ap (λ b. cond (not b) (x ∷ filter (λ y. not (p y)) xs) (filter (λ y. not (p y)) xs))
      (other x (at.others 0 x (omega arith) (omega arith))))

pub none_without : {A : Type 0} (p : A → Bool) (xs : List A) → list_any p xs ≡ false → filter (λ x. not (p x)) xs ≡ xs
none_without p [] h = refl
none_without p (x ∷ xs) h =
    let parts = or_parts (p x) (list_any p xs) h in
    ap (λ b. cond (not b) (x ∷ filter (λ y. not (p y)) xs) (filter (λ y. not (p y)) xs)) parts.0
    ∙ ap (λ ys. x ∷ ys) (none_without p xs parts.1)

pub without_found : (live : List LiveMessage) (i : Ident) (at : ℕ) → IsFoundAt live i at
    → remove live at ≡ filter (λ m. not (has_ident i m)) live
without_found live i at found =
    removed_at live_number (has_ident i) (dbc_number i) (of_live i) live at found.there
    (λ d. same_ident-from (let m : LiveMessage = get_or live at d in m.message.ident) i (found.same d))

-- What every network keeps lets one of its messages be removed.

names_apart : (live : List LiveMessage) → AreNamedApart message_name (live_messages live) → AreNamedApart live_name live
unfolding IsDistinct
names_apart [] h = tt
names_apart (m ∷ live) h = (each live h.0, names_apart live h.1)
  where
    each : (ys : List LiveMessage) → AllByRecursion (λ n. bytes_eq m.message.name n.name ≡ false) (live_messages ys)
        → AllByRecursion (λ y. bytes_eq m.message.name y.message.name ≡ false) ys
    each [] k = tt
    each (y ∷ ys) k = (k.0, each ys k.1)

module _ (net : Net) (is : IsNet net) (i : Ident) (at : ℕ) (found : IsFoundAt net.live i at) where
  held_nowhere : Contains net.held i → ⊥
  held_nowhere c = elim (slice_get_cases net.live at).1 [
    | inl h ↦ is.held.apart at h.0 found.there.within (subst (Contains net.held) (sym (found.same h.0)) c)
    | inr past ↦ absurd (let w = found.there.within in let v = past.0 in omega arith)
  ]

  not_held : is_held net i ≡ false
  not_held = false_from_ne_true (is_held net i) (λ t.
      let w = Any-from_list_any (λ h. same_ident h i) net.held t in
      held_nowhere (subst (Contains net.held) (same_ident-true w.1 i w.4) (w.0, w.2, w.3)))

  pub removable : (name : List ℕ) → ((d : LiveMessage) → ◌≡◌ {A = List ℕ} (live_name (get_or net.live at d)) name)
      → IsRemovable net at name i
  removable name named = record {
    found = found;
    named = named;
    apart = names_apart net.live is.live.sheet.well_formed.together.apart;
    free = not_held;
  }

  -- no held identifier has the number of a live one
  pub gap_there : IsIdentifier i → (j : ℕ) → IsAt dbc_number net.held (dbc_number i) j → ⊥
  gap_there identifier j there = elim (slice_get_cases net.held j).1 [
    | inl h ↦
        let same : h.0 ≡ i = same_number h.0 i (subst IsIdentifier h.3 (is.held.identifiers j h.0 there.within))
        identifier (ap dbc_number (sym h.3) ∙ there.here h.0) in
        held_nowhere (subst (Contains net.held) same (j, there.within, h.3))
    | inr past ↦ absurd (let w = there.within in let v = past.0 in omega arith)
  ]

-- the index of a network of which a message has other signals
pub index-with_signals : (o : Option NetIndex) (net : Net) (at : ℕ) (signals : LiveMessage → List Signal)
    (live : List LiveMessage) → at < length net.live
    → IfSome (slice_get net.live at) (λ m. live ≡ slice_set net.live at (with_signals m (signals m)))
    → IsIndexIfThere o net → IsIndexIfThere o (record net { live = live })
index-with_signals o net at signals live within changed is = elim (slice_get_cases net.live at).1 [
  | inl h ↦
      let new : LiveMessage = with_signals h.0 (signals h.0) in
      subst (λ (l : List LiveMessage). IsIndexIfThere o (record net { live = l }))
      (sym (subst (λ p. IfSome p (λ m. live ≡ slice_set net.live at (with_signals m (signals m)))) h.2 changed))
      (index-replaced o net at h.0 new within (ap (λ z. indexed_alike z new) h.3 ∙ alike_with h.0 (signals h.0)) is)
  | inr past ↦ absurd (let v = past.0 in omega arith)
]

-- the same where memory may have run out, so that nothing changed
pub index-if_added : {A E : Type 0} (r : Result A E) (o : Option NetIndex) (net : Net) (at : ℕ) (s : Signal)
    (live : List LiveMessage) → at < length net.live
    → OnOk r (IfSome (slice_get net.live at) (λ m. live ≡ slice_set net.live at (with_last_signal m s)))
    → OnErr r (live ≡ net.live) → IsIndexIfThere o net
    → IsIndexIfThere o (record net { live = live })
index-if_added (Ok x) o net at s live within ok err is =
    index-with_signals o net at (λ m. m.message.signals ++ s ∷ []) live within ok is
index-if_added (Err e) o net at s live within ok err is =
    subst (λ (l : List LiveMessage). IsIndexIfThere o (record net { live = l })) (sym err) is
