-- A live message that is changed in its place.
use Rattle.office.proofs.Common.{◌≡◌, ◌∙◌, ◌<◌, ℕ, true, List, [], ◌∷◌, Option, Some, None, length, get_or, set, inl}
use Rattle.office.proofs.Common.{inr, refl, sym, ap, subst, arith, nat_cmp_is, AllByRecursion, position, nat_cmp}
use Rattle.office.proofs.Common.{IfSome, slice_get, slice_set, Less, Equal, slice_get_cases, bytes_eq-Decides, put}
use Rattle.office.proofs.Common.{dbc_number, Signal, by_number, live_messages, LiveMessage, Net, AddSignal, IsNet}
use Rattle.office.proofs.Common.{with_message, with_signals}
use Rattle.std.specs.List.Sorted.{IsStrictlySortedBy}
use Rattle.std.proofs.lemmas.Option.{none-some}
use Rattle.base.specs.Refusing.{first_refusal}
use Rattle.dbc_sheet.specs.Messages.{by_number as message_order}
use Rattle.dbc_sheet.specs.Signals.{signal_tests}
use Rattle.office_rules.specs.Change.{Fits, at_message}
use Rattle.office.proofs.PutThere.{put_same}
use Rattle.office_law.proofs.Idents.{same_ident-itself}
use Rattle.office.specs.Indexed.{indexed_alike}
use Rattle.office.proofs.AppliedToOffice.{found_at, not_found}
use Rattle.office.proofs.Indexes.{named}

-- Live messages are in the order of their numbers, so one of a number that is there is put in its place.

pub rising_live : (xs : List LiveMessage) → IsStrictlySortedBy message_order (live_messages xs)
    → IsStrictlySortedBy by_number xs
unfolding IsStrictlySortedBy
rising_live [] h = tt
rising_live (x ∷ xs) h = (each xs h.0, rising_live xs h.1)
  where
    each : (ys : List LiveMessage) → AllByRecursion (λ m. message_order x.message m ≡ Less) (live_messages ys)
        → AllByRecursion (λ y. by_number x y ≡ Less) ys
    each [] k = tt
    each (y ∷ ys) k = (k.0, each ys k.1)

pub put_live : (xs : List LiveMessage) (i : ℕ) (x y : LiveMessage) → IsStrictlySortedBy message_order (live_messages xs)
    → i < length xs → y ≡ get_or xs i y
    → x.message.ident ≡ y.message.ident → put by_number x xs ≡ set xs i x
put_live xs i x y sorted h is same =
    let order_same : by_number x ≡ by_number y = ap (λ i m. nat_cmp (dbc_number i) (dbc_number m.message.ident)) same in
    put_same by_number x y order_same xs i (rising_live xs sorted) h is
    (sym (nat_cmp_is (dbc_number y.message.ident) (dbc_number y.message.ident) Equal refl))

-- The live message of a name, which gets other signals in its place.
module _ (net : Net) (message : List ℕ) (signals : LiveMessage → List Signal) where
  abbrev changed : LiveMessage → LiveMessage
  changed m = with_signals m (signals m)

  pub none_changed : position (named message) net.live ≡ None → net ≡ at_message message changed net
  none_changed none =
      subst (λ (o : Option LiveMessage). ◌≡◌ {A = Net} net
      (elim o [ None ↦ net | Some m ↦ with_message net (with_signals m (signals m)) ]))
      (sym (not_found (named message) net.live none)) refl

  module _ (i : ℕ) (at : position (named message) net.live ≡ Some i) where
    pub is_within : i < length net.live
    is_within = (found_at (named message) net.live i at).0

    pub changed_in_place : (live : List LiveMessage) → IsNet net
        → IfSome (slice_get net.live i) (λ m. live ≡ slice_set net.live i (with_signals m (signals m)))
        → ◌≡◌ {A = Net} (record net { live = live }) (at_message message changed net)
    changed_in_place live is set_there = elim (slice_get_cases net.live i).1 [
      | inl h ↦
          let new : LiveMessage = with_signals h.0 (signals h.0) in
          let there_put : live ≡ put by_number new net.live =
          subst (λ o. IfSome o (λ m. live ≡ slice_set net.live i (with_signals m (signals m)))) h.2 set_there
          ∙ sym (put_live net.live i new h.0 is.live.sheet.well_formed.together.ascending is_within (sym h.3) refl) in
          ap (λ (l : List LiveMessage). record net { live = l }) there_put
          ∙ subst (λ (o : Option LiveMessage). ◌≡◌ {A = Net} (with_message net new)
          (elim o [ None ↦ net | Some m ↦ with_message net (with_signals m (signals m)) ]))
          (sym (sym (found_at (named message) net.live i at).1 ∙ h.2)) refl
      | inr past ↦ absurd (let v = past.0 in let w = is_within in omega arith)
    ]

-- The live message of a name, to which a change adds a signal.
module _ (net : Net) (message : List ℕ) (s : Signal) (fits : Fits (AddSignal message s) (Some net)) where
  pub has_index : position (named message) net.live ≡ None → ⊥
  has_index none = none-some fits.0 (sym (not_found (named message) net.live none) ∙ fits.1)

  pub fits_there : (i : ℕ) → position (named message) net.live ≡ Some i
      → IfSome (slice_get net.live i) (λ m. first_refusal (signal_tests m.message.signals s) ≡ None)
  fits_there i at =
      subst (λ o. IfSome o (λ m. first_refusal (signal_tests m.message.signals s) ≡ None))
      (sym ((found_at (named message) net.live i at).1 ∙ fits.1)) fits.2

-- other signals leave a message its name and its identifier
pub alike_with : (m : LiveMessage) (signals : List Signal) → indexed_alike m (with_signals m signals) ≡ true
alike_with m signals = rw ((bytes_eq-Decides m.message.name m.message.name).1 refl, same_ident-itself m.message.ident)
    refl
