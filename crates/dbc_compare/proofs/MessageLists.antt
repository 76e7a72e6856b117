-- The differences of messages.
use Rattle.dbc_compare.proofs.Common.{◌≡◌, ◌++◌, ◌⊎◌, ◌∙◌, Bool, true, false, List, [], ◌∷◌, take, drop, Option, Some, None, inl, inr}
use Rattle.dbc_compare.proofs.Common.{refl, sym, ap, subst, flat_map, AreMessages, number_of, Message, Signal, partner}
use Rattle.dbc_compare.proofs.Common.{some_same}
use Rattle.std.proofs.Common.{◌||◌, nat_eq, not}
use Rattle.std.proofs.lemmas.Bool.Decides.{Decides-eqb}
use Rattle.std.proofs.lemmas.Slice.Eq.{slice_eq-Decides}
use Rattle.std.specs.Cmp.Lexicographic.{pointwise}
use Rattle.bitlayout.specs.Weight.{by_weight, same_bits}
use Rattle.bitlayout.specs.declared.layout.Layout.{Layout}
use Rattle.dbc_sheet.specs.Form.{KeepsMessage, IsSignal}
use Rattle.dbc_sheet.specs.Signals.{signal_name}
use Rattle.dbc_compare.specs.Differences.{below, between, by_numbers, differences_about, gone_message}
use Rattle.dbc_compare.specs.Differences.{message_changes, message_differences, pair_differences, shown_message}
use Rattle.dbc_compare.specs.Differences.{signal_changes}
use Rattle.dbc_compare.specs.Fields.{is_integer, message_breaks, message_fields, signal_breaks, signal_fields}
use Rattle.dbc_compare.specs.Laws.{swapped, swapped_change}
use Rattle.dbc_compare.specs.declared.difference.Alteration.{Alteration}
use Rattle.dbc_compare.specs.declared.difference.Alteration.TheVariants as change
use Rattle.dbc_compare.specs.declared.difference.Difference.{Difference}
use Rattle.dbc_compare.specs.declared.field.SheetField.{SheetField}
use Rattle.dbc_compare.specs.declared.field.SheetField.TheVariants as field
use Rattle.dbc_compare.proofs.ChangeLists.{AreAligned, both_empty, list_same, list_swapped}
use Rattle.dbc_compare.proofs.FieldsTold.{message_told, signal_told}
use Rattle.dbc_compare.proofs.Members.{In, all_in, empty_if_none, from_flat, in_alone, in_cons, in_drop, in_either}
use Rattle.dbc_compare.proofs.Members.{in_first, in_flat, in_later, in_left, in_parts, in_right, in_take, none_if_empty}
use Rattle.dbc_compare.proofs.ValueTests.{flip}
use Rattle.dbc_compare.proofs.PartnersBack.{one_list, partner_back, partner_in, partner_self}
use Rattle.dbc_compare.proofs.ThingLists.{about_empty, about_swapped, about_told, joined_empty, things_same}
use Rattle.dbc_compare.proofs.ThingLists.{things_swapped, things_told}

-- ---- what is among the messages by number

module _ (gone shown : Message → List Difference) where
  from_numbers : (old new : List Message) (d : Difference) → In d (by_numbers gone shown old new)
      → ((p : Message) × In p old × In d (gone p)) ⊎ ((m : Message) × In m new × In d (shown m))
  from_numbers old [] d h = inl (from_flat gone old d h)
  from_numbers old (m ∷ new) d h =
      by_place (in_either (flat_map gone (take (below (number_of m) old) old)) _ d h)
      (from_numbers (drop (below (number_of m) old) old) new d)
    where
      by_rest : ((p : Message) × In p (drop (below (number_of m) old) old) × In d (gone p))
          ⊎ ((q : Message) × In q new × In d (shown q))
          → ((p : Message) × In p old × In d (gone p)) ⊎ ((q : Message) × In q (m ∷ new) × In d (shown q))
      by_rest (inl it) = inl (it.0, in_drop (below (number_of m) old) old it.0 it.1, it.2)
      by_rest (inr it) = inr (it.0, in_later it.0 m new it.1, it.2)

      by_later : In d (shown m) ⊎ In d (by_numbers gone shown (drop (below (number_of m) old) old) new)
          → (In d (by_numbers gone shown (drop (below (number_of m) old) old) new)
          → ((p : Message) × In p (drop (below (number_of m) old) old) × In d (gone p))
          ⊎ ((q : Message) × In q new × In d (shown q)))
          → ((p : Message) × In p old × In d (gone p)) ⊎ ((q : Message) × In q (m ∷ new) × In d (shown q))
      by_later (inl here) rests = inr (m, in_first m m new refl, here)
      by_later (inr rest) rests = by_rest (rests rest)

      by_place : In d (flat_map gone (take (below (number_of m) old) old))
          ⊎ In d (shown m ++ by_numbers gone shown (drop (below (number_of m) old) old) new)
          → (In d (by_numbers gone shown (drop (below (number_of m) old) old) new)
          → ((p : Message) × In p (drop (below (number_of m) old) old) × In d (gone p))
          ⊎ ((q : Message) × In q new × In d (shown q)))
          → ((p : Message) × In p old × In d (gone p)) ⊎ ((q : Message) × In q (m ∷ new) × In d (shown q))
      by_place (inl first) rests =
          let it = from_flat gone (take (below (number_of m) old) old) d first in
          inl (it.0, in_take (below (number_of m) old) old it.0 it.1, it.2)
      by_place (inr later) rests = by_later (in_either (shown m) _ d later) rests

  pub to_gone : (old new : List Message) (p : Message) (d : Difference) → In p old → In d (gone p)
      → In d (by_numbers gone shown old new)
  to_gone old [] p d h k = in_flat gone old p d h k
  to_gone old (m ∷ new) p d h k = elim (in_parts (below (number_of m) old) old p h) [
    | inl first ↦ in_left (flat_map gone (take (below (number_of m) old) old)) _ d
        (in_flat gone (take (below (number_of m) old) old) p d first k)
    | inr rest ↦ in_right (flat_map gone (take (below (number_of m) old) old)) _ d
        (in_right (shown m) _ d (to_gone (drop (below (number_of m) old) old) new p d rest k))
  ]

  pub to_shown : (old new : List Message) (m : Message) (d : Difference) → In m new → In d (shown m)
      → In d (by_numbers gone shown old new)
  to_shown old [] m d h k = absurd (none_if_empty [] refl m h)
  to_shown old (n ∷ new) m d h k = elim (in_cons m n new h) [
    | inl e ↦ in_right (flat_map gone (take (below (number_of n) old) old)) _ d
        (in_left (shown n) _ d (subst (λ q. In d (shown q)) e k))
    | inr t ↦ in_right (flat_map gone (take (below (number_of n) old) old)) _ d
        (in_right (shown n) _ d (to_shown (drop (below (number_of n) old) old) new m d t k))
  ]

-- ---- a message and its partner

message_aligned : (a b : Message) → AreAligned (message_fields a) (message_fields b)
message_aligned a b = (refl, (refl, (refl, (refl, (refl, tt)))))

signal_aligned : (a b : Signal) → AreAligned (signal_fields a) (signal_fields b)
signal_aligned a b = (
  refl,
  (refl, (refl, (refl, (refl, (refl, (refl, (refl, (refl, (refl, (refl, (refl, (refl, (refl, (refl, tt)))))))))))))),
)

bits_flip : (a b : Layout) → same_bits a b ≡ same_bits b a
bits_flip a b =
    flip (pointwise nat_eq) (λ xs ys. slice_eq-Decides Decides-eqb xs ys _ refl) (by_weight a) (by_weight b)

or_flip : (b c : Bool) → (b || c) ≡ (c || b)
or_flip true true = refl
or_flip true false = refl
or_flip false c = or_none c
  where
    or_none : (d : Bool) → d ≡ (d || false)
    or_none true = refl
    or_none false = refl

-- what a receiver of a signal sees, it sees the other way round
seen_back : (a b : Signal) (f : SheetField) → signal_breaks a b f ≡ signal_breaks b a f
seen_back a b field.Start = ap not (bits_flip a.layout b.layout)
seen_back a b field.Size = ap not (bits_flip a.layout b.layout)
seen_back a b field.Order = ap not (bits_flip a.layout b.layout)
seen_back a b field.Signed = or_flip (is_integer a.value_type) (is_integer b.value_type)
seen_back a b field.ValueType = refl
seen_back a b field.Mux = refl
seen_back a b field.Factor = refl
seen_back a b field.Offset = refl
seen_back a b f = refl

signal_swapped : (a b : Signal) (c : Alteration) → In c (signal_changes a b) → In (swapped_change c) (signal_changes b a)
signal_swapped a b =
    list_swapped (signal_breaks a b) (signal_breaks b a) (seen_back a b) (signal_fields a) (signal_fields b)
    (signal_aligned a b)

pair_told : (p m : Message) → KeepsMessage p → KeepsMessage m → pair_differences p m ≡ [] → p ≡ m
unfolding pair_differences
pair_told p m keeps_p keeps_m empty =
    let parts = both_empty
    (differences_about (between p m) None (message_changes p m)) _ empty in
    let signals : p.signals ≡ m.signals =
    things_told signal_name signal_changes (between p m) p.signals m.signals keeps_p.well_formed.signals.apart
    (λ x y h k named e. signal_told x y (all_in IsSignal p.signals x keeps_p.form.signals h).mux
    (all_in IsSignal m.signals y keeps_m.form.signals k).mux named e) parts.1 in
    message_told p m keeps_p.form.ident keeps_m.form.ident (about_told (between p m) None _ parts.0) signals

pair_same : (m : Message) → KeepsMessage m → pair_differences m m ≡ []
unfolding pair_differences
pair_same m keeps =
    joined_empty (differences_about (between m m) None (message_changes m m)) _
    (about_empty (between m m) None _ (list_same message_breaks (message_fields m)))
    (things_same signal_name signal_changes (between m m) m.signals keeps.well_formed.signals.apart
    (λ s. list_same (signal_breaks s s) (signal_fields s)))

pair_swapped : (p m : Message) → KeepsMessage m → (d : Difference) → In d (pair_differences p m)
    → In (swapped d) (pair_differences m p)
unfolding pair_differences
pair_swapped p m keeps d h = elim
    (in_either (differences_about (between p m) None (message_changes p m)) _ d h) [
      | inl own ↦ in_left
          (differences_about (between m p) None (message_changes m p)) _ (swapped d)
          (about_swapped (between p m) None (message_changes p m)
          (message_changes m p) d own
          (list_swapped message_breaks message_breaks (λ f. refl) (message_fields p) (message_fields m)
          (message_aligned p m)))
      | inr signals ↦ in_right
          (differences_about (between m p) None (message_changes m p)) _ (swapped d)
          (things_swapped signal_name signal_changes (between p m) p.signals m.signals keeps.well_formed.signals.apart
          signal_swapped d signals)
    ]

-- ---- all messages

-- each message has its form
abbrev pub AllKeep : List Message → Type 0
AllKeep messages = (m : Message) → In m messages → KeepsMessage m

module _ (old new : List Message) (are_old : AreMessages old) (are_new : AreMessages new) (keep_old : AllKeep old)
    (keep_new : AllKeep new) where
  -- no difference

  own_partner : (m : Message) → In m new → (o : Option Message) → partner old new m ≡ o → shown_message o m ≡ []
      → partner old new m ≡ Some m
  own_partner m h None e empty =
      let added : change.Added ∷ [] ≡ [] = about_told (between m m) None (change.Added ∷ []) empty in cc added
  own_partner m h (Some p) e empty =
      e ∙ ap Some (pair_told p m (keep_old p (partner_in old new m p e)) (keep_new m h) empty)

  still_there : (p : Message) → In p old → (o : Option Message) → partner new old p ≡ o → gone_message o p ≡ []
      → ((m : Message) → In m new → partner old new m ≡ Some m) → In p new
  still_there p h None e empty own =
      let removed : change.Removed ∷ [] ≡ [] = about_told (between p p) None (change.Removed ∷ []) empty in cc removed
  still_there p h (Some q) e empty own =
      let there : In q new = partner_in new old p q e in
      let same : p ≡ q = some_same p q (sym (partner_back new old are_new are_old p q h e) ∙ own q there) in
      subst (λ m. In m new) (sym same) there

  pub messages_told : message_differences old new ≡ [] → old ≡ new
  messages_told empty =
      let gone : Message → List Difference = λ m. gone_message (partner new old m) m in
      let shown : Message → List Difference = λ m. shown_message (partner old new m) m in
      let own : (m : Message) → In m new → partner old new m ≡ Some m =
      λ m h. own_partner m h (partner old new m) refl
      (empty_if_none (shown m) (λ d k. none_if_empty _ empty d (to_shown gone shown old new m d h k))) in
      let there : (p : Message) → In p old → In p new =
      λ p h. still_there p h (partner new old p) refl
      (empty_if_none (gone p) (λ d k. none_if_empty _ empty d (to_gone gone shown old new p d h k))) own in
      one_list old new are_old.ascending are_new.ascending there (λ m h. partner_in old new m m (own m h))

  -- the other way round

  gone_back : (p : Message) → In p old → (o : Option Message) → partner new old p ≡ o → (d : Difference)
      → In d (gone_message o p)
      → In (swapped d) (message_differences new old)
  gone_back p h None e d k =
      let added : In (swapped d) (shown_message None p) =
      about_swapped (between p p) None (change.Removed ∷ []) (change.Added ∷ []) d k
      (λ c t. in_first (swapped_change c) change.Added [] (ap swapped_change (in_alone c change.Removed t))) in
      to_shown (λ m. gone_message (partner old new m) m) (λ m. shown_message (partner new old m) m) new old p
      (swapped d) h (subst (λ o. In (swapped d) (shown_message o p)) (sym e) added)
  gone_back p h (Some q) e d k = absurd (none_if_empty [] refl d k)

  shown_back : (m : Message) → In m new → (o : Option Message) → partner old new m ≡ o → (d : Difference)
      → In d (shown_message o m)
      → In (swapped d) (message_differences new old)
  shown_back m h None e d k =
      let removed : In (swapped d) (gone_message None m) =
      about_swapped (between m m) None (change.Added ∷ []) (change.Removed ∷ []) d k
      (λ c t. in_first (swapped_change c) change.Removed [] (ap swapped_change (in_alone c change.Added t))) in
      to_gone (λ q. gone_message (partner old new q) q) (λ q. shown_message (partner new old q) q) new old m (swapped d)
      h (subst (λ o. In (swapped d) (gone_message o m)) (sym e) removed)
  shown_back m h (Some p) e d k =
      let pair : In (swapped d) (shown_message (Some m) p) = pair_swapped p m (keep_new m h) d k in
      to_shown (λ q. gone_message (partner old new q) q) (λ q. shown_message (partner new old q) q) new old p
      (swapped d) (partner_in old new m p e)
      (subst (λ o. In (swapped d) (shown_message o p)) (sym (partner_back old new are_old are_new m p h e)) pair)

  pub messages_swapped : (d : Difference) → In d (message_differences old new)
      → In (swapped d) (message_differences new old)
  messages_swapped d h = elim
      (from_numbers (λ m. gone_message (partner new old m) m) (λ m. shown_message (partner old new m) m) old new d h) [
        | inl it ↦ gone_back it.0 it.1 (partner new old it.0) refl d it.2
        | inr it ↦ shown_back it.0 it.1 (partner old new it.0) refl d it.2
      ]

pub messages_same : (messages : List Message) → AreMessages messages → AllKeep messages
    → message_differences messages messages ≡ []
messages_same messages are keep =
    empty_if_none (message_differences messages messages)
    (λ d h. elim
    (from_numbers (λ m. gone_message (partner messages messages m) m)
    (λ m. shown_message (partner messages messages m) m) messages messages d h) [
      | inl it ↦ none_if_empty (gone_message (partner messages messages it.0) it.0)
          (ap (λ o. gone_message o it.0) (partner_self messages are it.0 it.1)) d it.2
      | inr it ↦ none_if_empty (shown_message (partner messages messages it.0) it.0)
          (ap (λ o. shown_message o it.0) (partner_self messages are it.0 it.1) ∙ pair_same it.0 (keep it.0 it.1))
          d it.2
    ])
