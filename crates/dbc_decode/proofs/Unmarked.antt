-- Where no difference breaks a receiver, each message of the old sheet is served.
use Rattle.dbc_decode.proofs.Common.{◌≡◌, ◌⊎◌, ◌∙◌, ℕ, List, [], Option, Some, None, inl, inr, refl, sym, ap, subst}
use Rattle.dbc_decode.proofs.Common.{Contains, both_ways, true≢false, is_multiplexor, none_found, find, Multiplexor}
use Rattle.dbc_decode.proofs.Common.{Under, IsSheet, IsSignal, IsClearMessage, signal_is_multiplexor}
use Rattle.dbc_decode.proofs.Common.{Message, Sheet, Signal, differences, message_fields}
use Rattle.dbc_decode.proofs.Common.{signal_fields, Difference}
use Rattle.dbc_decode.proofs.Common.{whole_is, In, all_in, from_map, in_first, in_from, in_map, in_to}
use Rattle.dbc_decode.proofs.Common.{all_keep, bytes_eq, found_named, has_name}
use Rattle.dbc_sheet.specs.Messages.{message_name}
use Rattle.std.specs.List.{list_any}
use Rattle.dbc_sheet.specs.Form.{KeepsMessage}
use Rattle.dbc_sheet.specs.Signals.{places_of, signal_name}
use Rattle.dbc_compare.specs.Differences.{between, gone_message, shown_message, by_numbers, differences_about}
use Rattle.dbc_compare.specs.Differences.{pair_differences, sheet_differences, thing_differences}
use Rattle.dbc_compare.specs.Differences.{message_changes, node_changes, signal_changes, table_changes}
use Rattle.dbc_compare.specs.Fields.{message_breaks, signal_breaks}
use Rattle.dbc_compare.specs.List.{is_breaking}
use Rattle.dbc_compare.proofs.FieldsTold.{ident_told}
use Rattle.dbc_compare.proofs.Members.{any_in}
use Rattle.dbc_compare.proofs.MessageLists.{to_gone, to_shown}
use Rattle.bitlayout.specs.Clear.{IsClear}
use Rattle.bitlayout.specs.declared.place.Place.{Place}
use Rattle.dbc_sheet.specs.Signal.{place_of}
use Rattle.dbc_sheet.specs.Sheet.{node_name, table_name}
use Rattle.dbc_sheet.specs.Pairs.{partner}
use Rattle.dbc_compare.specs.declared.difference.Alteration.TheVariants as change
use Rattle.dbc_compare.specs.declared.place.Region.TheVariants as place
use Rattle.dbc_compare.proofs.PartnersBack.{partner_back, partner_in, which_way}
use Rattle.dbc_decode.specs.Decoding.{Reading, chosen, pattern_in, read}
use Rattle.dbc_decode.specs.Laws.{IsReadAs, IsTheSame, NoneBreaks, Serves, UnmarkedIsRead}
use Rattle.dbc_decode.specs.Marks.{ReadsAs}
use Rattle.dbc_decode.proofs.Alike.{both_there, chosen_alike, meant_alike, read_alike}
use Rattle.dbc_decode.proofs.Quiet.{MarkedSame, Quiet, IsByMark, fields_same, quiet_about, quiet_left, quiet_right}
use Rattle.dbc_decode.proofs.Quiet.{things_quiet}
use Rattle.dbc_decode.proofs.Seen.{signal_same}

-- ---- messages

-- a signal of a clear message without a multiplexor doesn't hang on one
free_of_none : (signals : List Signal) (bytes : ℕ) (s : Signal) → In s signals → IsClear (places_of signals) bytes
    → find signal_is_multiplexor signals ≡ None → (v : ℕ) → s.mux ≡ Under v → ⊥
free_of_none signals bytes s h clear none v under =
    let place : Contains (places_of signals) (place_of s) =
    in_to (places_of signals) (place_of s) (in_map place_of signals s h) in
    let some = clear.multiplexor (place.0, place_of s, place.1, place.2, (v, under)) in
    let its = from_map place_of signals some.1 (in_from (places_of signals) some.1 (some.0, some.2, some.3)) in
    let is : (place_of its.0).mux ≡ Multiplexor = ap (λ (q : Place). q.mux) (sym its.2) ∙ some.4 in
    both_ways (list_any signal_is_multiplexor signals) (none_found signal_is_multiplexor signals none)
    (any_in signal_is_multiplexor signals its.0 its.1 (ap is_multiplexor is))

removed_there : (m : Message)
    → In (record { place = between m m; name = None; change = change.Removed }) (gone_message None m)
unfolding differences_about
removed_there m = in_first _ _ [] refl

module _ (m p : Message) (keep_m : KeepsMessage m) (keep_p : KeepsMessage p)
    (quiet : Quiet (pair_differences m p)) where
  here_marks : IsByMark (is_breaking (between m p))
  here_marks f b old new = refl

  own_quiet : MarkedSame message_breaks (message_fields m) (message_fields p)
  unfolding pair_differences
  own_quiet =
      fields_same (is_breaking (between m p)) here_marks message_breaks (message_fields m) (message_fields p)
      (quiet_about (between m p) None _
      (quiet_left (differences_about (between m p) None (message_changes m p)) _ quiet))

  each_like : (s : Signal) → In s m.signals → (t : Signal) × In t p.signals × (t.name ≡ s.name) × ReadsAs s t
  unfolding pair_differences
  each_like s h =
      let it = things_quiet signal_name signal_changes (between m p) refl m.signals p.signals
      keep_m.well_formed.signals.apart
      (quiet_right (differences_about (between m p) None (message_changes m p)) _ quiet) s h in (
        it.0,
        it.1,
        it.2,
        signal_same s it.0 (all_in IsSignal m.signals s keep_m.form.signals h)
            (all_in IsSignal p.signals it.0 keep_p.form.signals it.1)
            (fields_same (is_breaking (between m p)) here_marks (signal_breaks s it.0) (signal_fields s)
            (signal_fields it.0) it.3),
      )

  multiplexor_alike : (payload : List ℕ)
      → (find signal_is_multiplexor m.signals ≡ None) ⊎ (chosen m.signals payload ≡ chosen p.signals payload)
  multiplexor_alike payload =
      chosen_alike m.signals p.signals keep_p.well_formed.signals.one_multiplexor
      (λ s h. let it = each_like s h in (it.0, it.1, it.3)) payload

  meant_by : (s t : Signal) → ReadsAs s t → (payload : List ℕ) (r : Reading)
      → read m.signals payload s ≡ Some r → read p.signals payload t ≡ Some r
  meant_by s t like payload r e = elim (multiplexor_alike payload) [
    | inl none ↦ meant_alike m.signals p.signals payload s t like (ap (pattern_in payload) none) r e
    | inr says ↦ sym (read_alike m.signals p.signals payload s t like says) ∙ e
  ]

  -- in a clear message without a multiplexor no signal hangs on it
  all_by : (s t : Signal) → In s m.signals → ReadsAs s t → IsClearMessage m → (payload : List ℕ)
      → read m.signals payload s ≡ read p.signals payload t
  all_by s t h like clear payload = elim (multiplexor_alike payload) [
    | inl none ↦ both_there m.signals p.signals payload s t like (free_of_none m.signals m.length s h clear none)
    | inr says ↦ read_alike m.signals p.signals payload s t like says
  ]

  signals_read : (s : Signal) → In s m.signals → (t : Signal) × Contains p.signals t × IsReadAs m p s t
  signals_read s h =
      let it = each_like s h in (
        it.0,
        in_to p.signals it.0 it.1,
        record { named = it.2; meant = meant_by s it.0 it.3; all = all_by s it.0 h it.3 },
      )

  message_ident : p.ident ≡ m.ident
  message_ident =
      sym (ident_told m.ident p.ident keep_m.form.ident keep_p.form.ident (whole_is _ _ (own_quiet.0 refl)))

  message_length : p.length ≡ m.length
  message_length = sym (whole_is _ _ (own_quiet.1.1.0 refl))

  pair_serves : Serves m p
  pair_serves = record {
    ident = message_ident;
    length = message_length;
    signals = λ s h. signals_read s (in_from m.signals s h);
  }

-- ---- all messages

module _ (old new : Sheet) (is_old : IsSheet old) (is_new : IsSheet new) (none : NoneBreaks old new) where
  gone : Message → List Difference
  gone m = gone_message (partner new.messages old.messages m) m

  shown : Message → List Difference
  shown m = shown_message (partner old.messages new.messages m) m

  quiet_messages : Quiet (by_numbers gone shown old.messages new.messages)
  unfolding gone shown
  quiet_messages =
      quiet_right (thing_differences place.Tables table_name table_changes old.tables new.tables) _
      (quiet_right (thing_differences place.Nodes node_name node_changes old.nodes new.nodes) _
      (quiet_right (sheet_differences old new) _ (λ d k. none d (in_to (differences old new) d k))))

  by_partner : (m : Message) → In m old.messages → (o : Option Message) → partner new.messages old.messages m ≡ o
      → (p : Message) × (partner new.messages old.messages m ≡ Some p) × In p new.messages × Serves m p
  unfolding gone shown
  by_partner m h None e =
      let removed : Difference = record { place = between m m; name = None; change = change.Removed } in
      let lost : In removed (gone m) = subst (λ o. In removed (gone_message o m)) (sym e) (removed_there m) in
      absurd (true≢false (quiet_messages removed (to_gone gone shown old.messages new.messages m removed h lost)))
  by_partner m h (Some p) e =
      let there : In p new.messages = partner_in new.messages old.messages m p e in
      let back : partner old.messages new.messages p ≡ Some m =
      partner_back new.messages old.messages is_new.well_formed.together is_old.well_formed.together m p h e in
      let pair : Quiet (pair_differences m p) =
      λ d k. quiet_messages d
      (to_shown gone shown old.messages new.messages p d there (subst (λ o. In d (shown_message o p)) (sym back) k)) in
      (p, e, there, pair_serves m p (all_keep old is_old m h) (all_keep new is_new p there) pair)

-- who it is
the_same : (old new : Sheet) (m p : Message) → partner new.messages old.messages m ≡ Some p → IsTheSame old new m p
the_same old new m p e = elim (which_way new.messages old.messages m p e) [
  | inl n ↦ let named : p.name ≡ m.name = (found_named message_name new.messages m.name p n).1 in
      record { renamed = λ h. named; new_name = λ h. named }
  | inr r ↦ record {
    renamed = λ h. absurd (both_ways (has_name message_name new.messages m.name)
        (none_found (λ q. bytes_eq (message_name q) m.name) new.messages r.0) h);
    new_name = λ h. absurd (both_ways (has_name message_name old.messages p.name) r.2 h);
  }
]

pub unmarked_read : (old new : Sheet) → IsSheet old → IsSheet new → UnmarkedIsRead old new
unmarked_read old new is_old is_new none m h =
    let it = by_partner old new is_old is_new none m (in_from old.messages m h) (partner new.messages old.messages m)
    refl in
    (it.0, in_to new.messages it.0 it.2, it.3, the_same old new m it.0 it.1)
