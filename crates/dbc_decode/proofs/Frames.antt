-- What is read from frames.
use Rattle.dbc_decode.proofs.Common.{◌≡◌, ◌==◌, ◌∙◌, true, ℕ, List, length, Option, Some, None, refl, sym, ap, subst}
use Rattle.dbc_decode.proofs.Common.{Contains, cond-true, IsSheet, IsClearMessage, number_of, Message, Sheet, Signal}
use Rattle.dbc_decode.proofs.Common.{some_none, In, all_in, from_map, in_from, in_map, in_to}
use Rattle.std.proofs.Common.{map}
use Rattle.dbc_sheet.specs.Messages.{message_at}
use Rattle.can_id.specs.Ident.{dbc_number}
use Rattle.dbc_compare.proofs.PartnersBack.{found_number, number_found}
use Rattle.dbc_decode.specs.Decoding.{Decoded, Frame, Read, decode_as, read}
use Rattle.dbc_decode.specs.Laws.{IsTheSame, SaysAsMuch, Serves, UnmarkedFramesAreRead, UnmarkedIsRead}
use Rattle.dbc_decode.proofs.Alike.{if_some}
use Rattle.dbc_decode.proofs.Unmarked.{unmarked_read}

said : List ℕ → Message → Decoded
said payload m = record {
  message = m.name;
  signals = map (λ (s : Signal). record { signal = s.name; value = read m.signals payload s }) m.signals;
}

read_said : (payload : List ℕ) (m p : Message) → Serves m p → IsClearMessage m → (r : Read)
    → In r (said payload m).signals → In r (said payload p).signals
unfolding said
read_said payload m p serves clear r h =
    let it = from_map (λ (s : Signal). record { signal = s.name; value = read m.signals payload s }) m.signals r h in
    let other = serves.signals it.0 (in_to m.signals it.0 it.1) in
    let names : (other.0).name ≡ (it.0).name = other.2.named in
    let values : read m.signals payload it.0 ≡ read p.signals payload other.0 = other.2.all clear payload in
    let same : record { signal = (other.0).name; value = read p.signals payload other.0 } ≡ r =
    (λ i. record { signal = names i; value = sym values i }) ∙ sym it.2 in
    subst (λ (q : Read). In q (said payload p).signals) same
    (in_map (λ (s : Signal). record { signal = s.name; value = read p.signals payload s }) p.signals other.0
    (in_from p.signals other.0 other.1))

module _ (old new : Sheet) (is_old : IsSheet old) (is_new : IsSheet new) where
  by_message : UnmarkedIsRead old new → (f : Frame) (o : Option Message)
      → message_at old.messages (dbc_number f.ident) ≡ o
      → ((m : Message) → In m old.messages → IsClearMessage m)
      → ((m : Message) → Contains old.messages m
      → (p : Message) × Contains new.messages p × Serves m p × IsTheSame old new m p)
      → (before : Decoded) → decode_as f o ≡ Some before
      → (after : Decoded) × (decode_as f (message_at new.messages (dbc_number f.ident)) ≡ Some after)
      × SaysAsMuch before after
  unfolding said
  by_message law f None e clear served before d = absurd (some_none before (sym d))
  by_message law f (Some m) e clear served before d =
      let there = number_found old.messages (dbc_number f.ident) m e in
      let serving = served m (in_to old.messages m there.0) in
      let p : Message = serving.0 in
      let number : number_of p ≡ dbc_number f.ident = ap dbc_number serving.2.ident ∙ there.1 in
      let found : message_at new.messages (dbc_number f.ident) ≡ Some p =
      found_number new.messages is_new.well_formed.together p (in_from new.messages p serving.1)
      (dbc_number f.ident) number in
      let parts = if_some (length f.payload == m.length) (said f.payload m) before d in
      let fits : (length f.payload == p.length) ≡ true =
      ap (λ n. length f.payload == n) serving.2.length ∙ parts.0 in (
        said f.payload p,
        ap (decode_as f) found ∙ cond-true (length f.payload == p.length) (Some (said f.payload p)) None fits,
        record {
          each = λ r h. in_to (said f.payload p).signals r
              (read_said f.payload m p serving.2 (clear m there.0) r
              (subst (λ (q : Decoded). In r q.signals) (sym parts.1) (in_from before.signals r h)));
        },
      )

  pub frames_read : UnmarkedFramesAreRead old new
  frames_read none clear f before e =
      by_message (unmarked_read old new is_old is_new) f (message_at old.messages (dbc_number f.ident)) refl
      (λ m h. all_in IsClearMessage old.messages m clear h) (unmarked_read old new is_old is_new none) before e
