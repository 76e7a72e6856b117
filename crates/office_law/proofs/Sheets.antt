-- Live sheets with a message more, with one in place of another, and without one.
use Rattle.office_law.proofs.Common.{◌≡◌, ◌≤◌, ◌<◌, ◌==◌, ◌∙◌, not, Bool, false, ℕ, zero, suc, List, [], ◌∷◌, map}
use Rattle.office_law.proofs.Common.{length, get_or, Contains, refl, sym, ap, subst, arith, All, filter, bytes_eq}
use Rattle.office_law.proofs.Common.{cond_both, Decides-eqb, nat_cmp_total, on_total, All-contains, All-filter}
use Rattle.office_law.proofs.Common.{All-from_recursion, recursion_from_All, IsStrictlySortedBy-filter, put, All-put}
use Rattle.office_law.proofs.Common.{IsStrictlySortedBy-put, length-put, dbc_number, Ident, message_limit}
use Rattle.office_law.proofs.Common.{AreNamedApart, has_name, apart-filter, IsMessage, IsSheet, KeepsMessage}
use Rattle.office_law.proofs.Common.{IsClearMessage, message_name, number_of, Message, Sheet, IsPlainName}
use Rattle.office_law.proofs.Common.{live_messages, sheet_with, LiveMessage, has_ident, same_ident, AreLive}
use Rattle.dbc_sheet.specs.Messages.{AreMessages, by_number}
use Rattle.dbc_sheet.specs.WellFormed.{IsWellFormedMessage}
use Rattle.office_types.specs.State.{by_number as live_by_number}
use Rattle.office_law.proofs.Lists.{IsDistinct-map, Looks, All-from_contains, Contains-later, apart-put}
use Rattle.office_law.proofs.Lists.{length-filter_le, map-filter, map-put, one_of_key}
use Rattle.office_law.proofs.ReplacedItem.{in_place, length-put_replaced, put-replaced}

-- Messages.

pub messages-put : (ms : List Message) (m : Message) → AreMessages ms → has_name message_name ms m.name ≡ false
    → length ms < message_limit → AreMessages (put by_number m ms)
messages-put ms m h new few = record {
  ascending = IsStrictlySortedBy-put by_number (on_total number_of nat_cmp_total) m ms h.ascending;
  apart = apart-put by_number message_name m ms h.apart new;
  few = let l = length-put by_number m ms in omega (arith, l, few);
}

-- one of the messages is replaced by one of its number and its name
pub messages-replaced : (ms : List Message) (old m : Message) → AreMessages ms → Contains ms old → old.ident ≡ m.ident
    → old.name ≡ m.name → AreMessages (put by_number m ms)
messages-replaced ms old m h there ident name =
    let number : number_of old ≡ number_of m = ap dbc_number ident in
    record {
      ascending = IsStrictlySortedBy-put by_number (on_total number_of nat_cmp_total) m ms h.ascending;
      apart = subst (AreNamedApart message_name) (sym (put-replaced number_of m old ms h.ascending there number))
          (IsDistinct-map (λ a b. bytes_eq a.name b.name) (in_place number_of m) ms
          (recursion_from_All _ ms (All-from_contains _ ms (looks_same number))) h.apart);
      few = subst (λ n. n ≤ message_limit) (sym (length-put_replaced number_of m old ms h.ascending there number))
          h.few;
    }
  where
    same_name : (k : number_of old ≡ number_of m) (a : Message) → Contains ms a → (in_place number_of m a).name ≡ a.name
    same_name k a c =
        cond_both (number_of a == number_of m) m a (λ v. v.name ≡ a.name)
        (λ t. sym name ∙ ap (λ v. v.name)
        (one_of_key number_of ms h.ascending old a there c
        (k ∙ sym ((Decides-eqb (number_of a) (number_of m)).0 t))))
        (λ _. refl)

    looks_same : (k : number_of old ≡ number_of m) (a : Message) → Contains ms a
        → Looks (λ (a b : Message). bytes_eq a.name b.name) (in_place number_of m) a
    looks_same k a c = record {
      left = λ b. ap (λ n. bytes_eq n b.name) (same_name k a c);
      right = λ b. ap (λ n. bytes_eq b.name n) (same_name k a c);
    }

pub messages-filter : (p : Message → Bool) (ms : List Message) → AreMessages ms → AreMessages (filter p ms)
messages-filter p ms h = record {
  ascending = IsStrictlySortedBy-filter by_number p ms h.ascending;
  apart = apart-filter message_name p ms h.apart;
  few = let l = length-filter_le p ms in let few = h.few in omega (arith, l, few);
}

-- Sheets.

pub IsSheet-with : (s : Sheet) (ms : List Message) → IsSheet s → AreMessages ms → All IsWellFormedMessage ms
    → All IsMessage ms → IsSheet (record s { messages = ms })
IsSheet-with s ms h together formed forms = record {
  well_formed = record {
    nodes = h.well_formed.nodes;
    tables = h.well_formed.tables;
    entries = h.well_formed.entries;
    together = together;
    messages = recursion_from_All IsWellFormedMessage ms formed;
  };
  version = h.version;
  comment = h.comment;
  nodes = h.nodes;
  tables = h.tables;
  messages = forms;
}

pub each_formed : (s : Sheet) → IsSheet s → All IsWellFormedMessage s.messages
each_formed s h = All-from_recursion IsWellFormedMessage s.messages h.well_formed.messages

-- each message of a sheet keeps what every message does
pub keeps_message : (s : Sheet) (m : Message) → IsSheet s → Contains s.messages m → KeepsMessage m
keeps_message s m h c = record {
  form = All-contains IsMessage s.messages m h.messages c;
  well_formed =
      All-contains IsWellFormedMessage s.messages m (each_formed s h) c;
}

-- Live messages.

pub Contains-map : {A B : Type 0} (f : A → B) (xs : List A) (x : A) → Contains xs x → Contains (map f xs) (f x)
Contains-map f xs x c = at_index xs c.0 c.1 c.2
  where
    at_index : (ys : List _) (k : ℕ) → k < length ys → get_or ys k x ≡ x → Contains (map f ys) (f x)
    at_index [] k lt e = absurd (omega arith)
    at_index (y ∷ ys) zero lt e = (0, omega arith, ap f e)
    at_index (y ∷ ys) (suc k) lt e = let c = at_index ys k (omega arith) e in Contains-later (f y) (f x) (map f ys) c

pub live_put : (m : LiveMessage) (live : List LiveMessage)
    → live_messages (put live_by_number m live) ≡ put by_number m.message (live_messages live)
live_put m live = map-put live_by_number by_number (λ (l : LiveMessage). l.message) (λ a b. refl) m live

-- a message is put among live messages
pub AreLive-put : (frame : Sheet) (live : List LiveMessage) (m : LiveMessage) → AreLive frame live
    → KeepsMessage m.message → IsPlainName m.owner → IsClearMessage m.message
    → AreMessages (put by_number m.message (live_messages live)) → AreLive frame (put live_by_number m live)
AreLive-put frame live m h form owner clear together = record {
  sheet = subst (λ ms. IsSheet (record frame { messages = ms })) (sym (live_put m live))
      (IsSheet-with (sheet_with frame live) (put by_number m.message (live_messages live)) h.sheet together
      (All-put IsWellFormedMessage by_number m.message (live_messages live) form.well_formed
      (each_formed (sheet_with frame live) h.sheet))
      (All-put IsMessage by_number m.message (live_messages live) form.form h.sheet.messages));
  clear = subst (All IsClearMessage) (sym (live_put m live))
      (All-put IsClearMessage by_number m.message (live_messages live) clear h.clear);
  owned = All-put (λ o. IsPlainName o.owner) live_by_number m live owner h.owned;
}

-- one of the live messages is taken out
pub AreLive-without : (frame : Sheet) (live : List LiveMessage) (i : Ident) → AreLive frame live
    → AreLive frame (filter (λ m. not (has_ident i m)) live)
AreLive-without frame live i h =
    let kept : Message → Bool = λ m. not (same_ident m.ident i) in
    let same : live_messages (filter (λ m. not (has_ident i m)) live) ≡ filter kept (live_messages live) =
    map-filter (λ (l : LiveMessage). l.message) (λ m. not (has_ident i m)) kept (λ a. refl) live in
    record {
      sheet = subst (λ ms. IsSheet (record frame { messages = ms })) (sym same)
          (IsSheet-with (sheet_with frame live) (filter kept (live_messages live)) h.sheet
          (messages-filter kept (live_messages live) h.sheet.well_formed.together)
          (All-filter kept IsWellFormedMessage (live_messages live) (each_formed (sheet_with frame live) h.sheet))
          (All-filter kept IsMessage (live_messages live) h.sheet.messages));
      clear = subst (All IsClearMessage) (sym same) (All-filter kept IsClearMessage (live_messages live) h.clear);
      owned = All-filter (λ m. not (has_ident i m)) (λ m. IsPlainName m.owner) live h.owned;
    }
