-- Messages whose signals change keep what every message keeps.
use Rattle.office_law.proofs.Common.{◌≡◌, ◌≤◌, ◌<◌, ◌∙◌, ◌&&◌, Bool, false, cond, ℕ, List, [], ◌∷◌, ◌++◌, length}
use Rattle.office_law.proofs.Common.{Option, Some, None, Contains, refl, sym, ap, subst, arith, nat_le, All, filter}
use Rattle.office_law.proofs.Common.{IfSome, is_none, bytes_eq, cond_both, leb-false, length-append, length-map}
use Rattle.office_law.proofs.Common.{All-filter, All-from_recursion, All-map, All-nil, All-push, All-weaker}
use Rattle.office_law.proofs.Common.{recursion_from_All, same_Some, first_clash_of, IsClear, is_multiplexor}
use Rattle.office_law.proofs.Common.{start_if_clear, Place, clear_from_none, found_first, roster_limit, spn_limit}
use Rattle.office_law.proofs.Common.{has_name, IsText, apart_and_last, IsSignal, KeepsMessage, IsClearMessage, place_of}
use Rattle.office_law.proofs.Common.{has_multiplexor, signal_is_multiplexor, places_of, at_signal, AreFewTexts, Signal}
use Rattle.office_law.proofs.Common.{TakeBits, LiveMessage, new_signal, place_at, start_given, start_tests}
use Rattle.office_law.proofs.Common.{with_signals}
use Rattle.std.specs.Prelude.{◌^◌}
use Rattle.std.proofs.lemmas.List.{map-append}
use Rattle.std.proofs.lemmas.Option.{cond_some}
use Rattle.bitlayout.proofs.Search.{none_at}
use Rattle.dbc_words.specs.Limits.{start_limit}
use Rattle.dbc_words.proofs.Naming.{distinct-filter}
use Rattle.dbc_sheet.specs.Form.{IsValueText}
use Rattle.dbc_sheet.specs.Signals.{AreSignals, signal_name}
use Rattle.dbc_sheet.specs.declared.value_texts.ValueText.{ValueText}
use Rattle.dbc_sheet.proofs.Multiplexors.{any_both}
use Rattle.office_types.specs.Command.{IsTakeBits}
use Rattle.office_law.proofs.Lists.{IsDistinct-map, Looks, All-from_contains, length-filter_le, none_from_is}
use Rattle.office_law.proofs.NoTestHolds.{NoneHolds}

-- no bytes are a text
pub IsText-empty : IsText []
IsText-empty = record { pieces = []; each = tt; whole = refl }

-- what the signals of a message keep
pub record KeptSignals (signals : List Signal) : Type 0 where
  pub together : AreSignals signals
  pub forms : All IsSignal signals
  pub few : All (λ s. AreFewTexts s.values) signals

pub kept_signals : (m : LiveMessage) → KeepsMessage m.message → KeptSignals m.message.signals
kept_signals m h = record {
  together = h.well_formed.signals;
  forms = h.form.signals;
  few =
      All-from_recursion _ m.message.signals h.well_formed.values;
}

pub with_kept : (m : LiveMessage) (signals : List Signal) → KeepsMessage m.message → KeptSignals signals
    → KeepsMessage (with_signals m signals).message
with_kept m signals h k = record {
  form = record {
    ident = h.form.ident;
    named = h.form.named;
    length = h.form.length;
    transmitter = h.form.transmitter;
    comment = h.form.comment;
    signals = k.forms;
  };
  well_formed = record { signals = k.together; values = recursion_from_All (λ s. AreFewTexts s.values) signals k.few };
}

-- A signal that changes in other things than its name and its place.
module _ (change : Signal → Signal) (name : List ℕ) where
  abbrev changed : Signal → Signal
  changed s = cond (bytes_eq s.name name) (change s) s

  same_part : {B : Type 0} (part : Signal → B) → ((s : Signal) → part (change s) ≡ part s) → (s : Signal)
      → part (changed s) ≡ part s
  same_part part same s = cond_both (bytes_eq s.name name) (change s) s (λ t. part t ≡ part s) (λ _. same s) (λ _. refl)

  pub signals_changed : (signals : List Signal) → KeptSignals signals → ((s : Signal) → (change s).name ≡ s.name)
      → ((s : Signal) → (change s).mux ≡ s.mux)
      → ((s : Signal) → IsSignal s → IsSignal (change s))
      → ((s : Signal) → AreFewTexts s.values → AreFewTexts (change s).values)
      → KeptSignals (at_signal change name signals)
  signals_changed signals k same_name same_mux keeps few = record {
    together = record {
      apart = IsDistinct-map (λ a b. bytes_eq (signal_name a) (signal_name b)) changed signals
          (recursion_from_All _ signals (All-from_contains _ signals (λ s _. names s))) k.together.apart;
      one_multiplexor = IsDistinct-map (λ a b. signal_is_multiplexor a && signal_is_multiplexor b) changed signals
          (recursion_from_All _ signals (All-from_contains _ signals (λ s _. switches s))) k.together.one_multiplexor;
      few = subst (λ n. n ≤ roster_limit) (sym (length-map signals changed)) k.together.few;
    };
    forms = All-map IsSignal changed signals
        (All-weaker IsSignal (λ s. IsSignal (changed s))
        (λ s h. cond_both (bytes_eq s.name name) (change s) s IsSignal (λ _. keeps s h) (λ _. h)) signals k.forms);
    few = All-map (λ s. AreFewTexts s.values) changed signals
        (All-weaker (λ s. AreFewTexts s.values) (λ s. AreFewTexts (changed s).values)
        (λ s h. cond_both (bytes_eq s.name name) (change s) s (λ t. AreFewTexts t.values) (λ _. few s h) (λ _. h))
        signals k.few);
  }
    where
      names : (s : Signal) → Looks (λ (a b : Signal). bytes_eq (signal_name a) (signal_name b)) changed s
      names s = record {
        left = λ b. ap (λ n. bytes_eq n (signal_name b)) (same_part signal_name same_name s);
        right = λ b. ap (λ n. bytes_eq (signal_name b) n) (same_part signal_name same_name s);
      }

      switches : (s : Signal) → Looks (λ (a b : Signal). signal_is_multiplexor a && signal_is_multiplexor b) changed s
      switches s = record {
        left = λ b. ap (λ m. is_multiplexor m && signal_is_multiplexor b) (same_part (λ t. t.mux) same_mux s);
        right = λ b. ap (λ m. signal_is_multiplexor b && is_multiplexor m) (same_part (λ t. t.mux) same_mux s);
      }

  -- what holds of each signal, changed or not
  pub All-at_signal : (P : Signal → Type 0) (signals : List Signal) → ((s : Signal) → Contains signals s → P (change s))
      → ((s : Signal) → Contains signals s → P s) → All P (at_signal change name signals)
  All-at_signal P signals new old =
      All-map P changed signals
      (All-from_contains (λ s. P (changed s)) signals
      (λ s c. cond_both (bytes_eq s.name name) (change s) s P (λ _. new s c) (λ _. old s c)))

pub IsSignal-spn : (s : Signal) (n : ℕ) → IsSignal s → n ≤ spn_limit → IsSignal (record s { spn = n })
IsSignal-spn s n h few = record {
  named = h.named;
  layout = h.layout;
  mux = h.mux;
  factor = h.factor;
  offset = h.offset;
  minimum = h.minimum;
  maximum = h.maximum;
  unit = h.unit;
  receivers = h.receivers;
  comment = h.comment;
  spn = few;
  values = h.values;
}

pub IsSignal-values : (s : Signal) (values : List ValueText) → IsSignal s → All IsValueText values
    → IsSignal (record s { values = values })
IsSignal-values s values h each = record {
  named = h.named;
  layout = h.layout;
  mux = h.mux;
  factor = h.factor;
  offset = h.offset;
  minimum = h.minimum;
  maximum = h.maximum;
  unit = h.unit;
  receivers = h.receivers;
  comment = h.comment;
  spn = h.spn;
  values = each;
}

-- One signal more, the last.

pub IsSignal-new : (c : TakeBits) (start : ℕ) → IsTakeBits c → start ≤ start_limit → IsSignal (new_signal c start)
IsSignal-new c start h small = record {
  named = h.path.signal;
  layout = record { start = small; least = h.least; most = h.most };
  mux = h.mux;
  factor = h.factor;
  offset = h.offset;
  minimum = h.minimum;
  maximum = h.maximum;
  unit = h.unit;
  receivers = h.receivers;
  comment = IsText-empty;
  spn = omega arith;
  values = All-nil IsValueText;
}

pub signals_pushed : (signals : List Signal) (s : Signal) → KeptSignals signals → IsSignal s → AreFewTexts s.values
    → has_name signal_name signals s.name ≡ false
    → nat_le roster_limit (length signals) ≡ false → (is_multiplexor s.mux && has_multiplexor signals) ≡ false
    → KeptSignals (signals ++ s ∷ [])
signals_pushed signals s k form texts new room switch = record {
  together = record {
    apart = apart_and_last (λ a b. bytes_eq (signal_name a) (signal_name b)) signals s k.together.apart new;
    one_multiplexor = apart_and_last (λ a b. signal_is_multiplexor a && signal_is_multiplexor b) signals s
        k.together.one_multiplexor (any_both signal_is_multiplexor (signal_is_multiplexor s) signals ∙ switch);
    few = let l = length-append signals (s ∷ []) in let below = leb-false _ (length signals) room in
        omega (arith, l, below);
  };
  forms = All-push IsSignal signals s k.forms form;
  few = All-push (λ t. AreFewTexts t.values) signals s k.few texts;
}

-- a start that is given leaves the places clear
pub clear_start : (places : List Place) (bytes : ℕ) (c : TakeBits) (want : Option ℕ) (start : ℕ)
    → NoneHolds (start_tests places bytes (record c { start = want }))
    → start_given places bytes (record c { start = want }) ≡ Some start
    → IsClear (places ++ place_at c start ∷ []) bytes
clear_start places bytes c (Some n) start h e =
    let none = none_at (first_clash_of (places ++ place_at c n ∷ []) bytes) h.1.0 in
    subst (λ (o : Option ℕ). IfSome o (λ v. IsClear (places ++ place_at c v ∷ []) bytes)) e
    (clear_from_none (places ++ place_at c n ∷ []) bytes none)
clear_start places bytes c None start h e =
    let found = found_first (start_if_clear places bytes c.size c.order c.mux) _ start e in
    let parts = cond_some (is_none (first_clash_of (places ++ place_at c found.index ∷ []) bytes)) found.index start
    found.at in
    subst (λ v. IsClear (places ++ place_at c v ∷ []) bytes) parts.1
    (clear_from_none (places ++ place_at c found.index ∷ []) bytes (none_from_is _ parts.0))

-- and it is a bit position
pub small_start : (places : List Place) (bytes : ℕ) (c : TakeBits) (want : Option ℕ) (start : ℕ)
    → IfSome want (λ n. n < 2 ^ 16)
    → start_given places bytes (record c { start = want }) ≡ Some start → start ≤ start_limit
small_start places bytes c (Some n) start h e = let same : n ≡ start = same_Some n start e in omega (arith, h, same)
small_start places bytes c None start h e =
    let found = found_first (start_if_clear places bytes c.size c.order c.mux) _ start e in
    let same = (cond_some (is_none (first_clash_of (places ++ place_at c found.index ∷ []) bytes)) found.index start
    found.at).1 in
    let below = found.below in
    omega (arith, same, below)

pub clear_pushed : (m : LiveMessage) (s : Signal)
    → IsClear (places_of m.message.signals ++ place_of s ∷ []) m.message.length
    → IsClearMessage (with_signals m (m.message.signals ++ s ∷ [])).message
clear_pushed m s h = subst (λ ps. IsClear ps m.message.length) (sym (map-append place_of m.message.signals (s ∷ []))) h

-- Some of the signals.

pub signals_kept : (p : Signal → Bool) (signals : List Signal) → KeptSignals signals → KeptSignals (filter p signals)
signals_kept p signals k = record {
  together = record {
    apart = distinct-filter (λ a b. bytes_eq (signal_name a) (signal_name b)) p signals k.together.apart;
    one_multiplexor = distinct-filter (λ a b. signal_is_multiplexor a && signal_is_multiplexor b) p signals
        k.together.one_multiplexor;
    few = let l = length-filter_le p signals in let few = k.together.few in omega (arith, l, few);
  };
  forms = All-filter p IsSignal signals k.forms;
  few = All-filter p (λ s. AreFewTexts s.values) signals k.few;
}
