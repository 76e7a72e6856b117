-- Signals whose bits, coding, presence, factor and offset are the same are read alike.
use Rattle.dbc_decode.proofs.Common.{◌≡◌, ◌⊎◌, ◌∙◌, Bool, true, false, cond, ℕ, List, Option, Some, None, inl, inr}
use Rattle.dbc_decode.proofs.Common.{refl, sym, ap, subst, find, and_from, cond-true, is_multiplexor, Always}
use Rattle.dbc_decode.proofs.Common.{Multiplexor, Under, signal_is_multiplexor, Signal, some_none, In, find_only}
use Rattle.dbc_decode.proofs.Common.{found_in}
use Rattle.std.proofs.Common.{◌&&◌}
use Rattle.std.proofs.Math.Bool.{and_comm}
use Rattle.dbc_sheet.specs.Signals.{HaveOneMultiplexor}
use Rattle.dbc_words.proofs.NamedThings.{some_same}
use Rattle.dbc_compare.proofs.Members.{one_alone}
use Rattle.bitlayout.specs.declared.place.Mux.{Mux}
use Rattle.bitlayout.specs.Weight.{by_weight}
use Rattle.dbc_decode.specs.Decoding.{Coding, Reading, bits_number, chosen, coding_of, is_there, pattern_in}
use Rattle.dbc_decode.specs.Decoding.{raw_by, read, reading}
use Rattle.dbc_decode.specs.Marks.{ReadsAs}

raw_alike : (payload : List ℕ) (c d : Coding) (ps qs : List ℕ) → c ≡ d → ps ≡ qs
    → raw_by c payload ps ≡ raw_by d payload qs
raw_alike payload c d ps qs e f = subst (λ v. raw_by c payload ps ≡ raw_by v payload qs) e (ap (raw_by c payload) f)

pub reading_alike : (payload : List ℕ) (s t : Signal) → ReadsAs s t → reading payload s ≡ reading payload t
reading_alike payload s t like =
    let raws : raw_by (coding_of s) payload (by_weight s.layout) ≡ raw_by (coding_of t) payload (by_weight t.layout) =
    raw_alike payload (coding_of s) (coding_of t) (by_weight s.layout) (by_weight t.layout) like.coding like.bits in
    let factor : s.factor ≡ t.factor = like.factor in
    let offset : s.offset ≡ t.offset = like.offset in
    λ i. record { raw = raws i; factor = factor i; offset = offset i }

-- ---- what the multiplexor says

module _ (old new : List Signal) (one : HaveOneMultiplexor new)
    (each : (s : Signal) → In s old → (t : Signal) × In t new × ReadsAs s t) where
  found_alike : (m : Signal) → find signal_is_multiplexor old ≡ Some m → (payload : List ℕ)
      → chosen new payload ≡ Some (bits_number payload (by_weight m.layout))
  found_alike m e payload =
      let it = found_in signal_is_multiplexor old m e in
      let other = each m it.0 in
      let is : signal_is_multiplexor other.0 ≡ true = ap is_multiplexor (sym other.2.mux) ∙ it.1 in
      let found : find signal_is_multiplexor new ≡ Some other.0 =
      find_only signal_is_multiplexor new other.0 other.1 is
      (λ y k passes. one_alone (λ a b. signal_is_multiplexor a && signal_is_multiplexor b)
      (λ a b. and_comm (signal_is_multiplexor a) (signal_is_multiplexor b)) new one y other.0 k other.1
      (and_from (signal_is_multiplexor y) (signal_is_multiplexor other.0) passes is)) in
      ap (pattern_in payload) found ∙ ap (λ ps. Some (bits_number payload ps)) (sym other.2.bits)

  by_found : (o : Option Signal) → find signal_is_multiplexor old ≡ o → (payload : List ℕ)
      → (find signal_is_multiplexor old ≡ None) ⊎ (chosen old payload ≡ chosen new payload)
  by_found None e payload = inl e
  by_found (Some m) e payload = inr (ap (pattern_in payload) e ∙ sym (found_alike m e payload))

  -- it says the same, or the old message has none
  pub chosen_alike : (payload : List ℕ)
      → (find signal_is_multiplexor old ≡ None) ⊎ (chosen old payload ≡ chosen new payload)
  chosen_alike payload = by_found (find signal_is_multiplexor old) refl payload

-- ---- what is read

-- a signal that is there without a multiplexor is always there
there_always : (mux : Mux) → is_there mux None ≡ true → (o : Option ℕ) → is_there mux o ≡ true
there_always Always e o = refl
there_always Multiplexor e o = refl
there_always (Under v) e o = cc e

pub if_some : {A : Type 0} (b : Bool) (x y : A) → cond b (Some x) None ≡ Some y → (b ≡ true) × (x ≡ y)
if_some true x y e = (refl, some_same x y e)
if_some false x y e = absurd (some_none y (sym e))

pub read_alike : (old new : List Signal) (payload : List ℕ) (s t : Signal) → ReadsAs s t
    → chosen old payload ≡ chosen new payload → read old payload s ≡ read new payload t
read_alike old new payload s t like says =
    let there : is_there s.mux (chosen old payload) ≡ is_there t.mux (chosen new payload) =
    ap (λ m. is_there m (chosen old payload)) like.mux ∙ ap (is_there t.mux) says in
    let readings : reading payload s ≡ reading payload t = reading_alike payload s t like in
    λ i. cond (there i) (Some (readings i)) None

-- what is read without a multiplexor is read with each
pub meant_alike : (old new : List Signal) (payload : List ℕ) (s t : Signal) → ReadsAs s t
    → chosen old payload ≡ None → (r : Reading) → read old payload s ≡ Some r → read new payload t ≡ Some r
meant_alike old new payload s t like none r e =
    let it = if_some (is_there s.mux (chosen old payload)) (reading payload s) r e in
    let old_there : is_there s.mux None ≡ true = ap (is_there s.mux) (sym none) ∙ it.0 in
    let there : is_there t.mux (chosen new payload) ≡ true =
    ap (λ m. is_there m (chosen new payload)) (sym like.mux) ∙ there_always s.mux old_there (chosen new payload) in
    cond-true (is_there t.mux (chosen new payload)) (Some (reading payload t)) None there
    ∙ ap Some (sym (reading_alike payload s t like) ∙ it.1)

-- a signal that doesn't hang on a multiplexor is always there
always_there : (mux : Mux) (o : Option ℕ) → ((v : ℕ) → mux ≡ Under v → ⊥) → is_there mux o ≡ true
always_there Always o free = refl
always_there Multiplexor o free = refl
always_there (Under v) o free = absurd (free v refl)

pub both_there : (old new : List Signal) (payload : List ℕ) (s t : Signal) → ReadsAs s t
    → ((v : ℕ) → s.mux ≡ Under v → ⊥) → read old payload s ≡ read new payload t
both_there old new payload s t like free =
    cond-true (is_there s.mux (chosen old payload)) (Some (reading payload s)) None
    (always_there s.mux (chosen old payload) free)
    ∙ ap Some (reading_alike payload s t like)
    ∙ sym (cond-true (is_there t.mux (chosen new payload)) (Some (reading payload t)) None
    (always_there t.mux (chosen new payload) (λ v e. free v (like.mux ∙ e))))
