-- Where no change of a signal is marked, it is read alike.
use Rattle.dbc_decode.proofs.Common.{◌≡◌, ◌⊎◌, Bool, true, false, not, inl, inr, refl, ap}
use Rattle.dbc_decode.proofs.Common.{subst, cases_Bool, Layout, ValueType, Integer, Float}
use Rattle.dbc_decode.proofs.Common.{Double, IsSignal, Signal, signal_fields, Dec}
use Rattle.dbc_decode.proofs.Common.{mux_told, order_told, truth_told, type_told}
use Rattle.dbc_decode.proofs.Common.{whole_is, word_is, in_to}
use Rattle.std.proofs.lemmas.Bool.Decides.{Decides-eqb}
use Rattle.std.proofs.lemmas.Slice.Eq.{slice_eq-Decides}
use Rattle.std.proofs.lemmas.Bool.{or_left}
use Rattle.std.specs.Bool.{Decides}
use Rattle.bitlayout.specs.Weight.{by_weight, same_bits}
use Rattle.dbc_compare.specs.Differences.{signal_changes}
use Rattle.dbc_compare.specs.Fields.{is_integer, signal_breaks}
use Rattle.dbc_decode.specs.Decoding.{coding_by}
use Rattle.dbc_decode.specs.Marks.{ReadsAs, UnmarkedSignalIsRead, is_marked}
use Rattle.dbc_decode.proofs.Alike.{reading_alike}
use Rattle.dbc_decode.proofs.Quiet.{MarkedSame, fields_same}

pub bits_decide : (a b : Layout) → Decides (same_bits a b) (by_weight a ≡ by_weight b)
bits_decide a b = slice_eq-Decides Decides-eqb (by_weight a) (by_weight b) (same_bits a b) refl

same_coding : (t u : ValueType) (x y : Bool) → t ≡ u → (is_integer t ≡ true → x ≡ y) → coding_by t x ≡ coding_by u y
same_coding t u x y e told = subst (λ v. coding_by t x ≡ coding_by v y) e (by_type t told)
  where
    by_type : (v : ValueType) → (is_integer v ≡ true → x ≡ y) → coding_by v x ≡ coding_by v y
    by_type Integer given = ap (coding_by Integer) (given refl)
    by_type Float given = refl
    by_type Double given = refl

-- where the fields whose changes are marked are the same, it reads as the old one
pub signal_same : (a b : Signal) → IsSignal a → IsSignal b
    → MarkedSame (signal_breaks a b) (signal_fields a) (signal_fields b) → ReadsAs a b
signal_same a b ha hb told =
    let value_type : a.value_type ≡ b.value_type = type_told _ _ (word_is _ _ (told.1.1.1.1.0 refl)) in
    let mux : a.mux ≡ b.mux = mux_told a.mux b.mux ha.mux hb.mux (word_is _ _ (told.1.1.1.1.1.0 refl)) in
    let factors : Dec a.factor ≡ Dec b.factor = told.1.1.1.1.1.1.0 refl in
    let offsets : Dec a.offset ≡ Dec b.offset = told.1.1.1.1.1.1.1.0 refl in
    record {
      bits = by_bits (cases_Bool (same_bits a.layout b.layout));
      coding = same_coding a.value_type b.value_type a.signed b.signed value_type
          (λ t. truth_told _ _
          (word_is _ _ (told.1.1.1.0 (or_left (is_integer a.value_type) (is_integer b.value_type) t))));
      mux = mux;
      factor = cc factors;
      offset = cc offsets;
    }
  where
    by_bits : (same_bits a.layout b.layout ≡ true) ⊎ (same_bits a.layout b.layout ≡ false)
        → by_weight a.layout ≡ by_weight b.layout
    by_bits (inl t) = (bits_decide a.layout b.layout).0 t
    by_bits (inr n) =
        let seen : not (same_bits a.layout b.layout) ≡ true = ap not n in
        let start : a.layout.start ≡ b.layout.start = whole_is _ _ (told.0 seen) in
        let size : a.layout.size ≡ b.layout.size = whole_is _ _ (told.1.0 seen) in
        let order : a.layout.order ≡ b.layout.order = order_told _ _ (word_is _ _ (told.1.1.0 seen)) in
        λ i. by_weight (record { start = start i; size = size i; order = order i })

pub unmarked_read : UnmarkedSignalIsRead
unmarked_read a b ha hb none =
    let like : ReadsAs a b = signal_same a b ha hb
    (fields_same is_marked (λ f b old new. refl) (signal_breaks a b) (signal_fields a) (signal_fields b)
    (λ c h. none c (in_to (signal_changes a b) c h))) in
    record { mux = like.mux; reading = λ payload. reading_alike payload a b like }
