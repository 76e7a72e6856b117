-- `==` of messages, of signals and of their parts answers whether they are equal.
use Rattle.dbc_sheet.proofs.Common.{◌≡◌, ◌==◌, Bool, false, ℕ, List, Option, Some, None, refl, sym, ap, ◌∙◌, bytes_eq}
use Rattle.dbc_sheet.proofs.Common.{false≢true, Intel, Mux, Always, Multiplexor, Under, Std, Ext, Number, Integer}
use Rattle.std.specs.Bool.{Decides}
use Rattle.std.specs.Cmp.{booleans_Decides}
use Rattle.std.specs.Option.{option_eq}
use Rattle.std.proofs.lemmas.Bool.Decides.{Decides-and, Decides-eqb, Decides-int_eq}
use Rattle.std.proofs.lemmas.Slice.Eq.{bytes_eq-Decides, slice_eq-Decides}
use Rattle.bitlayout.specs.contracts.layout.LayoutPartialEq.TheImpl as layout_eq
use Rattle.bitlayout.specs.contracts.layout.OrderPartialEq.TheImpl as order_eq
use Rattle.bitlayout.specs.contracts.place.MuxPartialEq.TheImpl as mux_eq
use Rattle.bitlayout.specs.declared.layout.Layout.{Layout}
use Rattle.bitlayout.specs.declared.layout.Order.{Order}
use Rattle.bitlayout.specs.declared.layout.Order.TheVariants.{Motorola}
use Rattle.can_id.specs.contracts.ident.IdentPartialEq.TheImpl as ident_eq
use Rattle.can_id.specs.declared.ident.Ident.{Ident}
use Rattle.decimal.specs.contracts.number.DecimalPartialEq.TheImpl as decimal_eq
use Rattle.dbc_words.specs.contracts.value_type.ValueTypePartialEq.TheImpl as value_type_eq
use Rattle.dbc_words.specs.declared.value_type.ValueType.{ValueType}
use Rattle.dbc_words.specs.declared.value_type.ValueType.TheVariants.{Float, Double}
use Rattle.dbc_sheet.specs.Same.{SameIsEqual, same_message}
use Rattle.dbc_sheet.specs.contracts.signal.SignalPartialEq.TheImpl as signal_eq
use Rattle.dbc_sheet.specs.contracts.value_texts.ValueTextPartialEq.TheImpl as value_text_eq
use Rattle.dbc_sheet.specs.declared.message.Message.{Message}
use Rattle.dbc_sheet.specs.declared.signal.Signal.{Signal}
use Rattle.dbc_sheet.specs.declared.value_texts.ValueText.{ValueText}

-- the same, of a fact that holds where P does
by_parts : {P Q : Type 0} (r : Bool) → (P → Q) → (Q → P) → Decides r P → Decides r Q
by_parts r to from d = (λ h. to (d.0 h), λ q. d.1 (from q))

-- two variants are never equal
apart : {A : Type 0} {a b : A} (r : Bool) → r ≡ false → (a ≡ b → ⊥) → Decides r (a ≡ b)
apart r e differ = (λ h. absurd (false≢true (sym e ∙ h)), λ same. absurd (differ same))

order_decides : (a b : Order) → Decides ((order_eq.ghosts).eq a b) (a ≡ b)
order_decides Intel Intel = (λ h. refl, λ e. refl)
order_decides Intel Motorola = apart false refl (λ e. cc)
order_decides Motorola Intel = apart false refl (λ e. cc)
order_decides Motorola Motorola = (λ h. refl, λ e. refl)

value_type_decides : (a b : ValueType) → Decides ((value_type_eq.ghosts).eq a b) (a ≡ b)
value_type_decides Integer Integer = (λ h. refl, λ e. refl)
value_type_decides Integer Float = apart false refl (λ e. cc)
value_type_decides Integer Double = apart false refl (λ e. cc)
value_type_decides Float Integer = apart false refl (λ e. cc)
value_type_decides Float Float = (λ h. refl, λ e. refl)
value_type_decides Float Double = apart false refl (λ e. cc)
value_type_decides Double Integer = apart false refl (λ e. cc)
value_type_decides Double Float = apart false refl (λ e. cc)
value_type_decides Double Double = (λ h. refl, λ e. refl)

mux_decides : (a b : Mux) → Decides ((mux_eq.ghosts).eq a b) (a ≡ b)
mux_decides Always Always = (λ h. refl, λ e. refl)
mux_decides Always Multiplexor = apart false refl (λ e. cc)
mux_decides Always (Under n) = apart false refl (λ e. cc)
mux_decides Multiplexor Always = apart false refl (λ e. cc)
mux_decides Multiplexor Multiplexor = (λ h. refl, λ e. refl)
mux_decides Multiplexor (Under n) = apart false refl (λ e. cc)
mux_decides (Under m) Always = apart false refl (λ e. cc)
mux_decides (Under m) Multiplexor = apart false refl (λ e. cc)
mux_decides (Under m) (Under n) = by_parts (m == n) (ap Under) (λ e. cc) (Decides-eqb m n)

ident_decides : (a b : Ident) → Decides ((ident_eq.ghosts).eq a b) (a ≡ b)
ident_decides (Std m) (Std n) = by_parts (m == n) (ap Std) (λ e. cc) (Decides-eqb m n)
ident_decides (Std m) (Ext n) = apart false refl (λ e. cc)
ident_decides (Ext m) (Std n) = apart false refl (λ e. cc)
ident_decides (Ext m) (Ext n) = by_parts (m == n) (ap Ext) (λ e. cc) (Decides-eqb m n)

sender_decides : (a b : Option (List ℕ)) → Decides (option_eq bytes_eq a b) (a ≡ b)
sender_decides None None = (λ h. refl, λ e. refl)
sender_decides None (Some n) = apart false refl (λ e. cc)
sender_decides (Some m) None = apart false refl (λ e. cc)
sender_decides (Some m) (Some n) = by_parts (bytes_eq m n) (ap Some) (λ e. cc) (bytes_eq-Decides m n)

decimal_decides : (a b : Number) → Decides ((decimal_eq.ghosts).eq a b) (a ≡ b)
decimal_decides a b =
    by_parts _ (λ p i. record { mantissa = p.0 i; exponent = p.1 i })
    (λ e. (ap (λ d. d.mantissa) e, ap (λ d. d.exponent) e))
    (Decides-and _ _ (Decides-int_eq a.mantissa b.mantissa) (Decides-int_eq a.exponent b.exponent))

layout_decides : (a b : Layout) → Decides ((layout_eq.ghosts).eq a b) (a ≡ b)
layout_decides a b =
    by_parts _ (λ p i. record { start = p.0 i; size = p.1.0 i; order = p.1.1 i })
    (λ e. (ap (λ l. l.start) e, (ap (λ l. l.size) e, ap (λ l. l.order) e)))
    (Decides-and _ _ (Decides-eqb a.start b.start)
    (Decides-and _ _ (Decides-eqb a.size b.size) (order_decides a.order b.order)))

value_text_decides : (a b : ValueText) → Decides ((value_text_eq.ghosts).eq a b) (a ≡ b)
value_text_decides a b =
    by_parts _ (λ p i. record { value = p.0 i; text = p.1 i }) (λ e. (ap (λ v. v.value) e, ap (λ v. v.text) e))
    (Decides-and _ _ (decimal_decides a.value b.value) (bytes_eq-Decides a.text b.text))

signal_decides : (a b : Signal) → Decides ((signal_eq.ghosts).eq a b) (a ≡ b)
signal_decides a b =
    by_parts _ (λ p i. record {
      name = p.0 i;
      layout = p.1.0 i;
      signed = p.1.1.0 i;
      value_type = p.1.1.1.0 i;
      mux = p.1.1.1.1.0 i;
      spn = p.1.1.1.1.1.0 i;
      factor = p.1.1.1.1.1.1.0 i;
      offset = p.1.1.1.1.1.1.1.0 i;
      minimum = p.1.1.1.1.1.1.1.1.0 i;
      maximum = p.1.1.1.1.1.1.1.1.1.0 i;
      unit = p.1.1.1.1.1.1.1.1.1.1.0 i;
      receivers = p.1.1.1.1.1.1.1.1.1.1.1.0 i;
      comment = p.1.1.1.1.1.1.1.1.1.1.1.1.0 i;
      values = p.1.1.1.1.1.1.1.1.1.1.1.1.1 i;
    })
    (λ e. (
      ap (λ s. s.name) e,
      (
        ap (λ s. s.layout) e,
        (
          ap (λ s. s.signed) e,
          (
            ap (λ s. s.value_type) e,
            (
              ap (λ s. s.mux) e,
              (
                ap (λ s. s.spn) e,
                (
                  ap (λ s. s.factor) e,
                  (
                    ap (λ s. s.offset) e,
                    (
                      ap (λ s. s.minimum) e,
                      (
                        ap (λ s. s.maximum) e,
                        (ap (λ s. s.unit) e, (ap (λ s. s.receivers) e, (ap (λ s. s.comment) e, ap (λ s. s.values) e))),
                      ),
                    ),
                  ),
                ),
              ),
            ),
          ),
        ),
      ),
    ))
    (Decides-and _ _ (bytes_eq-Decides a.name b.name)
    (Decides-and _ _ (layout_decides a.layout b.layout)
    (Decides-and _ _ (booleans_Decides a.signed b.signed)
    (Decides-and _ _ (value_type_decides a.value_type b.value_type)
    (Decides-and _ _ (mux_decides a.mux b.mux)
    (Decides-and _ _ (Decides-eqb a.spn b.spn)
    (Decides-and _ _ (decimal_decides a.factor b.factor)
    (Decides-and _ _ (decimal_decides a.offset b.offset)
    (Decides-and _ _ (decimal_decides a.minimum b.minimum)
    (Decides-and _ _ (decimal_decides a.maximum b.maximum)
    (Decides-and _ _ (bytes_eq-Decides a.unit b.unit)
    (Decides-and _ _ (slice_eq-Decides bytes_eq-Decides a.receivers b.receivers _ refl)
    (Decides-and _ _ (bytes_eq-Decides a.comment b.comment)
    (slice_eq-Decides value_text_decides a.values b.values _ refl))))))))))))))

message_decides : (a b : Message) → Decides (same_message a b) (a ≡ b)
message_decides a b =
    by_parts _ (λ p i. record {
      ident = p.0 i;
      name = p.1.0 i;
      length = p.1.1.0 i;
      transmitter = p.1.1.1.0 i;
      comment =
          p.1.1.1.1.0 i;
      signals = p.1.1.1.1.1 i;
    })
    (λ e. (
      ap (λ m. m.ident) e,
      (
        ap (λ m. m.name) e,
        (
          ap (λ m. m.length) e,
          (ap (λ m. m.transmitter) e, (ap (λ m. m.comment) e, ap (λ m. m.signals) e)),
        ),
      ),
    ))
    (Decides-and _ _ (ident_decides a.ident b.ident)
    (Decides-and _ _ (bytes_eq-Decides a.name b.name)
    (Decides-and _ _ (Decides-eqb a.length b.length)
    (Decides-and _ _ (sender_decides a.transmitter b.transmitter)
    (Decides-and _ _ (bytes_eq-Decides a.comment b.comment)
    (slice_eq-Decides signal_decides a.signals b.signals _ refl))))))

pub same_is_equal : SameIsEqual
same_is_equal a b = message_decides a b
