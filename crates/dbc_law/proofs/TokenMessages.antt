-- The lines of messages and of their signals are legible.
use Rattle.dbc_law.proofs.Common.{◌≡◌, ◌<◌, ◌^◌, ℕ, Bool, true, false, List, [], ◌∷◌, Option, Some, None, IfSome}
use Rattle.dbc_law.proofs.Common.{unwrap_or, if◌then◌else◌, refl, arith, All, codes, All-head, All-tail, order_number}
use Rattle.dbc_law.proofs.Common.{Order, Intel, Motorola, Mux, Always, Multiplexor, Under, IsDecimal, Number, IsName}
use Rattle.dbc_law.proofs.Common.{no_node, IsMessage, IsMux, IsSignal, number_of, is_mark, Message, Signal}
use Rattle.dbc_grammar.specs.Canon.{
  citation_pieces,
  layout_pieces,
  mark,
  message_line,
  message_lines,
  mux_pieces,
  pair,
  receiver_pieces,
  signal_line,
  signal_pieces,
  space,
  tight,
  word,
}
use Rattle.dbc_words.specs.declared.keyword.Keyword.TheVariants as keyword
use Rattle.dbc_law.proofs.MessageNumbers.{number_small}
use Rattle.dbc_law.proofs.TokenLegible.{AreLegible, CanFollow, each_follows, follow_append, no_pieces}
use Rattle.dbc_law.proofs.TokenLines.{AreLegibleLines, line_of_each, with_line}
use Rattle.dbc_law.proofs.TokenPieces.{
  identifier,
  keyword_follows,
  keyword_line,
  mark_follows,
  multiplexed_identifier,
  name_follows,
  number_follows,
  number_legible,
  spaced_mark_follows,
  text_follows,
  value_legible,
  word_follows,
  word_legible,
}

-- ---- messages

transmitter_follows : (t : Option (List ℕ)) → IfSome t IsName → CanFollow (word space (unwrap_or t no_node) ∷ [])
transmitter_follows None h = word_follows no_node [] refl no_pieces
transmitter_follows (Some n) h = name_follows n [] h no_pieces

message_legible : (m : Message) → IsMessage m → AreLegible (message_line m)
message_legible m h =
    let length_small : m.length < 2 ^ 32 = omega (arith, h.length) in
    let length = number_follows m.length _ length_small (transmitter_follows m.transmitter h.transmitter) in
    keyword_line keyword.Message _
    (number_follows (number_of m) _ (number_small m h)
    (name_follows m.name _ h.named (mark_follows 58 _ refl length.legible)))

-- ---- signals

mux_follows : (mux : Mux) → IsMux mux → CanFollow (mux_pieces mux)
mux_follows Always h = no_pieces
mux_follows Multiplexor h = word_follows (codes "M") [] refl no_pieces
mux_follows (Under n) h = word_follows _ [] (multiplexed_identifier n h) no_pieces

order_small : (order : Order) → order_number order < 2 ^ 32
order_small Intel = omega arith
order_small Motorola = omega arith

sign_follows : (signed : Bool) → CanFollow (mark tight (if signed then codes "-" else codes "+") ∷ [])
sign_follows true = mark_follows 45 [] refl tt
sign_follows false = mark_follows 43 [] refl tt

layout_follows : (s : Signal) → IsSignal s → CanFollow (layout_pieces s)
layout_follows s h =
    let start_small : s.layout.start < 2 ^ 32 = omega (arith, h.layout.start) in
    let size_small : s.layout.size < 2 ^ 32 = omega (arith, h.layout.most) in
    let sign = sign_follows s.signed in
    let order = mark_follows 64 _ refl
    (number_legible tight (order_number s.layout.order) _ refl (order_small s.layout.order) sign) in
    number_follows s.layout.start _ start_small
    (mark_follows 124 _ refl (number_legible tight s.layout.size _ refl size_small order))

pair_follows : (left between right : ℕ) (a b : Number) → is_mark left ≡ true → is_mark between ≡ true
    → is_mark right ≡ true → IsDecimal a → IsDecimal b
    → CanFollow (pair (left ∷ []) (between ∷ []) (right ∷ []) a b)
pair_follows left between right a b l m r ha hb =
    let first = spaced_mark_follows left _ l (value_legible tight a refl ha) in
    let second = mark_follows between _ m (value_legible tight b refl hb) in
    follow_append (follow_append first second) (mark_follows right [] r tt)

further_follows : (name : List ℕ) → IsName name → CanFollow (mark tight (codes ",") ∷ word tight name ∷ [])
further_follows name h = mark_follows 44 _ refl (word_legible tight name [] refl (identifier name h) no_pieces)

receivers_follow : (names : List (List ℕ)) → All IsName names → CanFollow (receiver_pieces names)
receivers_follow [] h = word_follows no_node [] refl no_pieces
receivers_follow (n ∷ names) h =
    name_follows n _ (All-head IsName n names h)
    (each_follows IsName (λ r. mark tight (codes ",") ∷ word tight r ∷ []) further_follows names
    (All-tail IsName n names h))

signal_legible : (s : Signal) → IsSignal s → AreLegible (signal_line s)
signal_legible s h =
    let head = keyword_follows keyword.Signal _ (name_follows s.name _ h.named (mux_follows s.mux h.mux)) in
    let layout = follow_append head (spaced_mark_follows 58 _ refl (layout_follows s h).legible) in
    let scale = follow_append layout (pair_follows 40 44 41 s.factor s.offset refl refl refl h.factor h.offset) in
    let range = follow_append scale (pair_follows 91 124 93 s.minimum s.maximum refl refl refl h.minimum h.maximum) in
    (follow_append range (text_follows s.unit _ h.unit (receivers_follow s.receivers h.receivers).legible)).legible

pub message_lines_legible : (m : Message) → IsMessage m → AreLegibleLines (message_lines m)
message_lines_legible m h =
    with_line (message_line m) _ (message_legible m h)
    (line_of_each IsSignal signal_line signal_legible m.signals h.signals)

-- ---- a signal as other lines cite it

pub citation_follows : (m : Message) (s : Signal) → IsMessage m → IsSignal s → CanFollow (citation_pieces m s)
citation_follows m s h k = number_follows (number_of m) _ (number_small m h) (name_follows s.name [] k.named no_pieces)

pub signal_follows : (m : Message) (s : Signal) → IsMessage m → IsSignal s → CanFollow (signal_pieces m s)
signal_follows m s h k = keyword_follows keyword.Signal _ (citation_follows m s h k)
