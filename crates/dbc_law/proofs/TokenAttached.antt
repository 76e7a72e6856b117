-- The lines that attach suspect parameter numbers, texts for values and value types to signals are legible.
use Rattle.dbc_law.proofs.Common.{◌<◌, ◌^◌, ◌==◌, List, [], ◌∷◌, refl, arith, All, flat_map, codes, spn_limit, IsText}
use Rattle.dbc_law.proofs.Common.{value_type_number, ValueType, Integer, text-Decides, Line, mark, number, space, tight}
use Rattle.dbc_law.proofs.Common.{IsMessage, IsSheet, IsSignal, IsValueText, Message, Sheet, Signal, ValueText}
use Rattle.dbc_words.specs.declared.keyword.Keyword.TheVariants as keyword
use Rattle.dbc_grammar.specs.Canon.{each_signal, spn_definitions, spn_lines, type_lines, value_lines}
use Rattle.dbc_grammar.specs.Canon.{with_spn_definitions}
use Rattle.dbc_law.proofs.TokenHeading.{entries_follow}
use Rattle.dbc_law.proofs.TokenLegible.{follow_append}
use Rattle.dbc_law.proofs.TokenLines.{AreLegibleLines, ◌also◌, line_unless, lines_of_each, no_lines, one_line}
use Rattle.dbc_law.proofs.TokenMessages.{citation_follows, signal_follows}
use Rattle.dbc_law.proofs.TokenPieces.{end_follows, keyword_follows, keyword_line, number_follows, spaced_mark_follows}
use Rattle.dbc_law.proofs.TokenPieces.{text_follows, word_follows}

-- lines for each signal of each message
each_signal_legible : (lines : Message → Signal → List Line)
    → ((m : Message) (x : Signal) → IsMessage m → IsSignal x → AreLegibleLines (lines m x))
    → (s : Sheet) → IsSheet s → AreLegibleLines (each_signal lines s)
each_signal_legible lines each s h =
    lines_of_each IsMessage (λ (m : Message). flat_map (lines m) m.signals)
    (λ m k. lines_of_each IsSignal (lines m) (λ x j. each m x k j) m.signals k.signals) s.messages h.messages

-- ---- suspect parameter numbers

-- the name of their attribute
spn_text : IsText (codes "SPN")
spn_text = (text-Decides (codes "SPN")).0 refl

spn_legible : (m : Message) (s : Signal) → IsMessage m → IsSignal s → AreLegibleLines (spn_lines m s)
spn_legible m s h k =
    let small : s.spn < 2 ^ 32 = omega (arith, k.spn) in
    let number = number_follows s.spn _ small end_follows in
    let signal = follow_append (signal_follows m s h k) number in
    line_unless (s.spn == 0) _
    (keyword_line keyword.AttributeValue _ (text_follows (codes "SPN") _ spn_text signal.legible))

zero_small : 0 < 2 ^ 32
zero_small = omega arith

limit_small : spn_limit < 2 ^ 32
limit_small = omega arith

definitions_legible : AreLegibleLines spn_definitions
definitions_legible =
    let limits = number_follows 0 _ zero_small (number_follows spn_limit _ limit_small end_follows) in
    let attribute = text_follows (codes "SPN") _ spn_text (word_follows (codes "INT") _ refl limits).legible in
    let definition = keyword_line keyword.AttributeDefinition _ (keyword_follows keyword.Signal _ attribute) in
    let default = keyword_line keyword.AttributeDefault _
    (text_follows (codes "SPN") _ spn_text (number_follows 0 _ zero_small end_follows).legible) in
    record { each = (definition, (default, tt)) }

with_spn_definitions_legible : (ls : List Line) → AreLegibleLines ls → AreLegibleLines (with_spn_definitions ls)
with_spn_definitions_legible [] h = no_lines
with_spn_definitions_legible (l ∷ ls) h = definitions_legible also h

pub spns_legible : (s : Sheet) → IsSheet s → AreLegibleLines (with_spn_definitions (each_signal spn_lines s))
spns_legible s h = with_spn_definitions_legible (each_signal spn_lines s)
    (each_signal_legible spn_lines spn_legible s h)

-- ---- texts for values

values_legible : (m : Message) (s : Signal) → IsMessage m → IsSignal s → AreLegibleLines (value_lines m s)
values_legible m s h k = by_values s.values k.values
  where
    by_values : (vs : List ValueText) → All IsValueText vs → AreLegibleLines (value_lines m (record s { values = vs }))
    by_values [] l = no_lines
    by_values (v ∷ vs) l = one_line _
        (keyword_line keyword.ValueTexts _ (follow_append (citation_follows m s h k) (entries_follow (v ∷ vs) l)))

pub value_texts_legible : (s : Sheet) → IsSheet s → AreLegibleLines (each_signal value_lines s)
value_texts_legible s h = each_signal_legible value_lines values_legible s h

-- ---- value types

type_small : (type : ValueType) → value_type_number type < 2 ^ 32
type_small Integer = omega arith
type_small it = omega arith

type_legible : (m : Message) (s : Signal) → IsMessage m → IsSignal s → AreLegibleLines (type_lines m s)
type_legible m s h k =
    let type = number_follows (value_type_number s.value_type) _ (type_small s.value_type) end_follows in
    let colon = spaced_mark_follows 58 (number space (value_type_number s.value_type) ∷ mark tight (codes ";") ∷ [])
    refl type.legible in
    line_unless (value_type_number s.value_type == 0) _
    (keyword_line keyword.SignalValueType _ (follow_append (citation_follows m s h k) colon))

pub value_types_legible : (s : Sheet) → IsSheet s → AreLegibleLines (each_signal type_lines s)
value_types_legible s h = each_signal_legible type_lines type_legible s h
