-- The canonical text of a sheet with passed statements in it: each on a line of its own, at the place that the order of
-- statements of Vector's DBC File Format Documentation gives to its keyword.
use Rattle.std.specs.Prelude.{ℕ, ◌==◌, Bool, false, ◌&&◌, not, List, [], ◌∷◌, ◌++◌, map, filter, codes, if◌then◌else◌}
use Rattle.std.specs.List.{flat_map, list_any}
use Rattle.std.specs.Str.{bytes_eq}
use Rattle.dbc_grammar.specs.Canon.{Line, comment_lines, each_signal, line_text, message_comments, message_lines}
use Rattle.dbc_grammar.specs.Canon.{node_comment, nodes_line, spn_default, spn_definition, spn_lines, symbols_line}
use Rattle.dbc_grammar.specs.Canon.{table_line, timing_line, type_lines, value_lines, version_line}
use Rattle.dbc_words.specs.declared.keyword.Keyword.{Keyword}
use Rattle.dbc_words.specs.declared.keyword.Keyword.TheVariants.{
  Message,
  Comment,
  ValueTexts,
  SignalValueType,
  AttributeValue,
  MessageTransmitters,
  EnvironmentVariable,
  EnvironmentVariableData,
  EnvironmentData,
  SignalType,
  SignalTypeValues,
  SignalGroup,
  SignalTypeReference,
  SignalTypeValueType,
  Category,
  CategoryDefinition,
  Filter,
  AttributeDefinition,
  AttributeDefault,
  RelationAttributeDefinition,
  RelationAttributeValue,
  RelationAttributeDefault,
  SignalTypeAttributeDefinition,
  SignalTypeAttributeValue,
}
use Rattle.dbc_sheet.specs.declared.sheet.Sheet.{Sheet}
use Rattle.dbc_sheet.specs.declared.signal.Signal.{Signal}
use Rattle.dbc_sheet.specs.declared.message.Message.{Message as MessageOf}
use Rattle.dbc_keep_law.specs.Passages.{Passage}

-- The places, in their order.
abbrev pub place_of : Keyword → ℕ
-- after the messages
place_of Message = 0
place_of MessageTransmitters = 1
place_of EnvironmentVariable = 2
place_of EnvironmentVariableData = 3
place_of EnvironmentData = 3
place_of SignalType = 4
place_of SignalTypeValues = 4
place_of SignalTypeValueType = 4
-- after the comments
place_of Comment = 5
place_of AttributeDefinition = 6
place_of RelationAttributeDefinition = 6
place_of SignalTypeAttributeDefinition = 6
place_of AttributeDefault = 7
place_of RelationAttributeDefault = 7
-- before the suspect parameter numbers, so that the sheet's number comes last
place_of AttributeValue = 8
place_of RelationAttributeValue = 8
place_of SignalTypeAttributeValue = 8
-- after the texts of values
place_of ValueTexts = 9
place_of CategoryDefinition = 10
place_of Category = 11
place_of Filter = 12
place_of SignalTypeReference = 13
place_of SignalGroup = 14
-- after the value types
place_of SignalValueType = 15
place_of k = 16

-- those of a place, in their order
abbrev pub at_place : ℕ → List Passage → List Passage
at_place place ps = filter (λ (p : Passage). place_of p.keyword == place) ps

abbrev pub lines_at : ℕ → List Passage → List Line
lines_at place ps = map (λ (p : Passage). p.line) (at_place place ps)

-- `BA_DEF_ SG_ "SPN"`
abbrev pub defines_spn : Line → Bool
defines_spn (word ∷ object ∷ name ∷ rest) =
    bytes_eq word.text (codes "BA_DEF_") && (bytes_eq object.text (codes "SG_") && bytes_eq name.text (codes "\"SPN\""))
defines_spn line = false

-- `BA_DEF_DEF_ "SPN"`
abbrev pub defaults_spn : Line → Bool
defaults_spn (word ∷ name ∷ rest) = bytes_eq word.text (codes "BA_DEF_DEF_") && bytes_eq name.text (codes "\"SPN\"")
defaults_spn line = false

abbrev pub has_spn : Sheet → Bool
has_spn s = list_any (λ (m : MessageOf). list_any (λ (x : Signal). not (x.spn == 0)) m.signals) s.messages

-- the canonical line, if the sheet needs it and no line that is kept says the same
abbrev pub unless_said : Sheet → (Line → Bool) → List Line → Line → List Line
unless_said s says kept line = if has_spn s && not (list_any says kept) then line ∷ [] else []

abbrev pub kept_lines : Sheet → List Passage → List Line
kept_lines s ps =
    version_line s ∷ symbols_line ∷ timing_line ∷ nodes_line s
    ∷ map table_line s.tables ++ flat_map message_lines s.messages
    ++ lines_at 0 ps ++ lines_at 1 ps ++ lines_at 2 ps ++ lines_at 3 ps ++ lines_at 4 ps
    ++ comment_lines [] s.comment ++ flat_map node_comment s.nodes ++ flat_map message_comments s.messages
    ++ lines_at 5 ps
    ++ lines_at 6 ps ++ unless_said s defines_spn (lines_at 6 ps) spn_definition
    ++ lines_at 7 ps ++ unless_said s defaults_spn (lines_at 7 ps) spn_default
    ++ lines_at 8 ps ++ each_signal spn_lines s
    ++ each_signal value_lines s ++ lines_at 9 ps ++ lines_at 10 ps ++ lines_at 11 ps ++ lines_at 12 ps
    ++ lines_at 13 ps ++ lines_at 14 ps
    ++ each_signal type_lines s ++ lines_at 15 ps ++ lines_at 16 ps

abbrev pub kept_text : Sheet → List Passage → List ℕ
kept_text s ps = flat_map line_text (kept_lines s ps)

-- The passed statements of a kept text: those that are kept, place after place, and the declarations that the
-- canonical lines add.
abbrev pub definition_passage : Passage
definition_passage = record { keyword = AttributeDefinition; line = spn_definition }

abbrev pub default_passage : Passage
default_passage = record { keyword = AttributeDefault; line = spn_default }

abbrev pub said : Sheet → (Line → Bool) → List Line → Passage → List Passage
said s says kept p = if has_spn s && not (list_any says kept) then p ∷ [] else []

-- those that are added
abbrev pub declarations : Sheet → List Passage → List Passage
declarations s ps = said s defines_spn (lines_at 6 ps) definition_passage
    ++ said s defaults_spn (lines_at 7 ps) default_passage

abbrev pub completed : Sheet → List Passage → List Passage
completed s ps =
    at_place 0 ps ++ at_place 1 ps ++ at_place 2 ps ++ at_place 3 ps ++ at_place 4 ps ++ at_place 5 ps
    ++ at_place 6 ps ++ said s defines_spn (lines_at 6 ps) definition_passage ++ at_place 7 ps
    ++ said s defaults_spn (lines_at 7 ps) default_passage
    ++ at_place 8 ps ++ at_place 9 ps ++ at_place 10 ps ++ at_place 11 ps ++ at_place 12 ps ++ at_place 13 ps
    ++ at_place 14 ps ++ at_place 15 ps ++ at_place 16 ps
