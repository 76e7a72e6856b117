-- The statements by which other tools take the 29-bit messages of a sheet as messages of SAE J1939: the attributes
-- `ProtocolType`, of the network, and `VFrameFormat`, of messages, as Vector's tools know them.
use Rattle.std.specs.Prelude.{◌&&◌, ◌||◌, ◌++◌, ◌⊎◌, ℕ, Bool, true, false, List, [], map, drop, codes, nat_le}
use Rattle.std.specs.Prelude.{if◌then◌else◌}
use Rattle.std.specs.Fmt.{decimal}
use Rattle.std.specs.List.{flat_map, list_any}
use Rattle.can_id.specs.Ident.{extended_flag}
use Rattle.dbc_words.specs.declared.keyword.Keyword.{Keyword}
use Rattle.dbc_words.specs.declared.keyword.Keyword.TheVariants.{AttributeDefinition}
use Rattle.dbc_grammar.specs.Reads.{ReadsAs}
use Rattle.dbc_grammar.specs.Rules.{starts}
use Rattle.dbc_sheet.specs.Messages.{number_of}
use Rattle.dbc_sheet.specs.declared.message.Message.{Message}
use Rattle.dbc_sheet.specs.declared.sheet.Sheet.{Sheet}
use Rattle.dbc_keep.specs.Finding.{has_text}
use Rattle.dbc_keep.specs.Staying.{KeepsStaying}
use Rattle.dbc_keep_law.specs.Found.{tokens_at}
use Rattle.dbc_read.specs.Passed.{start_and_keyword}
use Rattle.dbc_read.specs.Reading.{ReadsAsNothing}
use Rattle.dbc_read.specs.declared.passed.Passed.{Passed}

abbrev pub protocol_statements : List ℕ
protocol_statements = codes "BA_DEF_ \"ProtocolType\" STRING ;\n" ++ codes "BA_DEF_DEF_ \"ProtocolType\" \"\";\n"
    ++ codes "BA_ \"ProtocolType\" \"J1939\";\n"

abbrev pub format_declarations : List ℕ
format_declarations =
    codes "BA_DEF_ BO_ \"VFrameFormat\" ENUM \"StandardCAN\",\"ExtendedCAN\",\"reserved\",\"J1939PG\";\n"
    ++ codes "BA_DEF_DEF_ \"VFrameFormat\" \"StandardCAN\";\n"

-- that of a message with 29 bits; `J1939PG` has the index 3
abbrev pub format_value : Message → List ℕ
format_value m =
    if nat_le extended_flag (number_of m)
    then codes "BA_ \"VFrameFormat\" BO_ " ++ decimal (number_of m) ++ codes " 3;\n"
    else []

abbrev pub format_statements : Sheet → List ℕ
format_statements s = format_declarations ++ flat_map format_value s.messages

abbrev pub is_definition : Keyword → Bool
is_definition AttributeDefinition = true
is_definition k = false

-- whether a skipped statement defines the attribute: its name comes first after `BA_DEF_`, or after the object
abbrev pub defines_attribute : List ℕ → List ℕ → Passed → Bool
defines_attribute source name one =
    let ts = drop 1 (tokens_at source one.at) in
    is_definition one.keyword && (starts (has_text name) ts || starts (has_text name) (drop 1 ts))

abbrev pub has_attribute : List ℕ → List ℕ → List Passed → Bool
has_attribute source name passed = list_any (defines_attribute source name) passed

-- both attributes, each unless the source defines it
abbrev pub j1939_text : Sheet → List ℕ → List Passed → List ℕ
j1939_text s source passed =
    (if has_attribute source (codes "\"ProtocolType\"") passed then [] else protocol_statements)
    ++ (if has_attribute source (codes "\"VFrameFormat\"") passed then [] else format_statements s)

-- a text with those statements before it
abbrev pub with_j1939 : Sheet → List ℕ → List Passed → List ℕ
with_j1939 s text passed = j1939_text s text passed ++ text

-- The text has these skipped statements. Another text has them and those of J1939, as far as they stay in the text of
-- the sheet.
pub record KeepsJ1939 (text made : List ℕ) (s : Sheet) : Type 0 where
  pub own : Sheet
  pub passed : List Passed
  pub reads : ReadsAs text own (map start_and_keyword passed)
  pub joined : Sheet
  pub stay : KeepsStaying (with_j1939 s text passed) made joined s

-- the text reads as no sheet, or no longer with those statements before it
abbrev pub IsUnreadable : List ℕ → Sheet → Type 0
IsUnreadable text s =
    ReadsAsNothing text
    ⊎ ((own : Sheet) × (passed : List Passed) × ReadsAs text own (map start_and_keyword passed)
    × ReadsAsNothing (with_j1939 s text passed))
