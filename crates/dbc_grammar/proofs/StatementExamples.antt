-- Examples of what is a statement, and of what is none.
use Rattle.dbc_grammar.proofs.Common.{◌≡◌, ℕ, ◌+◌, Bool, true, false, List, [], ◌∷◌, ◌++◌, map, Option, Some, None}
use Rattle.dbc_grammar.proofs.Common.{refl, pos, negsuc, if◌then◌else◌, codes, AllByRecursion, list_all, and_parts}
use Rattle.dbc_grammar.proofs.Common.{Intel, Motorola, Always, Multiplexor, Under, Ident, Std, Ext, Number}
use Rattle.dbc_grammar.proofs.Common.{starts_identifier, Keyword, Version, NewSymbols, BitTiming, Nodes, ValueTable}
use Rattle.dbc_grammar.proofs.Common.{Comment, ValueTexts, SignalValueType, AttributeValue, Float, Double, ValueText}
use Rattle.std.proofs.Common.{replicate, is_none}
use Rattle.std.specs.Prelude.{ℤ, neg_ℤ, nat_le, ◌==◌, ◌&&◌}
use Rattle.bitlayout.specs.declared.layout.Order.{Order}
use Rattle.bitlayout.specs.declared.place.Mux.{Mux}
use Rattle.decimal.specs.Cutting.{cut}
use Rattle.decimal.specs.Reading.{reading}
use Rattle.dbc_words.specs.Name.{is_name}
use Rattle.dbc_words.specs.declared.keyword.Keyword.TheVariants.{Message, AttributeDefinition, SignalGroup, Filter}
use Rattle.dbc_grammar.specs.Division.{Divides}
use Rattle.dbc_grammar.specs.Fields.{ident_of}
use Rattle.dbc_grammar.specs.Parsing.{decimal_at, pair_at, entry_at, entries_at, further_at, some_names_at, no_names_at}
use Rattle.dbc_grammar.specs.Parsing.{nodes_at, layout_at, signal_at, version_at, symbols_at, registers_at, timing_at}
use Rattle.dbc_grammar.specs.Parsing.{timing_line_at, nodes_line_at, table_at, signals_at, message_at, file_comment_at}
use Rattle.dbc_grammar.specs.Parsing.{node_comment_at, message_comment_at, signal_comment_at, passed_comment_at}
use Rattle.dbc_grammar.specs.Parsing.{comment_at, value_texts_at, passed_value_texts_at, value_type_at, spn_at}
use Rattle.dbc_grammar.specs.Parsing.{skipped_at, independent_at, line_at, statement_at, statements_at}
use Rattle.dbc_grammar.specs.Statement.{SignalLine, MessageLine, Statement, Content, Dropped, PassedOver, VersionIs}
use Rattle.dbc_grammar.specs.Statement.{NodesAre, TableIs, MessageIs, CommentIs, NodeCommentIs, MessageCommentIs}
use Rattle.dbc_grammar.specs.Statement.{SignalCommentIs, ValueTextsAre, ValueTypeIs, SpnIs}
use Rattle.dbc_grammar.specs.Token.{Token}
use Rattle.dbc_grammar.specs.declared.token.TokenKind.{TokenKind}
use Rattle.dbc_grammar.specs.declared.token.TokenKind.TheVariants.{Name, Number as NumberKind, Text, Mark}
use Rattle.dbc_grammar.proofs.Divisions.{statements_are_runs, reading_is_exact}

-- The tokens of an example are its words, with a blank between two; the n-th of them has the offset n.

abbrev kind_by : ℕ → TokenKind
kind_by b = if nat_le 48 b && nat_le b 57 then NumberKind
    else (if b == 34 then Text else (if starts_identifier b then Name else Mark))

abbrev kind_of : List ℕ → TokenKind
kind_of [] = Mark
kind_of (b ∷ bs) = kind_by b

abbrev words : List ℕ → List ℕ → List (List ℕ)
words word [] = word ∷ []
words word (b ∷ bs) = if b == 32 then word ∷ words [] bs else words (word ++ b ∷ []) bs

abbrev tokens_from : ℕ → List (List ℕ) → List Token
tokens_from offset [] = []
tokens_from offset (w ∷ ws) = record { kind = kind_of w; start = offset; end = offset + 1; text = w }
    ∷ tokens_from (offset + 1) ws

abbrev tokens : List ℕ → List Token
tokens text = tokens_from 0 (words [] text)

-- a text, and the statements that it is
record Example : Type 0 where
  pub text : List ℕ
  pub statements : List Statement

abbrev is : List ℕ → List Statement → Example
is text ss = record { text = text; statements = ss }

-- the texts are these statements
record AreAll (examples : List Example) : Type 0 where
  pub each : AllByRecursion (λ e. Divides (tokens e.text) e.statements) examples

-- none of the texts is made of statements
record IsntAny (texts : List (List ℕ)) : Type 0 where
  pub each : AllByRecursion (λ text. (ss : List Statement) → ¬ (Divides (tokens text) ss)) texts

each_is : (examples : List Example) → AllByRecursion (λ e. statements_at (tokens e.text) ≡ Some e.statements) examples
    → AllByRecursion (λ e. Divides (tokens e.text) e.statements) examples
each_is [] h = tt
each_is (e ∷ es) h = ((reading_is_exact (tokens e.text) e.statements).1 h.0, each_is es h.1)

are : {examples : List Example} → AllByRecursion (λ e. statements_at (tokens e.text) ≡ Some e.statements) examples
    → AreAll examples
are {examples} h = record { each = each_is examples h }

undivided : (ts : List Token) (ss : List Statement) (o : Option (List Statement)) → statements_at ts ≡ o
    → is_none o ≡ true → Divides ts ss → ⊥
undivided ts ss None e h d = let f = (reading_is_exact ts ss).0 d in absurd cc
undivided ts ss (Some us) e h d = absurd cc

none_is : (texts : List (List ℕ)) → list_all (λ text. is_none (statements_at (tokens text))) texts ≡ true
    → AllByRecursion (λ text. (ss : List Statement) → ¬ (Divides (tokens text) ss)) texts
none_is [] h = tt
none_is (text ∷ texts) h =
    let parts = and_parts (is_none (statements_at (tokens text)))
    (list_all (λ text. is_none (statements_at (tokens text))) texts) h in
    (λ ss d. undivided (tokens text) ss (statements_at (tokens text)) refl parts.0 d, none_is texts parts.1)

isnt : {texts : List (List ℕ)} → list_all (λ text. is_none (statements_at (tokens text))) texts ≡ true → IsntAny texts
isnt {texts} h = record { each = none_is texts h }

-- The statements of examples.

abbrev starting : ℕ → Keyword → Content → Statement
starting offset k content = record { start = offset; keyword = k; content = content }

abbrev one : Keyword → Content → List Statement
one k content = starting 0 k content ∷ []

abbrev decimal : ℕ → ℤ → Number
decimal n exponent = record { mantissa = pos n; exponent = exponent }

abbrev negative : ℕ → ℤ → Number
negative n exponent = record { mantissa = neg_ℤ (pos n); exponent = exponent }

abbrev says : Number → List ℕ → ValueText
says value text = record { value = value; text = text }

abbrev message : Ident → List ℕ → ℕ → Option (List ℕ) → List SignalLine → MessageLine
message ident name length transmitter signals = record {
  ident = ident;
  name = name;
  length = length;
  transmitter = transmitter;
  signals = signals;
}

-- a signal of factor 1, without a unit and receivers
abbrev bare : List ℕ → ℕ → ℕ → Order → Bool → Mux → SignalLine
bare name start size order signed mux = record {
  name = name;
  layout = record { start = start; size = size; order = order };
  signed = signed;
  mux = mux;
  factor = decimal 1 (pos 0);
  offset = decimal 0 (pos 0);
  minimum = decimal 0 (pos 0);
  maximum = decimal 0 (pos 0);
  unit = [];
  receivers = [];
}

abbrev temperature : SignalLine
temperature = record {
  name = codes "T";
  layout = record { start = 16; size = 8; order = Intel };
  signed = false;
  mux = Always;
  factor = decimal 1 (pos 0);
  offset = negative 4 (pos 1);
  minimum = negative 4 (pos 1);
  maximum = decimal 21 (pos 1);
  unit = codes "C";
  receivers = codes "Dash" ∷ [];
}

-- No tokens are no statements, and each statement begins with a keyword.

empty : (ss : List Statement) → Divides [] ss → ss ≡ []
empty [] h = refl
empty (s ∷ ss) h = absurd (let r = statements_are_runs [] s h.0 h.1 in let e = r.2 in cc)

no_keyword : IsntAny (
    codes "X" ∷
    codes "\"VERSION\" \"1.0\"" ∷
    codes ";" ∷
    codes "1" ∷ [])
unfolding statements_at statement_at line_at
no_keyword = isnt refl

-- `VERSION`

versions : AreAll (
    is (codes "VERSION \"1.0\"") (one Version (VersionIs (codes "1.0"))) ∷ [])
unfolding statements_at statement_at line_at version_at
versions = are (refl, tt)

no_versions : IsntAny (
    codes "VERSION 1" ∷
    codes "VERSION" ∷
    codes "VERSION \"1.0\" ;" ∷ [])
unfolding statements_at statement_at line_at version_at
no_versions = isnt refl

-- `NS_`: keywords are names of its list, and it ends before `BS_`, `BU_` or the end alone.

symbols : AreAll (
    is (codes "NS_ :") (one NewSymbols Dropped) ∷
    is (codes "NS_ : CM_ BO_ Vector__XXX") (one NewSymbols Dropped) ∷
    is (codes "NS_ : VERSION BU_ :") (starting 0 NewSymbols Dropped ∷ starting 3 Nodes (NodesAre []) ∷ []) ∷ [])
unfolding statements_at statement_at line_at symbols_at nodes_line_at nodes_at some_names_at no_names_at further_at is_name
symbols = are (refl, (refl, (refl, tt)))

no_symbols : IsntAny (
    codes "NS_" ∷
    codes "NS_ : A 1" ∷
    codes "NS_ : A VERSION \"1.0\"" ∷ [])
unfolding statements_at statement_at line_at symbols_at
no_symbols = isnt refl

-- `BS_`: any numbers, and none with a sign.

timings : AreAll (
    is (codes "BS_ :") (one BitTiming Dropped) ∷
    is (codes "BS_ : 500") (one BitTiming Dropped) ∷
    is (codes "BS_ : 500 : 1 , 2.5") (one BitTiming Dropped) ∷ [])
unfolding statements_at statement_at line_at timing_line_at timing_at registers_at
timings = are (refl, (refl, (refl, tt)))

no_timings : IsntAny (
    codes "BS_" ∷
    codes "BS_ : 1 2" ∷
    codes "BS_ : - 1" ∷
    codes "BS_ : 500 : 1" ∷ [])
unfolding statements_at statement_at line_at timing_line_at timing_at registers_at
no_timings = isnt refl

-- `BU_`: a list of nodes, in which `Vector__XXX` means none and a name may occur twice.

nodes : AreAll (
    is (codes "BU_ :") (one Nodes (NodesAre [])) ∷
    is (codes "BU_ : Vector__XXX") (one Nodes (NodesAre [])) ∷
    is (codes "BU_ : A , B C Vector__XXX A") (one Nodes (NodesAre (codes "A" ∷ codes "B" ∷ codes "C" ∷ codes "A" ∷ [])))
    ∷
    is (codes "BU_ : A VERSION \"\"")
    (starting 0 Nodes (NodesAre (codes "A" ∷ []))
    ∷ starting 3 Version (VersionIs []) ∷ []) ∷ [])
unfolding statements_at statement_at line_at nodes_line_at nodes_at some_names_at no_names_at further_at is_name version_at
nodes = are (refl, (refl, (refl, (refl, tt))))

no_nodes : IsntAny (
    codes "BU_" ∷
    codes "BU_ : , A" ∷
    codes "BU_ : A , , B" ∷
    codes "BU_ : A ," ∷
    codes "BU_ : A 1" ∷
    codes "BU_ : A FILTER" ∷ [])
unfolding statements_at statement_at line_at nodes_line_at nodes_at some_names_at no_names_at further_at is_name skipped_at
no_nodes = isnt refl

-- a name of 128 bytes can be a node, a longer one can't
longest_node : AreAll (is (codes "BU_ : " ++ replicate 128 65) (one Nodes (NodesAre (replicate 128 65 ∷ []))) ∷ [])
unfolding statements_at statement_at line_at nodes_line_at nodes_at some_names_at no_names_at further_at is_name
longest_node = are (refl, tt)

no_longer_node : IsntAny ((codes "BU_ : " ++ replicate 129 65) ∷ [])
unfolding statements_at statement_at line_at nodes_line_at nodes_at some_names_at no_names_at further_at is_name
no_longer_node = isnt refl

-- `VAL_TABLE_`: values are decimals, so that two spellings of one value are one value.

tables : AreAll (
    is (codes "VAL_TABLE_ T ;") (one ValueTable (TableIs (codes "T") [])) ∷
    is (codes "VAL_TABLE_ T 1 \"on\" - 2.50 \"\" ;")
    (one ValueTable (TableIs (codes "T")
    (says (decimal 1 (pos 0)) (codes "on") ∷ says (negative 25 (negsuc 0)) [] ∷ []))) ∷
    is (codes "VAL_TABLE_ T 1.0 \"on\" ;")
    (one ValueTable (TableIs (codes "T") (says (decimal 1 (pos 0)) (codes "on") ∷ []))) ∷
    is (codes "VAL_TABLE_ T + 10E-1 \"on\" ;")
    (one ValueTable (TableIs (codes "T") (says (decimal 1 (pos 0)) (codes "on") ∷ []))) ∷
    is (codes "VAL_TABLE_ T - 0E999 \"off\" ;")
    (one ValueTable (TableIs (codes "T") (says (decimal 0 (pos 0)) (codes "off") ∷ []))) ∷ [])
unfolding statements_at statement_at line_at table_at entries_at entry_at decimal_at reading cut is_name
tables = are (refl, (refl, (refl, (refl, (refl, tt)))))

no_tables : IsntAny (
    codes "VAL_TABLE_ CM_ ;" ∷
    codes "VAL_TABLE_ Vector__XXX ;" ∷
    codes "VAL_TABLE_ T 1 ;" ∷
    codes "VAL_TABLE_ T 1 \"on\"" ∷
    codes "VAL_TABLE_ T - - 1 \"on\" ;" ∷
    codes "VAL_TABLE_ T 1E401 \"on\" ;" ∷ [])
unfolding statements_at statement_at line_at table_at entries_at entry_at decimal_at reading cut is_name
no_tables = isnt refl

-- `BO_` with its signals

idents : map ident_of (0 ∷ 2047 ∷ 2048 ∷ 2147483647 ∷ 2147483648 ∷ 2364540158 ∷ 2684354559 ∷ 2684354560 ∷ [])
    ≡ Some (Std 0) ∷ Some (Std 2047) ∷ None ∷ None ∷ Some (Ext 0) ∷ Some (Ext 217056510) ∷ Some (Ext 536870911) ∷ None
    ∷ []
idents = refl

messages : AreAll (
    is (codes "BO_ 2047 A : 1785 Vector__XXX") (one Message (MessageIs (message (Std 2047) (codes "A") 1785 None []))) ∷
    is (codes "BO_ 2364540158 Msg : 8 ECU SG_ T : 16 | 8 @ 1 + ( 1 , - 40 ) [ - 40 | 210 ] \"C\" Dash")
    (one Message (MessageIs (message (Ext 217056510) (codes "Msg") 8 (Some (codes "ECU")) (temperature ∷ [])))) ∷
    is (codes "BO_ 1 A : 8 Vector__XXX SG_ S M : 0 | 8 @ 1 + ( 1 , 0 ) [ 0 | 0 ] \"\" SG_ m1 m007 : 0 | 64 @ 00 - ( 1 , 0 ) [ 0 | 0 ] \"\"")
    (one Message (MessageIs (message (Std 1) (codes "A") 8 None (
    bare (codes "S") 0 8 Intel false Multiplexor
    ∷ bare (codes "m1") 0 64 Motorola true (Under 7) ∷ [])))) ∷
    is (codes "BO_ 1 A : 8 Vector__XXX SG_ M m4294967295 : 65535 | 8 @ 1 + ( 1 , 0 ) [ 0 | 0 ] \"\" VERSION \"\"")
    (starting 0 Message (MessageIs
    (message (Std 1) (codes "A") 8 None (bare (codes "M") 65535 8 Intel false (Under 4294967295) ∷ [])))
    ∷ starting 27 Version (VersionIs []) ∷ []) ∷
    is (codes "BO_ 1 A : 8 Vector__XXX SG_ B m" ++ replicate 128 48
    ++ codes "7 : 63 | 1 @ 1 + ( 1 , 0 ) [ 0 | 0 ] \"\"")
    (one Message (MessageIs (message (Std 1) (codes "A") 8 None (bare (codes "B") 63 1 Intel false (Under 7) ∷ []))))
    ∷ [])
unfolding statements_at statement_at line_at message_at signals_at signal_at layout_at pair_at decimal_at nodes_at some_names_at
    no_names_at further_at reading cut is_name version_at
messages = are (refl, (refl, (refl, (refl, (refl, tt)))))

no_messages : IsntAny (
    codes "BO_ 2048 A : 8 ECU" ∷
    codes "BO_ 2684354560 A : 8 ECU" ∷
    codes "BO_ 1 CM_ : 8 ECU" ∷
    codes "BO_ 1 A : 1786 ECU" ∷
    codes "BO_ 1 A : 8.0 ECU" ∷
    codes "BO_ 1 A : 8" ∷
    codes "BO_ 1 A : 8 BU_" ∷ [])
unfolding statements_at statement_at line_at message_at signals_at signal_at layout_at pair_at decimal_at nodes_at some_names_at
    no_names_at further_at reading cut is_name independent_at
no_messages = isnt refl

no_signals : IsntAny (
    codes "SG_ S : 0 | 8 @ 1 + ( 1 , 0 ) [ 0 | 0 ] \"\"" ∷
    codes "BO_ 1 A : 8 Vector__XXX SG_ Vector__XXX : 0 | 8 @ 1 + ( 1 , 0 ) [ 0 | 0 ] \"\"" ∷
    codes "BO_ 1 A : 8 Vector__XXX SG_ S m0M : 0 | 8 @ 1 + ( 1 , 0 ) [ 0 | 0 ] \"\"" ∷
    codes "BO_ 1 A : 8 Vector__XXX SG_ S m : 0 | 8 @ 1 + ( 1 , 0 ) [ 0 | 0 ] \"\"" ∷
    codes "BO_ 1 A : 8 Vector__XXX SG_ S m4294967296 : 0 | 8 @ 1 + ( 1 , 0 ) [ 0 | 0 ] \"\"" ∷
    codes "BO_ 1 A : 8 Vector__XXX SG_ S : 65536 | 8 @ 1 + ( 1 , 0 ) [ 0 | 0 ] \"\"" ∷
    codes "BO_ 1 A : 8 Vector__XXX SG_ S : 0 | 0 @ 1 + ( 1 , 0 ) [ 0 | 0 ] \"\"" ∷
    codes "BO_ 1 A : 8 Vector__XXX SG_ S : 0 | 65 @ 1 + ( 1 , 0 ) [ 0 | 0 ] \"\"" ∷
    codes "BO_ 1 A : 8 Vector__XXX SG_ S : 0 | 8 @ 2 + ( 1 , 0 ) [ 0 | 0 ] \"\"" ∷
    codes "BO_ 1 A : 8 Vector__XXX SG_ S : 0 | 8 @ 1 ( 1 , 0 ) [ 0 | 0 ] \"\"" ∷
    codes "BO_ 1 A : 8 Vector__XXX SG_ S : 0 | 8 @ 1 + ( 1 , 0 ) [ 0 | 0 ] \"\" A ," ∷ [])
unfolding statements_at statement_at line_at message_at signals_at signal_at layout_at pair_at decimal_at nodes_at some_names_at
    no_names_at further_at reading cut is_name independent_at
no_signals = isnt refl

-- `BO_ 3221225472` is skipped, whatever follows it, up to the next keyword other than `SG_`.

independents : AreAll (
    is (codes "BO_ 3221225472") (one Message PassedOver) ∷
    is (codes "BO_ 03221225472 A : 8") (one Message PassedOver) ∷
    is (codes "BO_ 3221225472 SG_ 7 ; X VERSION \"\"")
    (starting 0 Message PassedOver
    ∷ starting 6 Version (VersionIs []) ∷ []) ∷ [])
unfolding statements_at statement_at line_at independent_at message_at version_at
independents = are (refl, (refl, (refl, tt)))

no_independents : IsntAny (
    codes "BO_ 3221225472 SG_MUL_VAL_ ;" ∷
    codes "BO_ 3221225472.0" ∷ [])
unfolding statements_at statement_at line_at independent_at message_at
no_independents = isnt refl

-- `CM_`: what is cited needn't be there, and may be a keyword or a number that no message has.

comments : AreAll (
    is (codes "CM_ \"a\\\"b\" ;") (one Comment (CommentIs (codes "a\\\"b"))) ∷
    is (codes "CM_ BU_ CM_ \"a\" ;") (one Comment (NodeCommentIs (codes "CM_") (codes "a"))) ∷
    is (codes "CM_ BO_ 007 \"a\" ;") (one Comment (MessageCommentIs (Some 7) (codes "a"))) ∷
    is (codes "CM_ BO_ 4294967296 \"a\" ;") (one Comment (MessageCommentIs None (codes "a"))) ∷
    is (codes "CM_ SG_ 7 S \"a\" ;") (one Comment (SignalCommentIs (Some 7) (codes "S") (codes "a"))) ∷
    is (codes "CM_ SG_ 7 BO_ \"a\" ;") (one Comment (SignalCommentIs (Some 7) (codes "BO_") (codes "a"))) ∷
    is (codes "CM_ BU_ " ++ replicate 129 65 ++ codes " \"a\" ;")
    (one Comment (NodeCommentIs (replicate 129 65) (codes "a"))) ∷
    is (codes "CM_ EV_ E \"a\" ;") (one Comment PassedOver) ∷ [])
unfolding statements_at statement_at line_at comment_at file_comment_at node_comment_at message_comment_at signal_comment_at
    passed_comment_at skipped_at
comments = are (refl, (refl, (refl, (refl, (refl, (refl, (refl, (refl, tt))))))))

no_comments : IsntAny (
    codes "CM_ VERSION \"a\" ;" ∷
    codes "CM_ BO_ 7.0 \"a\" ;" ∷
    codes "CM_ SG_ 7 \"a\" ;" ∷
    codes "CM_ \"a\"" ∷
    codes "CM_ \"a\" \"b\" ;" ∷
    codes "CM_ EV_ E \"a\"" ∷ [])
unfolding statements_at statement_at line_at comment_at file_comment_at node_comment_at message_comment_at signal_comment_at
    passed_comment_at skipped_at
no_comments = isnt refl

-- `VAL_`: the value texts of a signal are read, those of an environment variable are skipped.

value_texts : AreAll (
    is (codes "VAL_ 7 S ;") (one ValueTexts (ValueTextsAre (Some 7) (codes "S") [])) ∷
    is (codes "VAL_ 7 S 0 \"off\" 1 \"on\" ;")
    (one ValueTexts (ValueTextsAre (Some 7) (codes "S")
    (says (decimal 0 (pos 0)) (codes "off") ∷ says (decimal 1 (pos 0)) (codes "on") ∷ []))) ∷
    is (codes "VAL_ 7 VERSION ;") (one ValueTexts (ValueTextsAre (Some 7) (codes "VERSION") [])) ∷
    is (codes "VAL_ CM_ 0 0 ;") (one ValueTexts PassedOver) ∷ [])
unfolding statements_at statement_at line_at value_texts_at passed_value_texts_at skipped_at entries_at entry_at decimal_at reading
    cut
value_texts = are (refl, (refl, (refl, (refl, tt))))

no_value_texts : IsntAny (
    codes "VAL_ \"a\" ;" ∷
    codes "VAL_ 7.0 S ;" ∷
    codes "VAL_ 7 S 0 ;" ∷
    codes "VAL_ S" ∷ [])
unfolding statements_at statement_at line_at value_texts_at passed_value_texts_at skipped_at entries_at entry_at decimal_at reading
    cut
no_value_texts = isnt refl

-- `SIG_VALTYPE_`

value_types : AreAll (
    is (codes "SIG_VALTYPE_ 7 S : 1 ;") (one SignalValueType (ValueTypeIs (Some 7) (codes "S") Float)) ∷
    is (codes "SIG_VALTYPE_ 7 S 02 ;") (one SignalValueType (ValueTypeIs (Some 7) (codes "S") Double)) ∷
    is (codes "SIG_VALTYPE_ 7 CM_ 1 ;") (one SignalValueType (ValueTypeIs (Some 7) (codes "CM_") Float)) ∷ [])
unfolding statements_at statement_at line_at value_type_at
value_types = are (refl, (refl, (refl, tt)))

no_value_types : IsntAny (
    codes "SIG_VALTYPE_ 7 S : 3 ;" ∷
    codes "SIG_VALTYPE_ 7 S : 1.0 ;" ∷
    codes "SIG_VALTYPE_ 7 S : : 1 ;" ∷
    codes "SIG_VALTYPE_ 7 S : ;" ∷ [])
unfolding statements_at statement_at line_at value_type_at
no_value_types = isnt refl

-- `BA_`: what isn't of the form that is read is skipped.

attributes : AreAll (
    is (codes "BA_ \"SPN\" SG_ 7 S 524287 ;") (one AttributeValue (SpnIs (Some 7) (codes "S") 524287)) ∷
    is (codes "BA_ \"SPN\" SG_ 7 S 524288 ;") (one AttributeValue PassedOver) ∷
    is (codes "BA_ \"SPN\" SG_ 7 CM_ 5 ;") (one AttributeValue (SpnIs (Some 7) (codes "CM_") 5)) ∷
    is (codes "BA_ \"SPN\" SG_ 7.0 S 5 ;") (one AttributeValue PassedOver) ∷
    is (codes "BA_ \"SPN\" BO_ 7 5 ;") (one AttributeValue PassedOver) ∷
    is (codes "BA_ \"Cycle\" BO_ 7 100 ;") (one AttributeValue PassedOver) ∷ [])
unfolding statements_at statement_at line_at spn_at skipped_at
attributes = are (refl, (refl, (refl, (refl, (refl, (refl, tt))))))

no_attributes : IsntAny (
    codes "BA_ \"SPN\" SG_ 7 S 500" ∷
    codes "BA_ \"SPN\" SG_ 7 S 500 ; ;" ∷
    codes "BA_" ∷ [])
unfolding statements_at statement_at line_at spn_at skipped_at
no_attributes = isnt refl

-- Other keywords: skipped up to the next `;`, with keywords and texts of any kind on the way; but no statement begins
-- with `SG_MUL_VAL_`.

passed : AreAll (
    is (codes "BA_DEF_ SG_ \"SPN;\" INT 0 524287 ;") (one AttributeDefinition PassedOver) ∷
    is (codes "SIG_GROUP_ ;") (one SignalGroup PassedOver) ∷
    is (codes "SIG_GROUP_ BO_ VERSION ; FILTER ;")
    (starting 0 SignalGroup PassedOver
    ∷ starting 4 Filter PassedOver ∷ []) ∷ [])
unfolding statements_at statement_at line_at skipped_at
passed = are (refl, (refl, (refl, tt)))

not_passed : IsntAny (
    codes "SIG_GROUP_ 7" ∷
    codes "SG_MUL_VAL_ 7 A B 1 - 1 ;" ∷
    codes "BU_ : A SG_MUL_VAL_ ;" ∷ [])
unfolding statements_at statement_at line_at skipped_at nodes_line_at nodes_at some_names_at no_names_at further_at is_name
not_passed = isnt refl
