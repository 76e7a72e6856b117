-- The lines before the messages are legible: version, `NS_`, `BS_`, nodes and value tables.
use Rattle.dbc_law.proofs.Common.{List, [], ◌∷◌, map, refl, All, All-head, All-tail, space, word, IsNode, IsSheet}
use Rattle.dbc_law.proofs.Common.{IsTable, IsValueText, Node, Sheet, ValueTable, ValueText}
use Rattle.dbc_words.specs.declared.keyword.Keyword.TheVariants as keyword
use Rattle.dbc_grammar.specs.Canon.{entries, entry, nodes_line, symbols_line, table_line, timing_line, version_line}
use Rattle.dbc_law.proofs.TokenLegible.{AreLegible, CanFollow, each_follows, follow_append, no_pieces}
use Rattle.dbc_law.proofs.TokenLines.{AreLegibleLines, line_of_each}
use Rattle.dbc_law.proofs.TokenPieces.{keyword_line, mark_follows, name_follows, spaced_mark_follows, text_follows}
use Rattle.dbc_law.proofs.TokenPieces.{value_follows}

-- ---- value tables

entry_follows : (v : ValueText) → IsValueText v → CanFollow (entry v)
entry_follows v h = follow_append (value_follows v.value h.value) (text_follows v.text [] h.text tt)

pub entries_follow : (vs : List ValueText) → All IsValueText vs → CanFollow (entries vs)
entries_follow vs h = follow_append (each_follows IsValueText entry entry_follows vs h)
    (spaced_mark_follows 59 [] refl tt)

table_legible : (t : ValueTable) → IsTable t → AreLegible (table_line t)
table_legible t h = keyword_line keyword.ValueTable _
    (name_follows t.name _ h.named (entries_follow t.entries h.entries))

pub tables_legible : (tables : List ValueTable) → All IsTable tables → AreLegibleLines (map table_line tables)
tables_legible tables h = line_of_each IsTable table_line table_legible tables h

-- ---- those before the tables

names_follow : (nodes : List Node) → All IsNode nodes → CanFollow (map (λ (n : Node). word space n.name) nodes)
names_follow [] h = no_pieces
names_follow (n ∷ nodes) h =
    name_follows n.name _ (All-head IsNode n nodes h).named (names_follow nodes (All-tail IsNode n nodes h))

pub heading_legible : (s : Sheet) → IsSheet s
    → AreLegibleLines (version_line s ∷ symbols_line ∷ timing_line ∷ nodes_line s ∷ [])
heading_legible s h =
    let version = keyword_line keyword.Version _ (text_follows s.version [] h.version tt) in
    let symbols = keyword_line keyword.NewSymbols _ (spaced_mark_follows 58 [] refl tt) in
    let timing = keyword_line keyword.BitTiming _ (mark_follows 58 [] refl tt) in
    let nodes = keyword_line keyword.Nodes _ (mark_follows 58 _ refl (names_follow s.nodes h.nodes).legible) in
    record { each = (version, (symbols, (timing, (nodes, tt)))) }
