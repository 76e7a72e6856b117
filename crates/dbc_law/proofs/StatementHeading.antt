-- The lines before the messages are statements: version, `NS_`, `BS_`, nodes and value tables.
use Rattle.dbc_law.proofs.Common.{◌≡◌, ◌∙◌, ℕ, true, List, [], ◌∷◌, map, None, refl, sym, ap, codes, All, flat_map}
use Rattle.dbc_law.proofs.Common.{All-head, All-tail, IsNode, IsSheet, IsTable, node_name, Token, Node, Sheet}
use Rattle.dbc_law.proofs.Common.{ValueTable}
use Rattle.std.proofs.lemmas.List.Elements.{All-weaker}
use Rattle.dbc_words.specs.declared.keyword.Keyword.TheVariants as keyword
use Rattle.dbc_grammar.specs.Canon as canon
use Rattle.dbc_grammar.specs.Grammar as grammar
use Rattle.dbc_grammar.specs.Statement.{Dropped, NodesAre, VersionIs}
use Rattle.dbc_law.proofs.Contents.{node_names, table}
use Rattle.dbc_law.proofs.PieceTokens.{line}
use Rattle.dbc_law.proofs.StatementEnds.{next_ends}
use Rattle.dbc_law.proofs.StatementLines.{Writes, ◌also◌, begins_next, statement_is_read, writes_line, writes_none}
use Rattle.dbc_law.proofs.StatementNodes.{IsNamed, spaced_nodes}
use Rattle.dbc_law.proofs.StatementRules.{chain, finish, past, split_pieces, then_followed}
use Rattle.dbc_law.proofs.StatementValues.{entries_read}
use Rattle.dbc_law.proofs.StatementWords.{says_made, says_text}

-- ---- the version

version_reads : (version : List ℕ) (ts rest : List Token) → line ts (canon.quoted canon.space version ∷ []) rest
    → grammar.next rest ≡ true
    → grammar.line keyword.Version ts (VersionIs version) rest
unfolding grammar.line grammar.version_line
version_reads version ts rest (end, text, same) next = past text (says_text canon.space version) (finish same)

version_writes : (s : Sheet) → Writes (canon.version_line s ∷ []) (VersionIs s.version ∷ [])
version_writes s = writes_line keyword.Version (canon.quoted canon.space s.version ∷ []) _ refl
    (version_reads s.version)

-- ---- `NS_` and `BS_`

-- `NS_` takes names up to `BS_`, and there are none
symbols_and_timing_write : Writes (canon.symbols_line ∷ canon.timing_line ∷ []) (Dropped ∷ Dropped ∷ [])
unfolding grammar.line grammar.symbols_line grammar.timing_line
symbols_and_timing_write = record {
  written = λ ts rest (a, (b, symbols, (c, colon, end)), (d, (e, timing, (f, mark, last)), same)) next.
      let at_timing : grammar.ends_symbols c ≡ true = ap grammar.ends_symbols (sym end ∙ timing.front) in
      let first = statement_is_read keyword.NewSymbols Dropped ts b a symbols
      (past colon (λ _ _. refl) (chain [] c refl (then_followed at_timing (finish end)))) in
      let second = statement_is_read keyword.BitTiming Dropped a e d timing
      (past mark (λ _ _. refl) (chain None f refl (finish last))) in
      ((a, first, (d, second, same)), begins_next keyword.NewSymbols ts b refl symbols);
}

-- ---- the nodes

abbrev nodes_after : Sheet → List canon.Piece
nodes_after s = canon.mark canon.tight (codes ":") ∷ map (λ (n : Node). canon.word canon.space n.name) s.nodes

nodes_read : (s : Sheet) → All IsNode s.nodes → (ts rest : List Token) → line ts (nodes_after s) rest
    → grammar.next rest ≡ true
    → grammar.line keyword.Nodes ts (NodesAre (node_names s)) rest
unfolding grammar.line grammar.nodes_line
nodes_read s h ts rest (middle, colon, names) next =
    let named = All-weaker IsNode (IsNamed node_name) (λ n k. k.named) s.nodes h in
    past colon (λ _ _. refl)
    (chain (node_names s) rest (spaced_nodes node_name s.nodes middle rest named names (next_ends rest next))
    (finish refl))

nodes_write : (s : Sheet) → All IsNode s.nodes → Writes (canon.nodes_line s ∷ []) (NodesAre (node_names s) ∷ [])
nodes_write s h = writes_line keyword.Nodes (nodes_after s) _ refl (nodes_read s h)

-- ---- value tables

abbrev table_after : ValueTable → List canon.Piece
table_after t = canon.word canon.space t.name ∷ canon.entries t.entries

table_reads : (t : ValueTable) → IsTable t → (ts rest : List Token) → line ts (table_after t) rest
    → grammar.next rest ≡ true
    → grammar.line keyword.ValueTable ts (table t) rest
unfolding grammar.line grammar.table_line
table_reads t h ts rest (middle, name, after) next =
    split_pieces (flat_map canon.entry t.entries) (canon.mark canon.space (codes ";") ∷ []) middle rest after
    (λ end entries (last, mark, same).
    past name (says_made canon.space t.name h.named)
    (chain t.entries end (entries_read t.entries middle end h.entries entries)
    (past mark (λ _ _. refl) (finish same))))

table_writes : (t : ValueTable) → IsTable t → Writes (canon.table_line t ∷ []) (table t ∷ [])
table_writes t h = writes_line keyword.ValueTable (table_after t) _ refl (table_reads t h)

pub tables_write : (tables : List ValueTable) → All IsTable tables
    → Writes (map canon.table_line tables) (map table tables)
tables_write [] h = writes_none
tables_write (t ∷ tables) h =
    table_writes t (All-head IsTable t tables h) also tables_write tables (All-tail IsTable t tables h)

-- ---- those before the tables

pub heading_writes : (s : Sheet) → IsSheet s
    → Writes (canon.version_line s ∷ canon.symbols_line ∷ canon.timing_line ∷ canon.nodes_line s ∷ [])
    (VersionIs s.version ∷ Dropped ∷ Dropped ∷ NodesAre (node_names s) ∷ [])
heading_writes s h = version_writes s also symbols_and_timing_write also nodes_write s h.nodes
