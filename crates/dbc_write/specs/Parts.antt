-- The canonical lines of a sheet by parts.
use Rattle.std.specs.Prelude.{List, [], ◌∷◌, ◌++◌, map}
use Rattle.std.specs.List.{flat_map}
use Rattle.dbc_grammar.specs.Canon.{Line, comment_lines, message_comments, message_lines, node_comment, nodes_line, symbols_line, table_line, timing_line, version_line}
use Rattle.dbc_sheet.specs.declared.sheet.Sheet.{Sheet}

-- the file, its nodes, its value tables and its messages
abbrev pub definition_part : Sheet → List Line
definition_part s = version_line s ∷ symbols_line ∷ timing_line ∷ nodes_line s ∷ map table_line s.tables ++ flat_map message_lines s.messages

-- all comments
abbrev pub comment_part : Sheet → List Line
comment_part s = comment_lines [] s.comment ++ flat_map node_comment s.nodes ++ flat_map message_comments s.messages
