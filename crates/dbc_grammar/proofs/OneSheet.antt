-- Statements say one sheet at most.
use Rattle.dbc_grammar.proofs.Common.{◌≡◌, List, map, sym, ◌∙◌, IsPermutation-sym, number_of, Sheet}
use Rattle.std.proofs.lemmas.List.Sorted.{IsPermutation-trans}
use Rattle.dbc_grammar.specs.Saying.{Says, messages_of, whole_message}
use Rattle.dbc_grammar.specs.Statement.{Statement}
use Rattle.dbc_grammar.proofs.AscendingUnique.{one_ascending}

pub one_sheet : (statements : List Statement) (s t : Sheet) → Says statements s → Says statements t → s ≡ t
one_sheet statements s t a b =
    let version : s.version ≡ t.version = a.version ∙ sym b.version in
    let comment : s.comment ≡ t.comment = a.comment ∙ sym b.comment in
    let nodes : s.nodes ≡ t.nodes = a.nodes ∙ sym b.nodes in
    let tables : s.tables ≡ t.tables = a.tables ∙ sym b.tables in
    let messages : s.messages ≡ t.messages =
    one_ascending number_of s.messages t.messages a.is_sheet.well_formed.together.ascending
    b.is_sheet.well_formed.together.ascending
    (IsPermutation-trans s.messages (map (whole_message statements) (messages_of statements)) t.messages
    (IsPermutation-sym _ _ a.messages) b.messages) in
    λ i. record { version = version i; comment = comment i; nodes = nodes i; tables = tables i; messages = messages i }
