-- Statements that can't be skipped.
use Rattle.dbc_keep_law.proofs.Common.{List, Rule, Content, Token}
use Rattle.dbc_grammar.specs.Grammar.{file_comment, message_line, nodes_line, symbols_line, table_line, timing_line}
use Rattle.dbc_grammar.specs.Grammar.{version_line}
use Rattle.dbc_keep_law.proofs.FramedStatements.{CanPass, cannot}

-- nothing that the rule reads can be skipped
abbrev pub Never : Rule Content → Type 0
Never rule = (ts : List Token) (c : Content) (rest : List Token) → rule ts c rest → CanPass c → ⊥

pub never_version : Never version_line
unfolding version_line
never_version ts c rest h can = cannot c _ h.goes_on.value (λ x. x) can

pub never_symbols : Never symbols_line
unfolding symbols_line
never_symbols ts c rest h can = cannot c _ h.goes_on.goes_on.goes_on.value (λ x. x) can

pub never_timing : Never timing_line
unfolding timing_line
never_timing ts c rest h can = cannot c _ h.goes_on.goes_on.value (λ x. x) can

pub never_nodes : Never nodes_line
unfolding nodes_line
never_nodes ts c rest h can = cannot c _ h.goes_on.goes_on.value (λ x. x) can

pub never_table : Never table_line
unfolding table_line
never_table ts c rest h can = cannot c _ h.goes_on.goes_on.goes_on.value (λ x. x) can

pub never_file_comment : Never file_comment
unfolding file_comment
never_file_comment ts c rest h can = cannot c _ h.goes_on.goes_on.value (λ x. x) can

pub never_message : Never message_line
unfolding message_line
never_message ts c rest h can = cannot c _ h.goes_on.goes_on.goes_on.goes_on.goes_on.goes_on.value (λ x. x) can
