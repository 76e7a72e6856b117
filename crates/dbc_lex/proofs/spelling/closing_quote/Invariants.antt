use Rattle.std.proofs.Common.{◌≡◌, ◌-◌, false, length, drop}
use Rattle.dbc_grammar.specs.Lexing.{inside_len}
use Rattle.dbc_lex.specs.Offset.{further_by}
use Rattle.dbc_lex.proofs.spelling.closing_quote.Given as goal

abbrev pub invariant-loop-n : goal.invariant-loop-n
invariant-loop-n l = further_by l.n (inside_len false (drop l.n l.source))
    ≡ further_by l.at (inside_len false (drop l.at l.source))

abbrev pub decreases-loop-n : goal.decreases-loop-n
decreases-loop-n l = length l.source - l.n
