use Rattle.dbc_statements.proofs.Common.{◌≡◌, ◌∙◌, List, Some, ap, sym, err_from_is_err_and, is_more, statement_at}
use Rattle.dbc_statements.proofs.Common.{Statement, Token, token_of}
use Rattle.dbc_statements.specs.Statement.{statement_of}
use Rattle.dbc_statements.proofs.OneStatement.{begins_with, left_after, left_reached, none_left, not_there}
use Rattle.dbc_statements.proofs.dividing.Statements.read_next.Goals as goal

pub invariant_of-self : goal.invariant_of-self
invariant_of-self c =
    let at = c.self.inside in
    left_reached at.source.now at.tokens at.reached c.self.invariant (token_of c.in-Some.first) c.in-Some.ensures.first

pub invariant_of-self-in-Some : goal.invariant_of-self-in-Some
invariant_of-self-in-Some c =
    let at = c.self.inside in
    let next : Statement × List Token = (statement_of c.in_ok-next-in-Some.next, c.statement.new.tokens) in
    let read : statement_at at.tokens ≡ Some next = ap statement_at (sym c.fork-trial.ensures)
    ∙ c.in_ok-next-in-Some.ensures.reads in
    left_after at.source.now at.tokens c.in-Some.first.end
    (left_reached at.source.now at.tokens at.reached c.self.invariant (token_of c.in-Some.first)
    c.in-Some.ensures.first) next read

pub returns-in_ok-next-in-Some-clause-next : goal.returns-in_ok-next-in-Some-clause-next
returns-in_ok-next-in-Some-clause-next c =
    let at = c.self.inside in
    let next : Statement × List Token = (statement_of c.in_ok-next-in-Some.next, c.statement.new.tokens) in
    let read : statement_at at.tokens ≡ Some next = ap statement_at (sym c.fork-trial.ensures)
    ∙ c.in_ok-next-in-Some.ensures.reads in
    rw (← c.self.view_is) (begins_with at.tokens next (ap is_more c.in-Some.ensures.first) read)

pub returns-in_err-next-in-Some-clause-err : goal.returns-in_err-next-in-Some-clause-err
returns-in_err-next-in-Some-clause-err c =
    let at = c.self.inside in
    let p = err_from_is_err_and c.from_residual.result c.from_residual.ensures.1 in
    rw (p.1, p.2, ← c.self.view_is)
    (λ memory. not_there at.tokens (ap is_more c.in-Some.ensures.first)
    (ap statement_at (sym c.fork-trial.ensures) ∙ c.in_err-next-in-Some.ensures.reads memory))

pub returns-in-None-clause-end : goal.returns-in-None-clause-end
returns-in-None-clause-end c =
    rw (← c.self.view_is) (none_left c.self.inside.tokens (ap is_more c.in-None.ensures.first))
