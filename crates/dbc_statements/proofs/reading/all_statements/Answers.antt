use Rattle.dbc_statements.proofs.Common.{List, [], ◌∷◌, inl, refl, ap, err_from_is_err_and, many_at, is_more}
use Rattle.dbc_statements.proofs.Common.{statement_at, Statement, Token, statements_take, goes_round, token_of}
use Rattle.std.proofs.lemmas.List.{map-append}
use Rattle.dbc_statements.specs.Statement.{statements_of, statement_of}
use Rattle.dbc_statements.proofs.Offsets.{first_reached, statement_within}
use Rattle.dbc_statements.proofs.LoopRounds.{at_start}
use Rattle.dbc_statements.proofs.WholeText.{are_all, are_none}
use Rattle.dbc_statements.proofs.reading.all_statements.Goals as goal

pub statements-init : goal.statements-init
statements-init c = record {
  read = rw c.new-statements.ensures.items (at_start (many_at is_more statement_at c.args.tokens.now));
  within = ([], refl);
  reached = inl refl;
}

pub statements-smaller : goal.statements-smaller
statements-smaller c =
    statements_take.shorter c.statements.tokens (statement_of c.in_ok-next.next, c.statement.new.tokens)
    (ap is_more c.in-Some.ensures.first) c.in_ok-next.ensures.reads

pub statements-preserved : goal.statements-preserved
statements-preserved c =
    let next : Statement × List Token = (statement_of c.in_ok-next.next, c.statement.new.tokens) in
    record {
      read = rw (
        c.in_ok-push.ensures.items,
        map-append statement_of c.statements.statements.items
            (c.in_ok-next.next ∷ []),
      )
          (goes_round statements_take (statements_of c.statements.statements.items) c.statements.tokens next _
          (ap is_more c.in-Some.ensures.first) c.in_ok-next.ensures.reads c.statements.invariant.read);
      within = statement_within c.args.tokens.now c.statements.tokens next c.statements.invariant.within
          c.in_ok-next.ensures.reads;
      reached = first_reached c.args.tokens.now c.statements.tokens (token_of c.in-Some.first)
          c.statements.invariant.within c.in-Some.ensures.first;
    }

pub returns-in_err-next-clause-err : goal.returns-in_err-next-clause-err
returns-in_err-next-clause-err c =
    let p = err_from_is_err_and c.from_residual.result c.from_residual.ensures.1 in
    rw (p.1, p.2) (λ memory. are_none c.args.tokens.now c.statements.tokens
    (statements_of c.statements.statements.items) c.statements.invariant.read (ap is_more c.in-Some.ensures.first)
    (c.in_err-next.ensures.reads memory))

pub returns-in_err-next-clause-reached : goal.returns-in_err-next-clause-reached
returns-in_err-next-clause-reached c =
    first_reached c.args.tokens.now c.statements.tokens (token_of c.in-Some.first) c.statements.invariant.within
    c.in-Some.ensures.first

pub returns-in_err-push-clause-reached : goal.returns-in_err-push-clause-reached
returns-in_err-push-clause-reached c =
    first_reached c.args.tokens.now c.statements.tokens (token_of c.in-Some.first) c.statements.invariant.within
    c.in-Some.ensures.first

pub returns-clause-ok : goal.returns-clause-ok
returns-clause-ok c = are_all c.args.tokens.now c.statements.tokens (statements_of c.statements.statements.items)
    c.statements.invariant.read (ap is_more c.in_default.ensures.first)
