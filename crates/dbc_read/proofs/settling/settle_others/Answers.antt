use Rattle.dbc_read.proofs.Common.{◌∙◌, refl, sym, err_from_is_err_and, statement_of}
use Rattle.dbc_read.proofs.Apart.{none_apart, one_apart, skipped_apart}
use Rattle.dbc_read.proofs.OneByOne.{begin_with_all, begin_without, none_read, one_read}
use Rattle.dbc_read.proofs.Settled.{finds_signals_same}
use Rattle.dbc_read.proofs.settling.settle_others.Goals as goal

pub statements-init : goal.statements-init
statements-init c = record {
  source = refl;
  messages = refl;
  read =
      none_read _ c.args.statements.now.tokens (none_apart c.args.finders.now c.args.lines.now c.args.gathered.now);
}

pub settle-requires : goal.settle-requires
settle-requires c = record {
  none = sym c.defines.ensures ∙ c.if-not-defines.true;
  signals = finds_signals_same c.args.finders.now c.args.lines.now c.statements.lines c.statements.invariant.messages
      c.requires;
}

pub statements-preserved-else-not-branch : goal.statements-preserved-else-not-branch
statements-preserved-else-not-branch c =
    let at = c.statements in
    let next = c.in-Some.next in
    record {
      source = c.read_next.ensures.source ∙ at.invariant.source;
      messages = c.settle.ensures.messages ∙ at.invariant.messages;
      read = one_read _ _ (statement_of next) c.args.statements.now.tokens at.statements.tokens
          c.read_next.new.self.tokens (rw c.in-Some.is at c.in_ok-next.ensures.next)
          (λ stated h.
          one_apart c.args.finders.now stated next c.args.lines.now at.lines c.settle.new.lines c.args.gathered.now
          at.gathered c.settle.new.gathered at.invariant.messages h
          (c.in_ok-settle.ensures.settles c.if-not-branch.false)) at.invariant.read;
    }

pub statements-preserved : goal.statements-preserved
statements-preserved c =
    let at = c.statements in
    let next = c.in-Some.next in
    record {
      source = c.read_next.ensures.source ∙ at.invariant.source;
      messages = at.invariant.messages;
      read = one_read _ _ (statement_of next) c.args.statements.now.tokens at.statements.tokens
          c.read_next.new.self.tokens (rw c.in-Some.is at c.in_ok-next.ensures.next)
          (λ stated h. skipped_apart c.args.finders.now stated next c.args.lines.now at.lines c.args.gathered.now
          at.gathered (sym c.defines.ensures ∙ c.if-not-defines.false) h) at.invariant.read;
    }

pub returns-in_err-next-clause-err : goal.returns-in_err-next-clause-err
returns-in_err-next-clause-err c =
    let at = c.statements in
    let p = err_from_is_err_and c.from_residual.result c.from_residual.ensures.1 in
    rw (p.1, p.2) (λ memory. begin_without at.invariant.read.stated c.args.statements.now.tokens at.statements.tokens
    at.invariant.read.read (c.in_err-next.ensures.err memory))

pub returns-clause-ok : goal.returns-clause-ok
returns-clause-ok c = λ yes.
    let at = c.statements in
    let all = at.invariant.read in
    record {
      stated = all.stated;
      read = begin_with_all all.stated c.args.statements.now.tokens at.statements.tokens
          all.read (rw c.in_default.is at c.in_ok-next.ensures.end);
      gathered = all.is;
    }
