use Rattle.dbc_read.proofs.Common.{◌∙◌, [], ◌∷◌, refl, sym, err_from_is_err_and, statement_of}
use Rattle.dbc_read.proofs.OneByOne.{begin_with_all, begin_with_more, begin_without, none_read, one_read}
use Rattle.dbc_read.proofs.Settled.{defining_nothing, finds_signals_same, none_settled, settled_both}
use Rattle.dbc_read.proofs.settling.settle_all.Goals as goal

pub statements-init : goal.statements-init
statements-init c = record {
  source = refl;
  messages = refl;
  read =
      none_read _ c.args.statements.now.tokens
      (tt, none_settled c.args.finders.now c.args.lines.now c.args.gathered.now);
}

pub statements-smaller : goal.statements-smaller
statements-smaller c = (rw c.in-Some.is at c.in_ok-next.ensures.next).fewer

pub settle-requires : goal.settle-requires
settle-requires c = record {
  none = sym c.defines.ensures ∙ c.if-defines.false;
  signals = finds_signals_same c.args.finders.now c.args.lines.now c.statements.lines c.statements.invariant.messages
      c.requires;
}

pub statements-preserved : goal.statements-preserved
statements-preserved c =
    let at = c.statements in
    let s = statement_of c.in-Some.next in
    record {
      source = c.read_next.ensures.source ∙ at.invariant.source;
      messages = c.settle.ensures.messages ∙ at.invariant.messages;
      read = one_read _ _ s c.args.statements.now.tokens at.statements.tokens c.read_next.new.self.tokens
          (rw c.in-Some.is at c.in_ok-next.ensures.next)
          (λ stated h. (
            defining_nothing stated (s ∷ []) h.0 (sym c.defines.ensures ∙ c.if-defines.false, tt),
            settled_both c.args.finders.now stated (s ∷ []) c.args.lines.now at.lines c.settle.new.lines
                c.args.gathered.now at.gathered c.settle.new.gathered at.invariant.messages h.1
                (c.in_ok-settle.ensures.settles c.if-not-branch.false),
          )) at.invariant.read;
    }

pub returns-in_err-next-clause-err : goal.returns-in_err-next-clause-err
returns-in_err-next-clause-err c =
    let at = c.statements in
    let p = err_from_is_err_and c.from_residual.result c.from_residual.ensures.1 in
    rw (p.1, p.2) (λ memory. begin_without at.invariant.read.stated c.args.statements.now.tokens at.statements.tokens
    at.invariant.read.read (c.in_err-next.ensures.err memory))

pub returns-then-defines-clause-ok : goal.returns-then-defines-clause-ok
returns-then-defines-clause-ok c =
    let at = c.statements in
    let some = at.invariant.read in
    record {
      stated = some.stated;
      read = begin_with_more some.stated (statement_of c.in-Some.next) c.args.statements.now.tokens at.statements.tokens
          c.read_next.new.self.tokens some.read (rw c.in-Some.is at c.in_ok-next.ensures.next);
      none = some.is.0;
      gathered = some.is.1;
    }

pub returns-clause-ok : goal.returns-clause-ok
returns-clause-ok c =
    let at = c.statements in
    let all = at.invariant.read in
    record {
      stated = all.stated;
      read = begin_with_all all.stated c.args.statements.now.tokens at.statements.tokens
          all.read (rw c.in_default.is at c.in_ok-next.ensures.end);
      none = all.is.0;
      gathered = all.is.1;
    }
