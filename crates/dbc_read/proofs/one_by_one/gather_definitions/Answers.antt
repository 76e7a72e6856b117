use Rattle.dbc_read.proofs.Common.{◌≡◌, ◌∙◌, ◌++◌, false, [], ◌∷◌, None, ap, refl, subst, sym, err_from_is_err_and}
use Rattle.dbc_read.proofs.Common.{content_of, statement_of}
use Rattle.dbc_grammar.specs.Statement as dbc
use Rattle.dbc_read.specs.Gathered.{passed_of}
use Rattle.dbc_read.specs.Gathering.{AreBare, IsDefining, cites}
use Rattle.dbc_read.specs.declared.gathered.Gathered.{Gathered}
use Rattle.dbc_read.proofs.Building.{bare_after}
use Rattle.dbc_read.proofs.OneByOne.{begin_with_more, begin_with_nothing, begin_without, none_read, one_defined}
use Rattle.dbc_read.proofs.OneByOne.{one_read}
use Rattle.dbc_statements.specs.Left.{Left}
use Rattle.dbc_read.proofs.one_by_one.gather_definitions.Goals as goal

pub statements-init : goal.statements-init
statements-init c = record { source = refl; read = none_read _ c.args.statements.now.tokens (λ h. h); bare = λ h. h }

pub statements-smaller : goal.statements-smaller
statements-smaller c = (rw c.in-Some.is at c.in_ok-next.ensures.next).fewer

pub statements-preserved : goal.statements-preserved
statements-preserved c =
    let at = c.statements in
    let next = c.in-Some.next in
    let kept = c.without_offsets.result in
    let cites_none : cites (content_of kept.content) ≡ false =
    ap (λ (s : dbc.Statement). cites s.content) c.without_offsets.ensures.says ∙ sym c.cites.ensures
    ∙ c.if-cites.false in
    record {
      source = c.read_next.ensures.source ∙ at.invariant.source;
      read = one_read _ _ (statement_of next) c.args.statements.now.tokens at.statements.tokens
          c.read_next.new.self.tokens (rw c.in-Some.is at c.in_ok-next.ensures.next)
          (λ stated h begun.
          subst (λ (s : dbc.Statement). IsDefining (stated ++ s ∷ []) c.gather_statement.new.gathered)
          c.without_offsets.ensures.says
          (one_defined stated kept at.gathered c.gather_statement.new.gathered cites_none
          c.in_ok-gather_statement.ensures (h begun))) at.invariant.read;
      bare = λ h. subst (λ (g : Gathered). AreBare g.messages) (sym c.in_ok-gather_statement.ensures)
          (bare_after None (passed_of kept) kept.content at.gathered
          (c.without_offsets.ensures.nothing (rw c.in-Some.is at c.in_ok-next.ensures.nothing))
          (at.invariant.bare h));
    }

pub returns-in_err-next-clause-err : goal.returns-in_err-next-clause-err
returns-in_err-next-clause-err c =
    let at = c.statements in
    let p = err_from_is_err_and c.from_residual.result c.from_residual.ensures.1 in
    rw (p.1, p.2) (λ memory. begin_without at.invariant.read.stated c.args.statements.now.tokens at.statements.tokens
    at.invariant.read.read (c.in_err-next.ensures.err memory))

pub returns-then-cites-clause-ok : goal.returns-then-cites-clause-ok
returns-then-cites-clause-ok c =
    let at = c.statements in
    let begun = at.invariant.read in
    record {
      stated = begun.stated;
      read = begin_with_more begun.stated (statement_of c.in-Some.next) c.args.statements.now.tokens
          at.statements.tokens c.read_next.new.self.tokens begun.read (rw c.in-Some.is at c.in_ok-next.ensures.next);
      cites = sym c.cites.ensures ∙ c.if-cites.true;
      gathered = begun.is;
    }

pub returns-clause-ok : goal.returns-clause-ok
returns-clause-ok c =
    let at = c.statements in
    let begun = at.invariant.read in
    let same : c.read_next.new.self ≡ at.statements = rw c.in_default.is at c.in_ok-next.ensures.last in
    record {
      stated = begun.stated;
      read = begin_with_nothing begun.stated c.args.statements.now.tokens at.statements.tokens
          c.read_next.new.self.tokens (ap (λ (s : Left). s.tokens) same) begun.read;
      cites = tt;
      gathered = begun.is;
    }
