use Rattle.dbc_read.proofs.Common.{◌∙◌, ◌++◌, List, [], ◌∷◌, append_assoc, append-nil, refl, subst, sym}
use Rattle.dbc_read.proofs.Common.{err_from_is_err_and, statement_of}
use Rattle.dbc_grammar.specs.Statement as dbc
use Rattle.dbc_read.specs.Definitions.{AreDefinitions}
use Rattle.dbc_read.proofs.DefinitionsAlone.{few_with_one, many_stated}
use Rattle.dbc_read.proofs.OneByOne.{begin_with_all, begin_with_more, begin_without, none_read, one_read}
use Rattle.dbc_read.proofs.definitions.further_definitions.Goals as goal

pub statements-init : goal.statements-init
statements-init c = record {
  source = refl;
  read =
      none_read _ c.args.statements.now.tokens
      (tt, λ before h. subst (λ (x : List dbc.Statement). AreDefinitions x c.args.gathered) (sym (append-nil before)) h);
}

pub statements-smaller : goal.statements-smaller
statements-smaller c = (rw c.in-Some.is at c.in_ok-next.ensures.next).fewer

pub statements-preserved : goal.statements-preserved
statements-preserved c =
    let at = c.statements in
    let s = statement_of c.in-Some.next in
    record {
      source = c.read_next.ensures.source ∙ at.invariant.source;
      read = one_read _ _ s c.args.statements.now.tokens at.statements.tokens c.read_next.new.self.tokens
          (rw c.in-Some.is at c.in_ok-next.ensures.next)
          (λ stated h. (
            few_with_one stated s h.0 (sym c.has_many_texts.ensures ∙ c.if-has_many_texts.false),
            λ before are.
                subst (λ (x : List dbc.Statement). AreDefinitions x c.gather_definition.new.gathered)
                (append_assoc before stated (s ∷ []))
                (c.in_ok-gather_definition.ensures (before ++ stated) (h.1 before are)),
          )) at.invariant.read;
    }

pub returns-in_err-next-clause-err : goal.returns-in_err-next-clause-err
returns-in_err-next-clause-err c =
    let at = c.statements in
    let p = err_from_is_err_and c.from_residual.result c.from_residual.ensures.1 in
    rw (p.1, p.2) (λ memory. begin_without at.invariant.read.stated c.args.statements.now.tokens at.statements.tokens
    at.invariant.read.read (c.in_err-next.ensures.err memory))

pub returns-then-has_many_texts-clause-many : goal.returns-then-has_many_texts-clause-many
returns-then-has_many_texts-clause-many c =
    let at = c.statements in
    let read = at.invariant.read in
    let s = statement_of c.in-Some.next in
    many_stated read.stated s c.args.statements.now.tokens c.read_next.new.self.tokens
    (begin_with_more read.stated s c.args.statements.now.tokens at.statements.tokens c.read_next.new.self.tokens
    read.read (rw c.in-Some.is at c.in_ok-next.ensures.next))
    (sym c.has_many_texts.ensures ∙ c.if-has_many_texts.true)

pub returns-clause-ok : goal.returns-clause-ok
returns-clause-ok c =
    let at = c.statements in
    let all = at.invariant.read in
    record {
      stated = all.stated;
      read = begin_with_all all.stated c.args.statements.now.tokens at.statements.tokens
          all.read (rw c.in_default.is at c.in_ok-next.ensures.end);
      few = all.is.0;
      are = all.is.1;
    }
