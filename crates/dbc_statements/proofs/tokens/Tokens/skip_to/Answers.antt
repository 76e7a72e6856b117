use Rattle.dbc_statements.proofs.Common.{◌≡◌, ◌∙◌, [], ◌∷◌, List, true, ap, drop, subst, sym, starts, Token, token_of}
use Rattle.dbc_grammar.specs.Fields.{is_mark}
use Rattle.dbc_statements.proofs.FirstToken.{after_first, are_tokens, begin_with, tokens_are}
use Rattle.dbc_statements.proofs.tokens.Tokens.skip_to.Goals as goal

pub invariant_of-self : goal.invariant_of-self
invariant_of-self c =
    let at = c.self.inside in
    are_tokens at.source.now at.end c.self.invariant.within c.at.result c.at.ensures (token_of c.in-Some.token)
    c.next_mark.new.self.tokens c.in-Some.ensures.some.0

pub returns-in-Some-clause-rest : goal.returns-in-Some-clause-rest
returns-in-Some-clause-rest c =
    let at = c.self.inside in
    tokens_are at.source.now at.end c.self.invariant.within c.at.result c.at.ensures (token_of c.in-Some.token)
    c.next_mark.new.self.tokens c.in-Some.ensures.some.0
    ∙ after_first at.source.now at.kind at.start at.end c.self.invariant.ends ∙ ap (drop 1) c.self.view_is

pub returns-in-Some-clause-mark : goal.returns-in-Some-clause-mark
returns-in-Some-clause-mark c =
    let at = c.self.inside in
    let begin = begin_with at.source.now at.end c.self.invariant.within c.at.result c.at.ensures
    (token_of c.in-Some.token) c.next_mark.new.self.tokens c.in-Some.ensures.some.0 in
    sym (subst (λ (ts : List Token). starts (is_mark (c.args.mark ∷ [])) ts ≡ true) (sym begin) c.in-Some.ensures.mark)
