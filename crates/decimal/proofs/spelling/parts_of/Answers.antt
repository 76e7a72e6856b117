use Rattle.decimal.proofs.Common.{◌≡◌, ◌∙◌, ap, sym, subst, true, both_ways}
use Rattle.decimal.specs.Spelling.{Spelling, IsNumberToken, is_numeral, is_exponent}
use Rattle.decimal.specs.Cutting.{spelling}
use Rattle.decimal.proofs.Tokens.{cut_is_token, token_is_cut}
use Rattle.decimal.proofs.spelling.parts_of.Goals as goal
use Rattle.decimal.proofs.spelling.parts_of.Goals.{else-is_numeral-via-then-is_numeral+else-is_exponent}
use Rattle.decimal.proofs.spelling.parts_of.Goals.{else-is_numeral-via-else-is_numeral}

pub returns-then-is_exponent-clause-token : goal.returns-then-is_exponent-clause-token
returns-then-is_exponent-clause-token c =
    let e = c.cut-parts.ensures in
    let whole = ap (λ (s : Spelling). is_numeral s.whole) (sym e) ∙ sym c.is_numeral.ensures ∙ c.if-is_numeral.true in
    let exponent = ap (λ (s : Spelling). is_exponent s.exponent) (sym e) ∙ sym c.is_exponent.ensures
    ∙ c.if-is_exponent.true in
    subst (λ (s : Spelling). IsNumberToken c.args.bytes.now s) (sym e) (cut_is_token c.args.bytes.now whole exponent)

pub returns-else-is_numeral-clause-none : goal.returns-else-is_numeral-clause-none
returns-else-is_numeral-clause-none c = λ s token.
    let same : s ≡ spelling c.cut-parts.result = token_is_cut c.args.bytes.now s token ∙ sym c.cut-parts.ensures in
    let whole : is_numeral c.cut-parts.result.whole.now ≡ true = ap (λ (t : Spelling). is_numeral t.whole) (sym same)
    ∙ token.whole in
    let exponent : is_exponent c.cut-parts.result.exponent.now ≡ true =
    ap (λ (t : Spelling). is_exponent t.exponent) (sym same) ∙ token.exponent in
    elim c.else-is_numeral.branch [
      | else-is_numeral-via-then-is_numeral+else-is_exponent w ↦ both_ways _ w.if-is_exponent.false
          (w.is_exponent.ensures ∙ exponent)
      | else-is_numeral-via-else-is_numeral w ↦ both_ways _ w.if-is_numeral.false (c.is_numeral.ensures ∙ whole)
    ]
