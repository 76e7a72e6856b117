use Rattle.dbc_lint.proofs.Common.{◌∙◌, ℤ, ap, cond, not, true, is_eq}
use Rattle.std.specs.BTreeSet.{contains}
use Rattle.std.specs.Ordering.{int_cmp}
use Rattle.dbc_lint.specs.NumberSet.{holds_number, pair_cmp}
use Rattle.dbc_lint.proofs.NumberSets.{with_number}
use Rattle.dbc_lint.proofs.number_set.NumberSet.insert.Goals as goal

pub returns-clause-new : goal.returns-clause-new
returns-clause-new c =
    c.in_ok-insert.ensures.added
    ∙ ap (λ (k : ℤ × ℤ). not (contains pair_cmp c.args.self.now.numbers k)) c.key_of.ensures

pub returns-clause-ok : goal.returns-clause-ok
returns-clause-ok c = λ n.
    c.in_ok-insert.ensures.updates.0 (n.mantissa, n.exponent)
    ∙ ap (λ (k : ℤ × ℤ). cond (is_eq (pair_cmp k (n.mantissa, n.exponent))) true (holds_number c.args.self.now n))
    c.key_of.ensures
    ∙ with_number (int_cmp c.args.number.now.mantissa n.mantissa) (int_cmp c.args.number.now.exponent n.exponent)
    (holds_number c.args.self.now n)
