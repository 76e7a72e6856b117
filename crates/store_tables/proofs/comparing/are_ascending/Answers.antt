use Rattle.store_tables.proofs.Common.{rules, refl, []}
use Rattle.store_tables.specs.Schema.{ascending}
use Rattle.store_tables.proofs.Firsts.{apart, one_more}
use Rattle.store_tables.proofs.comparing.are_ascending.Goals as goal

pub returns-then-not-is_ascending : goal.returns-then-not-is_ascending
returns-then-not-is_ascending c = (
  λ no. absurd (cc),
  apart (λ _. ascending) c.args.orders.now c.args.lists.now c.loop-at.at _ _ (record { ref_ptr = (0, 0); now = [] })
      c.is_ascending.result c.loop-at-test.true refl c.is_ascending.ensures c.if-not-is_ascending.true,
)

pub loop-at-preserved : goal.loop-at-preserved
loop-at-preserved c = one_more (λ _. ascending) c.args.orders.now c.args.lists.now c.loop-at.at _ _
    (record { ref_ptr = (0, 0); now = [] }) c.is_ascending.result (search rules) (search rules)
    refl c.is_ascending.ensures c.if-not-is_ascending.false c.loop-at.invariant
