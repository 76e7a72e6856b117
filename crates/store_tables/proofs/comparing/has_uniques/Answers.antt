use Rattle.store_tables.proofs.Common.{rules, List, ℕ, ◌∙◌}
use Rattle.std.proofs.Common.{Bor}
use Rattle.store_tables.proofs.Firsts.{one_more}
use Rattle.store_tables.proofs.comparing.has_uniques.Goals as goal

pub loop-at-preserved : goal.loop-at-preserved
loop-at-preserved c = one_more (λ (columns : Bor (List ℕ)). columns.now) c.as_slice-uniques.result.now c.args.lists.now
    c.loop-at.at c.as_slice.result.now _ _ c.is_list.result (search rules) (search rules)
    (c.as_slice.ensures ∙ c.index-uniques-at.is) c.is_list.ensures c.if-not-is_list.false c.loop-at.invariant
