use Rattle.office_import.proofs.Common.{ap, cond, true, ◌∙◌, contains, is_eq, text_cmp, live_name}
use Rattle.office_import.proofs.NameSets.{one_more}
use Rattle.office_import.proofs.names.live_names.Goals as goal

pub loop-one-preserved : goal.loop-one-preserved
loop-one-preserved c = λ n.
    let there = contains text_cmp c.loop-one.names n in
    c.in_ok-insert.ensures.updates.0 n
    ∙ ap (λ m. cond (is_eq (text_cmp m n)) true there) c.in_ok-duplicate.ensures
    ∙ one_more live_name c.args.live.now c.loop-one.one-index c.one-item.result n there c.loop-one-test.true
    c.one-item.is (c.loop-one.invariant n)
