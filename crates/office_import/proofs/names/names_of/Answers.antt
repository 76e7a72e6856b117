use Rattle.office_import.proofs.Common.{ap, cond, true, ◌∙◌, contains, is_eq, text_cmp}
use Rattle.office_import.proofs.NameSets.{one_more}
use Rattle.office_import.proofs.names.names_of.Goals as goal

pub loop-thing-preserved : goal.loop-thing-preserved
loop-thing-preserved g c = λ n.
    let there = contains text_cmp c.loop-thing.names n in
    c.in_ok-insert.ensures.updates.0 n
    ∙ ap (λ m. cond (is_eq (text_cmp m n)) true there) (c.in_ok-duplicate.ensures ∙ c.name.ensures)
    ∙ one_more g.T.Named.name_of c.args.things.now c.loop-thing.thing-index c.thing-item.result n there
    c.loop-thing-test.true c.thing-item.is (c.loop-thing.invariant n)
