use Rattle.dbc_lint.proofs.Common.{◌≡◌, ◌∙◌, ◌+◌, ◌∷◌, ap, drop, sym, drop_more, ValueText}
use Rattle.dbc_lint.proofs.NumberSets.{remarked_more, seen_more}
use Rattle.dbc_lint.proofs.of_values.add_values_twice.Goals as goal

pub loop-entry-preserved : goal.loop-entry-preserved
loop-entry-preserved c =
    let texts = c.args.entries.now in
    let i = c.loop-entry.entry-index in
    let entry = c.entry-item.result in
    let here : drop i texts ≡ entry ∷ drop (i + 1) texts =
    drop_more texts i entry c.loop-entry-test.true
    ∙ ap (λ (v : ValueText). v ∷ drop (i + 1) texts) (sym c.entry-item.is) in
    record {
      seen = seen_more texts i entry c.loop-entry.seen c.insert.new.self c.loop-entry-test.true c.entry-item.is
          c.loop-entry.invariant.seen c.in_ok-new.ensures.ok;
      reported = remarked_more c.args.words.now c.args.at texts i entry c.loop-entry.seen c.in_ok-new.new
          c.loop-entry.remarks.items c.add_value_twice.new.remarks.items _ here c.loop-entry.invariant.seen
          c.in_ok-new.ensures.new c.in_ok-add_value_twice.ensures c.loop-entry.invariant.reported;
    }
