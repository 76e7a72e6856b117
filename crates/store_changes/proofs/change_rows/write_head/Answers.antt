use Rattle.store_changes.proofs.Common.{sym, subst, ◌∙◌, on_ok_weaker, Reads}
use Rattle.store_changes.proofs.change_rows.write_head.Goals as goal

pub returns-clause-written : goal.returns-clause-written
returns-clause-written g c clean office =
    let head = c.args.head.now in
    on_ok_weaker c.set_net.result (λ made net. (
      record {
        name = c.as_bytes.result;
        kind = c.from.result;
        reviews = c.from-2.result;
        phase = c.from-3.result;
        submitter = c.submitter_text.result;
        frame = c.deref.result;
      },
      record {
        net = c.as_bytes.ensures.bytes;
        kind = c.from.ensures ∙ c.number.ensures.number;
        reviews = c.from-2.ensures ∙ c.count.ensures.value;
        phase = c.from-3.ensures ∙ c.number-2.ensures;
        submitter = c.submitter_text.ensures;
        frame = subst (λ text. Reads text head.frame) (sym c.deref.ensures.value) c.in_ok-frame.ensures.reads.reads;
      },
      made.tables_are,
    )) (c.set_net.ensures.set clean office)
