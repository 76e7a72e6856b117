use Rattle.store_changes.proofs.Common.{refl, ◌∙◌, on_ok_weaker}
use Rattle.store_changes.proofs.change_rows.write_spn_block.Goals as goal

pub returns-clause-written : goal.returns-clause-written
returns-clause-written g c clean office =
    on_ok_weaker c.set_block.result (λ made net. (
      record {
        net = c.as_bytes.result;
        form = c.from.result;
        first = c.args.block.now.first;
        last =
            c.args.block.now.last;
        team = c.as_bytes-2.result;
      },
      record {
        net = c.as_bytes.ensures.bytes;
        form = c.from.ensures ∙ c.number.ensures.number;
        first = refl;
        last = refl;
        team = c.as_bytes-2.ensures.bytes;
      },
      made.tables_are,
    )) (c.set_block.ensures.set clean office)
