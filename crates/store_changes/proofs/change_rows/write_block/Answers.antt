use Rattle.store_changes.proofs.Common.{ap, ◌∙◌, on_ok_weaker}
use Rattle.office_types.specs.Block.{form_number}
use Rattle.office_types.specs.declared.block.Block.{Block}
use Rattle.store_changes.proofs.change_rows.write_block.Goals as goal

pub returns-clause-written : goal.returns-clause-written
returns-clause-written g c clean office =
    let numbers = c.numbers-numbers in
    on_ok_weaker c.set_block.result (λ made net own. (
      record {
        net = c.as_bytes.result;
        form = c.from.result;
        first = numbers.result.first;
        last = numbers.result.last;
        team = c.as_bytes-2.result;
      },
      record {
        net = c.as_bytes.ensures.bytes;
        form = c.from.ensures ∙ c.number.ensures.number ∙ ap form_number c.form.ensures.form;
        first = ap (λ (b : Block). b.first) numbers.ensures;
        last = ap (λ (b : Block). b.last) numbers.ensures;
        team = c.as_bytes-2.ensures.bytes;
      },
      own,
      made.tables_are,
    )) (c.set_block.ensures.set clean office)
