use Rattle.office_blocks.proofs.Common.{◌<◌, get_or, arith, searched, Ok, Err, weakly}
use Rattle.office_types.proofs.Split.{split-found}
use Rattle.office_blocks.proofs.free.count_below.Goals as goal

pub returns-in-Ok : goal.returns-in-Ok
returns-in-Ok c =
    let w = searched c.args.numbers.now c.args.number (Ok c.in-Ok.index) c.in-Ok.ensures.position
    (weakly c.args.numbers.now c.requires) in
    split-found c.args.numbers.now c.in-Ok.index c.args.number c.requires w.0 w.1

pub returns-in-Err : goal.returns-in-Err
returns-in-Err c =
    let w = searched c.args.numbers.now c.args.number (Err c.in-Err.index) c.in-Err.ensures.position
    (weakly c.args.numbers.now c.requires) in
    record {
      within = w.0;
      lower = w.1;
      upper = λ k a b. let l : c.args.number < get_or c.args.numbers.now k 0 =
          w.2 k a b in omega arith;
    }
