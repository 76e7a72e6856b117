use Rattle.canoffice_cli.proofs.Common.{arith}
use Rattle.std.proofs.lemmas.List.{take_rest}
use Rattle.canoffice_cli.proofs.Writes.{cut_here, cut_on, written_on}
use Rattle.canoffice_cli.proofs.delivery.write_whole.Goals as goal

pub loop-at-preserved : goal.loop-at-preserved
loop-at-preserved g c =
    let text = c.args.text.now in
    record {
      within = omega (arith, c.in-Ok.ensures.bound);
      written = written_on _ _ _ text c.loop-at.at c.loop-at.invariant.written c.in-Ok.count
          (rw (take_rest text c.loop-at.at) at c.in-Ok.ensures.bytes);
    }

pub returns-in_default-clause-cut : goal.returns-in_default-clause-cut
returns-in_default-clause-cut g c =
    let text = c.args.text.now in
    cut_on _ _ _ text c.loop-at.at c.loop-at.invariant.written c.in-Ok.count
    (rw (take_rest text c.loop-at.at) at c.in-Ok.ensures.bytes)

pub returns-in_default-2-clause-cut : goal.returns-in_default-2-clause-cut
returns-in_default-2-clause-cut g c =
    cut_here _ _ _ c.args.text.now c.loop-at.at c.loop-at.invariant.written c.in_default.ensures.bytes
