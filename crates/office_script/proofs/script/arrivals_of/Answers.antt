use Rattle.std.proofs.Common.{◌+◌}
use Rattle.office_script.proofs.Fillings.{named_unreadable}
use Rattle.office_script.proofs.Scripts.{amiss_next, read_more}
use Rattle.office_script.proofs.script.arrivals_of.Goals as goal

pub loop-first-preserved : goal.loop-first-preserved
loop-first-preserved g c =
    let requested = c.in-Ok.ensures in
    read_more (g.F.FileSource.held c.args.files.now) c.args.dash c.args.text.now c.loop-first.rest.now
    c.in-Some.first.rest.now c.in-Some.first.line.now c.loop-first.number c.loop-first.arrivals.items requested.0
    c.add_arrivals.new.arrivals.items c.loop-first.invariant c.in-Some.ensures.next c.in-Some.ensures.shorter
    requested.1 requested.2

pub returns-in-Err-Unreadable-clause-fault : goal.returns-in-Err-Unreadable-clause-fault
returns-in-Err-Unreadable-clause-fault g c =
    let files = g.F.FileSource.held c.args.files.now in (
      c.loop-first.number + 1,
      amiss_next files c.args.dash _ c.args.text.now c.loop-first.rest.now c.in-Some.first.rest.now
          c.in-Some.first.line.now c.loop-first.number c.loop-first.arrivals.items c.loop-first.invariant
          c.in-Some.ensures.next
          (named_unreadable files c.args.dash (c.loop-first.number + 1) c.in-Some.first.line.now
          c.in-Err-Unreadable.path _ c.in-Err-Unreadable.field-0 c.in-Err-Unreadable.field-0-is
          c.in-Err-Unreadable.path-is c.in-Err-Unreadable.ensures),
    )
