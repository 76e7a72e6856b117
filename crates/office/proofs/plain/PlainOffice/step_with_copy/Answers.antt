use Rattle.office.proofs.Common.{Office}
use Rattle.office.proofs.Runs.{IsOffice-after}
use Rattle.office.proofs.plain.PlainOffice.step_with_copy.Goals as goal

pub invariant_of-self : goal.invariant_of-self
invariant_of-self c =
    let o : Office = record { nets = c.self.inside.nets.items; book = c.self.inside.book } in (
      IsOffice-after o c.step.new.nets.items c.step.new.book c.args.team.now c.args.command.now c.step.result
          c.self.invariant.0 c.as_bytes.ensures.keeps
          c.command_is_in_range.ensures c.step.ensures.step c.step.ensures.err,
      c.step.ensures.indexes,
    )
