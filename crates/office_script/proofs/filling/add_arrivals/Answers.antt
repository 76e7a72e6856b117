use Rattle.std.proofs.Common.{◌∷◌, [], sym, ◌∙◌}
use Rattle.office_script.proofs.Fillings.{line_filled, line_unfilled}
use Rattle.office_script.proofs.filling.add_arrivals.Goals as goal

pub returns-in_ok-push-in-Ok : goal.returns-in_ok-push-in-Ok
returns-in_ok-push-in-Ok g c = (
  c.in-Ok.arrival ∷ [],
  line_filled (g.F.FileSource.held c.args.files.now) c.args.dash c.args.number c.args.line.now c.in_ok-request.request
      c.in-Ok.arrival (sym c.says_nothing.ensures ∙ c.if-says_nothing.false) c.in_ok-request.ensures c.in-Ok.ensures.ok,
  c.in_ok-push-in-Ok.ensures.items,
)

pub returns-in-Err : goal.returns-in-Err
returns-in-Err g c =
    line_unfilled (g.F.FileSource.held c.args.files.now) c.args.dash c.args.number c.args.line.now
    c.in_ok-request.request c.in-Err.fault (sym c.says_nothing.ensures ∙ c.if-says_nothing.false)
    c.in_ok-request.ensures c.in-Err.ensures.fault
