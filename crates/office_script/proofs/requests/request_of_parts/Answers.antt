use Rattle.office_script.proofs.WordLaws.{parts_make}
use Rattle.office_script.proofs.requests.request_of_parts.Goals as goal

pub returns : goal.returns
returns c =
    parts_make c.args.dash c.args.number c.args.parts.now.key.now c.args.parts.now.team.now c.args.parts.now.text.now
    c.args.parts.now.command.now _ c.in_ok-key.key c.in_ok-team.team c.in_ok-requested.requested c.in_ok-text.text
    c.requires c.in_ok-key.ensures c.in_ok-team.ensures c.in_ok-requested.ensures c.in_ok-text.ensures
