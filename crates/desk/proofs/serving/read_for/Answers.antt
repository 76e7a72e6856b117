use Rattle.desk.proofs.Noted.{read_alone}
use Rattle.desk.proofs.serving.read_for.Goals as goal

pub returns-in-Ok : goal.returns-in-Ok
returns-in-Ok g c =
    let seen = c.see.ensures in
    read_alone g.S.Store c.args.office.now c.see.new.self c.see.result seen.call seen.held seen.lost seen.left
    seen.statistics seen.statistics_left
