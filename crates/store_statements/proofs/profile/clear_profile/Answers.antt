use Rattle.std.proofs.Common.{rules}
use Rattle.store_statements.proofs.ProfileTexts.{clears}
use Rattle.store_statements.proofs.Texts.{edits}
use Rattle.store_statements.proofs.profile.clear_profile.Goals as goal

pub returns : goal.returns
returns g c =
    let both = edits g.S.Store c.args.tx.now c.execute.new.self c.execute.result _ _ _ _ clears c.execute.ensures.ended
    c.execute.ensures.runs in
    record { removed = both.0; rows = both.1; frame = search rules }
