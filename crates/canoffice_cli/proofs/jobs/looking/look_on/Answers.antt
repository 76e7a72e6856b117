use Rattle.canoffice_cli.proofs.Common.{◌≡◌, ◌∙◌, inl, refl, arith, false≢true, state, HasCleanDisk, Holding}
use Rattle.canoffice_cli.proofs.Common.{held_tables, in_form, office_in_form, older_in_form}
use Rattle.canoffice_cli.proofs.Opened.{either_way, no_office_is_new}
use Rattle.canoffice_cli.proofs.Reported.{same_in_form}
use Rattle.canoffice_cli.proofs.jobs.looking.look_on.Goals as goal

pub returns-in-Ok-clause-shown : goal.returns-in-Ok-clause-shown
returns-in-Ok-clause-shown g c clean h holding office legal =
    let look = c.look-shown.ensures in
    let same : c.close.result ≡ c.look-shown.new.self.conn = c.close.ensures.same in
    let clean_now : HasCleanDisk (state g.S.Store c.look-shown.new.self.conn) = rw (← same) clean in
    let early : HasCleanDisk (state g.S.Store c.in-Ok.office.conn) = omega (arith, look.call.clean, clean_now) in
    look.shown clean_now h (c.in-Ok.ensures.begun early h (inl holding)) office legal

pub returns-in-Ok-clause-held : goal.returns-in-Ok-clause-held
returns-in-Ok-clause-held g c clean h holding is_open =
    let look = c.look-shown.ensures in
    let same : c.close.result ≡ c.look-shown.new.self.conn = c.close.ensures.same in
    let clean_now : HasCleanDisk (state g.S.Store c.look-shown.new.self.conn) = rw (← same) clean in
    let early : HasCleanDisk (state g.S.Store c.in-Ok.office.conn) = omega (arith, look.call.clean, clean_now) in
    let begun : Holding h (state g.S.Store c.in-Ok.office.conn) =
    c.in-Ok.ensures.begun early h (inl (in_form h (state g.S.Store c.args.conn) holding)) in
    rw same (either_way _ c.look-shown.result (look.held clean_now h begun)
    (look.lost clean_now h begun (rw (← same) is_open)))

pub returns-in-Ok-clause-kept : goal.returns-in-Ok-clause-kept
returns-in-Ok-clause-kept g c clean h holding =
    let look = c.look-shown.ensures in
    let same : c.close.result ≡ c.look-shown.new.self.conn = c.close.ensures.same in
    let clean_now : HasCleanDisk (state g.S.Store c.look-shown.new.self.conn) = rw (← same) clean in
    let early : HasCleanDisk (state g.S.Store c.in-Ok.office.conn) = omega (arith, look.call.clean, clean_now) in
    rw same (look.held clean_now h (c.in-Ok.ensures.begun early h (inl holding)))

pub returns-in-Ok-clause-left : goal.returns-in-Ok-clause-left
returns-in-Ok-clause-left g c clean h holding is_open =
    let look = c.look-shown.ensures in
    let same : c.close.result ≡ c.look-shown.new.self.conn = c.close.ensures.same in
    let clean_now : HasCleanDisk (state g.S.Store c.look-shown.new.self.conn) = rw (← same) clean in
    let early : HasCleanDisk (state g.S.Store c.in-Ok.office.conn) = omega (arith, look.call.clean, clean_now) in
    let begun : Holding h (state g.S.Store c.in-Ok.office.conn) = c.in-Ok.ensures.begun early h (inl holding) in
    rw same (in_form h (state g.S.Store c.look-shown.new.self.conn)
    (either_way _ c.look-shown.result (look.held clean_now h begun)
    (look.lost clean_now h begun (rw (← same) is_open))))

pub returns-in-Ok-clause-older : goal.returns-in-Ok-clause-older
returns-in-Ok-clause-older g c clean h holding =
    let look = c.look-shown.ensures in
    let same : c.close.result ≡ c.look-shown.new.self.conn = c.close.ensures.same in
    let clean_now : HasCleanDisk (state g.S.Store c.look-shown.new.self.conn) = rw (← same) clean in
    let early : HasCleanDisk (state g.S.Store c.in-Ok.office.conn) = omega (arith, look.call.clean, clean_now) in
    absurd (false≢true (c.in-Ok.ensures.older early h holding))

pub returns-in-Err-clause-left : goal.returns-in-Err-clause-left
returns-in-Err-clause-left g c clean h holding is_open =
    let old = state g.S.Store c.args.conn in
    same_in_form h old (state g.S.Store c.in-Err.conn) holding is_open
    (c.in-Err.ensures.back clean (inl (office_in_form h old holding)) is_open).0

pub returns-in-Err-clause-older : goal.returns-in-Err-clause-older
returns-in-Err-clause-older g c clean h holding =
    let old = state g.S.Store c.args.conn in
    (refl, c.in-Err.ensures.back clean (inl (office_in_form h old (older_in_form h old holding))))

-- where there is no table, no history is held
pub returns-then-is_new-clause-shown : goal.returns-then-is_new-clause-shown
returns-then-is_new-clause-shown g c clean h holding office legal =
    absurd (no_office_is_new h _ holding (c.knows_tables.ensures holding.is_open _ holding.keeps.2.sound)
    (c.is_new.ensures.0 c.if-is_new.true))

pub returns-then-is_new-clause-kept : goal.returns-then-is_new-clause-kept
returns-then-is_new-clause-kept g c clean h holding =
    absurd (no_office_is_new h _ holding (c.knows_tables.ensures holding.is_open _ holding.keeps.2.sound)
    (c.is_new.ensures.0 c.if-is_new.true))

pub returns-then-is_new-clause-older : goal.returns-then-is_new-clause-older
returns-then-is_new-clause-older g c clean h older =
    let holding = older_in_form h (state g.S.Store c.args.conn) older in
    absurd (no_office_is_new h _ holding (c.knows_tables.ensures holding.is_open _ holding.keeps.2.sound)
    (c.is_new.ensures.0 c.if-is_new.true))

pub returns-in-Ok-clause-statistics : goal.returns-in-Ok-clause-statistics
returns-in-Ok-clause-statistics g c clean h begins is_open =
    let look = c.look-shown.ensures in
    let same : c.close.result ≡ c.look-shown.new.self.conn = c.close.ensures.same in
    let clean_now : HasCleanDisk (state g.S.Store c.look-shown.new.self.conn) = rw (← same) clean in
    let early : HasCleanDisk (state g.S.Store c.in-Ok.office.conn) = omega (arith, look.call.clean, clean_now) in
    let begun : Holding h (state g.S.Store c.in-Ok.office.conn) = c.in-Ok.ensures.begun early h begins in
    rw same ((look.statistics clean_now (held_tables h _ begun) (rw (← same) is_open)).statistics
    ∙ c.in-Ok.ensures.statistics early h begins begun.is_open)
