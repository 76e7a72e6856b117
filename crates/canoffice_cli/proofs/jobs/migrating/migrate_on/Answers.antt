use Rattle.canoffice_cli.proofs.Common.{◌≡◌, ◌∙◌, [], inl, inr, not, ap, state, in_form}
use Rattle.store.proofs.OpenedSo.{migrated_statistics}
use Rattle.canoffice_cli.proofs.Reported.{still_held, still_in_form, still_rows}
use Rattle.canoffice_cli.proofs.jobs.migrating.migrate_on.Goals as goal

pub returns-in-Ok-clause-carried : goal.returns-in-Ok-clause-carried
returns-in-Ok-clause-carried g c clean h holding =
    let same : c.close.result ≡ c.in-Ok.office.conn = c.close.ensures.same in
    rw same ((c.in-Ok.ensures.opened.migrated (rw (← same) clean) h holding).0)

pub returns-in-Ok-clause-held : goal.returns-in-Ok-clause-held
returns-in-Ok-clause-held g c clean h holding is_open =
    let same : c.close.result ≡ c.in-Ok.office.conn = c.close.ensures.same in
    rw same ((c.in-Ok.ensures.opened.migrated (rw (← same) clean) h
    (in_form h (state g.S.Store c.args.conn) holding)).0)

pub returns-in-Ok-clause-made : goal.returns-in-Ok-clause-made
returns-in-Ok-clause-made g c clean none =
    let same : c.close.result ≡ c.in-Ok.office.conn = c.close.ensures.same in
    rw same ((c.in-Ok.ensures.opened.made (rw (← same) clean) none).0)

pub returns-in-Err-clause-left : goal.returns-in-Err-clause-left
returns-in-Err-clause-left g c clean h holding is_open =
    still_in_form (state g.S.Store c.args.conn) (state g.S.Store c.in-Err.conn)
    (c.is_autocommit-settled_before.ensures.settled (c.is_autocommit-settled_before.ensures.value ∙ ap not c.requires))
    (c.is_autocommit-settled.ensures.settled
    (c.is_autocommit-settled.ensures.value ∙ ap not c.in-Err.ensures.opened.given_back.settled))
    (λ office. c.in-Err.ensures.opened.given_back.back clean (inl office)) is_open h holding

pub returns-in-Err-clause-held : goal.returns-in-Err-clause-held
returns-in-Err-clause-held g c clean h holding is_open =
    still_held (state g.S.Store c.args.conn) (state g.S.Store c.in-Err.conn)
    (c.is_autocommit-settled_before.ensures.settled (c.is_autocommit-settled_before.ensures.value ∙ ap not c.requires))
    (c.is_autocommit-settled.ensures.settled
    (c.is_autocommit-settled.ensures.value ∙ ap not c.in-Err.ensures.opened.given_back.settled))
    (λ office. c.in-Err.ensures.opened.given_back.back clean (inl office)) is_open h holding

pub returns-in-Ok-clause-statistics : goal.returns-in-Ok-clause-statistics
returns-in-Ok-clause-statistics g c clean h holding is_open =
    let same : c.close.result ≡ c.in-Ok.office.conn = c.close.ensures.same in
    rw same (migrated_statistics g.S.Store c.args.conn c.in-Ok.office c.in-Ok.ensures.opened (rw (← same) clean) h
    (inl holding))

pub returns-in-Ok-clause-statistics_new : goal.returns-in-Ok-clause-statistics_new
returns-in-Ok-clause-statistics_new g c clean none is_open =
    let same : c.close.result ≡ c.in-Ok.office.conn = c.close.ensures.same in
    rw same (migrated_statistics g.S.Store c.args.conn c.in-Ok.office c.in-Ok.ensures.opened (rw (← same) clean) []
    (inr none))

pub returns-in-Err-clause-statistics : goal.returns-in-Err-clause-statistics
returns-in-Err-clause-statistics g c clean h holding is_open =
    still_rows (state g.S.Store c.args.conn) (state g.S.Store c.in-Err.conn)
    (c.is_autocommit-settled_before.ensures.settled (c.is_autocommit-settled_before.ensures.value ∙ ap not c.requires))
    (c.is_autocommit-settled.ensures.settled
    (c.is_autocommit-settled.ensures.value ∙ ap not c.in-Err.ensures.opened.given_back.settled))
    (c.in-Err.ensures.opened.given_back.back clean) is_open h (inl holding)

pub returns-in-Err-clause-statistics_new : goal.returns-in-Err-clause-statistics_new
returns-in-Err-clause-statistics_new g c clean none is_open =
    still_rows (state g.S.Store c.args.conn) (state g.S.Store c.in-Err.conn)
    (c.is_autocommit-settled_before.ensures.settled (c.is_autocommit-settled_before.ensures.value ∙ ap not c.requires))
    (c.is_autocommit-settled.ensures.settled
    (c.is_autocommit-settled.ensures.value ∙ ap not c.in-Err.ensures.opened.given_back.settled))
    (c.in-Err.ensures.opened.given_back.back clean) is_open [] (inr none)
