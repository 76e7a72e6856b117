use Rattle.canoffice_cli.proofs.Common.{◌∙◌, inl, not, ap, state}
use Rattle.store.proofs.OpenedSo.{opened_not_older, opened_statistics}
use Rattle.canoffice_cli.proofs.Reported.{begins_held, begins_in_form, still_held, still_rows, still_same}
use Rattle.canoffice_cli.proofs.answering.office_on.Goals as goal

pub returns-in-Ok-clause-begun : goal.returns-in-Ok-clause-begun
returns-in-Ok-clause-begun g c clean h begins =
    begins_held (state g.S.Store c.args.conn) (state g.S.Store c.in-Ok.office.conn)
    (λ none. (c.in-Ok.ensures.opened.made clean none).0) (c.in-Ok.ensures.opened.completed clean) h begins

pub returns-in-Ok-clause-older : goal.returns-in-Ok-clause-older
returns-in-Ok-clause-older g c clean h holding =
    absurd (opened_not_older g.S.Store c.args.conn c.in-Ok.office c.in-Ok.ensures.opened clean h holding)

pub returns-in-Err-clause-held : goal.returns-in-Err-clause-held
returns-in-Err-clause-held g c clean h holding is_open =
    still_held (state g.S.Store c.args.conn) (state g.S.Store c.in-Err.conn)
    (c.is_autocommit-settled_before.ensures.settled (c.is_autocommit-settled_before.ensures.value ∙ ap not c.requires))
    (c.is_autocommit-settled.ensures.settled
    (c.is_autocommit-settled.ensures.value ∙ ap not c.in-Err.ensures.opened.settled))
    (λ office. c.in-Err.ensures.opened.back clean (inl office)) is_open h holding

pub returns-in-Err-clause-back : goal.returns-in-Err-clause-back
returns-in-Err-clause-back g c clean tables is_open =
    still_same (state g.S.Store c.args.conn) (state g.S.Store c.in-Err.conn)
    (c.is_autocommit-settled_before.ensures.settled (c.is_autocommit-settled_before.ensures.value ∙ ap not c.requires))
    (c.is_autocommit-settled.ensures.settled
    (c.is_autocommit-settled.ensures.value ∙ ap not c.in-Err.ensures.opened.settled))
    (c.in-Err.ensures.opened.back clean) tables is_open

pub returns-in-Ok-clause-statistics : goal.returns-in-Ok-clause-statistics
returns-in-Ok-clause-statistics g c clean h begins is_open =
    opened_statistics g.S.Store c.args.conn c.in-Ok.office c.in-Ok.ensures.opened clean h
    (begins_in_form h (state g.S.Store c.args.conn) begins)

pub returns-in-Err-clause-statistics : goal.returns-in-Err-clause-statistics
returns-in-Err-clause-statistics g c clean h begins is_open =
    still_rows (state g.S.Store c.args.conn) (state g.S.Store c.in-Err.conn)
    (c.is_autocommit-settled_before.ensures.settled (c.is_autocommit-settled_before.ensures.value ∙ ap not c.requires))
    (c.is_autocommit-settled.ensures.settled
    (c.is_autocommit-settled.ensures.value ∙ ap not c.in-Err.ensures.opened.settled))
    (c.in-Err.ensures.opened.back clean) is_open h (begins_in_form h (state g.S.Store c.args.conn) begins)
