use Rattle.store_migrate.proofs.Common.{inl, inr, refl, sym, subst, on_ok_weaker, state, One, named_rows}
use Rattle.store_tables.specs.Schema.{analyzed_schema, office_schema}
use Rattle.store_migrate.proofs.Grown.{edited_office, named_analyzed, office_with}
use Rattle.store_migrate.specs.Forms.{HoldsAsRows}
use Rattle.store_migrate.proofs.growing.carry.Goals as goal

pub returns-in-Bodies-Bodies-clause-held : goal.returns-in-Bodies-Bodies-clause-held
returns-in-Bodies-Bodies-clause-held g c clean = rw c.in-Bodies-Bodies.is-1 (c.carry_bodies.ensures.held clean)

pub returns-in-First-Rows-clause-held : goal.returns-in-First-Rows-clause-held
returns-in-First-Rows-clause-held g c clean = rw c.in-First-Rows.is-1 (c.carry_rows.ensures.held clean)

pub returns-in-First-All-clause-held : goal.returns-in-First-All-clause-held
returns-in-First-All-clause-held g c clean =
    let trees = (state g.S.Store c.args.tx.now.conn.now).now.trees in
    rw c.in-First-All.is-1 (λ was. on_ok_weaker c.renew_profile.result
    (λ held h at. held h (subst (HoldsAsRows One h) (sym (named_rows trees)) at))
    (c.renew_profile.ensures.held clean (office_with office_schema _ (inl refl) was)))

pub returns-in-First-Analyzed-clause-held : goal.returns-in-First-Analyzed-clause-held
returns-in-First-Analyzed-clause-held g c clean =
    let trees = (state g.S.Store c.args.tx.now.conn.now).now.trees in
    rw c.in-First-Analyzed.is-1 (λ was. on_ok_weaker c.renew_profile-in-First-Analyzed.result
    (λ held h at. held h (subst (HoldsAsRows One h) (sym (named_analyzed trees)) at))
    (c.renew_profile-in-First-Analyzed.ensures.held clean (office_with analyzed_schema _ (inr refl) was)))

pub returns-in-First-All-clause-frame : goal.returns-in-First-All-clause-frame
returns-in-First-All-clause-frame g c = rw c.in-First-All.is-1 (edited_office g.S.Store c.args.tx.now
    c.renew_profile.new.tx c.renew_profile.result office_schema _ (inl refl) c.renew_profile.ensures.frame
    c.renew_profile.ensures.renewed)

pub returns-in-First-Analyzed-clause-frame : goal.returns-in-First-Analyzed-clause-frame
returns-in-First-Analyzed-clause-frame g c = rw c.in-First-Analyzed.is-1 (edited_office g.S.Store c.args.tx.now
    c.renew_profile-in-First-Analyzed.new.tx c.renew_profile-in-First-Analyzed.result analyzed_schema _ (inr refl)
    c.renew_profile-in-First-Analyzed.ensures.frame c.renew_profile-in-First-Analyzed.ensures.renewed)
