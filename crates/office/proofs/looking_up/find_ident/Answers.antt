use Rattle.office.proofs.Common.{◌∙◌, sym, subst, IsAt, IsGap}
use Rattle.office.specs.Indexed.{live_number}
use Rattle.office.proofs.Looked.{none_there, other_there, ident_found}
use Rattle.office.proofs.looking_up.find_ident.Goals as goal

pub returns-then-same_ident : goal.returns-then-same_ident
returns-then-same_ident c =
    let live = c.args.live.now in
    let at = c.in-Ok.at in
    ident_found live c.args.ident.now at c.index-live-at.result
    (subst (λ k. IsAt live_number live k at) c.to_dbc.ensures.number c.in-Ok.ensures.found)
    (sym c.same_ident.ensures ∙ c.if-same_ident.true)

pub returns-else-same_ident : goal.returns-else-same_ident
returns-else-same_ident c =
    let live = c.args.live.now in
    let at = c.in-Ok.at in
    other_there live c.args.ident.now at c.index-live-at.result
    (subst (λ k. IsAt live_number live k at) c.to_dbc.ensures.number c.in-Ok.ensures.found)
    (sym c.same_ident.ensures ∙ c.if-same_ident.false)

pub returns-in-Err : goal.returns-in-Err
returns-in-Err c =
    let live = c.args.live.now in
    let at = c.in-Err.field-0 in
    none_there live c.args.ident.now at
    (subst (λ k. IsGap live_number live k at) c.to_dbc.ensures.number c.in-Err.ensures.absent)
