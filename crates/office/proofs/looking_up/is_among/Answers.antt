use Rattle.office.proofs.Common.{◌∙◌, ap, sym, subst, IsAt, IsGap, dbc_number, same_ident}
use Rattle.office.proofs.Looked.{among_at, among_none}
use Rattle.office.proofs.looking_up.is_among.Goals as goal

pub returns-in-Ok : goal.returns-in-Ok
returns-in-Ok c =
    let idents = c.args.idents.now in
    let at = c.in-Ok.at in
    c.same_ident.ensures ∙ ap (λ j. same_ident j c.args.ident.now) c.index-idents-at.is
    ∙ among_at idents c.args.ident.now at c.index-idents-at.result
    (subst (λ k. IsAt dbc_number idents k at) c.to_dbc.ensures.number c.in-Ok.ensures.found)

pub returns-in-Err : goal.returns-in-Err
returns-in-Err c =
    let idents = c.args.idents.now in
    let at = c.in-Err.field-0 in
    sym (among_none idents c.args.ident.now at
    (subst (λ k. IsGap dbc_number idents k at) c.to_dbc.ensures.number c.in-Err.ensures.absent))
