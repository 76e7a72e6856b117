use Rattle.office.proofs.Common.{◌∙◌, ap, sym, subst, IsStrictlySortedBy, ident_of, by_number, is_held}
use Rattle.office_rules.specs.Facts.{is_live, is_wanted}
use Rattle.office.proofs.Looked.{live_rises, no_identifier, not_held, not_live}
use Rattle.office.proofs.indexed.is_live_or_held.Goals as goal

pub is_live-requires : goal.is_live-requires
is_live-requires c = subst (λ ms. IsStrictlySortedBy by_number ms) (sym c.as_slice.ensures)
    (live_rises c.args.net.now c.requires)

pub returns-in-None-new-clause-live : goal.returns-in-None-new-clause-live
returns-in-None-new-clause-live c =
    let net = c.args.net.now in
    let form = c.args.form in
    let n = c.in-Some.number in
    sym (ap (is_wanted (is_live net) form) c.in-Some.is
    ∙ not_live (ident_of form n) (no_identifier form n c.in-None-new.ensures.value) net.live
    c.requires.live.sheet.messages)

pub returns-in-None-new-clause-held : goal.returns-in-None-new-clause-held
returns-in-None-new-clause-held c =
    let net = c.args.net.now in
    let form = c.args.form in
    let n = c.in-Some.number in
    sym (ap (is_wanted (is_held net) form) c.in-Some.is
    ∙ not_held (ident_of form n) (no_identifier form n c.in-None-new.ensures.value) net.held
    c.requires.held.identifiers)
