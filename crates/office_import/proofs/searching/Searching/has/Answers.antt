use Rattle.office_import.proofs.Common.{ap, sym, ◌∙◌}
use Rattle.can_id.specs.Ident.{dbc_number}
use Rattle.office_rules.specs.Facts.{same_ident}
use Rattle.office_rules.proofs.Idents.{same_ident-true}
use Rattle.office_import.proofs.searching.Searching.has.Goals as goal

pub returns : goal.returns
returns g c =
    let ident_of = g.T.Identified.ident_of in
    c.has_ident.ensures
    ∙ c.of_number-things.ensures (λ x. same_ident (ident_of x) c.args.ident)
    (λ x same. ap dbc_number (same_ident-true (ident_of x) c.args.ident same) ∙ sym c.to_dbc.ensures.number)
