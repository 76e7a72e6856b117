use Rattle.store_net.proofs.Common.{◌∙◌, ℕ, List, ap, list_any, state, ident_of, Ident, same_ident, tables_of}
use Rattle.store_net.specs.Numbers.{idents_between}
use Rattle.store_net.proofs.Between.{taken_are_identifiers}
use Rattle.store_net.proofs.Inside.{wanted_taken}
use Rattle.store_net.proofs.ranges.is_taken_at.Goals as goal

pub returns-clause-found : goal.returns-clause-found
returns-clause-found g c clean office idents has =
    let wanted = ident_of c.args.form c.args.number in
    let test = λ (l : List Ident). list_any (λ i. same_ident i wanted) l in
    c.has_ident.ensures ∙ ap test (c.as_slice.ensures ∙ c.in_ok-idents.ensures.found clean office idents has)
    ∙ ap (λ (n : ℕ). test (idents_between n n idents)) c.dbc_of-number_of_dbc.ensures
    ∙ wanted_taken c.args.form c.args.number idents
    (taken_are_identifiers c.args.table c.args.name.now (tables_of (state g.S.Store c.args.tx.now.conn.now).now.trees)
    idents has)
