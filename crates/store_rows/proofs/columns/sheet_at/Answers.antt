use Rattle.store_rows.proofs.Common.{sym, subst, ◌∙◌}
use Rattle.dbc_grammar.specs.Reads.{Reads}
use Rattle.store_rows.proofs.Values.{one_blob, one_sheet}
use Rattle.store_rows.proofs.columns.sheet_at.Goals as goal

pub returns-in-Some : goal.returns-in-Some
returns-in-Some c text other is reads =
    let same = one_blob _ text c.in_ok-text.text.now is c.in_ok-text.ensures in
    one_sheet c.in-Some.sheet other
    (sym c.in-Some.is ∙ c.in_ok-sheet.ensures.found other (subst (λ t. Reads t other) same reads))
