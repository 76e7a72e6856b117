use Rattle.page_numbers.proofs.Common.{◌∷◌, [], ◌++◌, ℕ, subst, on_ok_weaker, HaveSame}
use Rattle.page_numbers.specs.Charts.{row_of}
use Rattle.page_numbers.specs.declared.charts.Chart.TheVariants.{Extended}
use Rattle.page_numbers.proofs.SameRows.{same_more}
use Rattle.page_numbers.proofs.charts.add_ends.Goals as goal

pub returns : goal.returns
returns c =
    let old = c.args.rows.now.items in
    let mid = c.add_row.new.rows.items in
    let new = c.add_row-2.new.rows.items in
    let first = row_of Extended c.args.first in
    let last = row_of Extended c.args.last in
    on_ok_weaker c.add_row-2.result
    (λ same. same_more old (first ∷ []) (last ∷ []) mid new
    (subst (λ (v : ℕ). HaveSame mid (old ++ v ∷ [])) c.row_of.ensures c.in_ok-add_row.ensures)
    (subst (λ (v : ℕ). HaveSame new (mid ++ v ∷ [])) c.row_of-2.ensures same))
    c.add_row-2.ensures
