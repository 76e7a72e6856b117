use Rattle.page_numbers.proofs.Common.{◌∙◌, ℕ, List, ap, codes, on_ok_weaker, adding}
use Rattle.page_numbers.specs.Elements.{table_html, wide_html}
use Rattle.page_numbers.specs.Left.{heads}
use Rattle.page_numbers.proofs.Alike.{rows_same}
use Rattle.page_numbers.proofs.left.put_teams.Goals as goal

pub returns : goal.returns
returns c =
    on_ok_weaker c.put_table.result
    (λ becomes h. becomes h
    ∙ ap (λ (rows : List ℕ). adding (wide_html (codes "Numbers left") (table_html (codes "nums lot") heads rows))
    c.args.page.now) (rows_same c.args.view.now c.in_ok-numbers.numbers c.in_ok-numbers.ensures c.args.subject.now))
    c.put_table.ensures
