use Rattle.rows.proofs.Common.{◌≡◌, ◌≤◌, ◌++◌, ◌∙◌, ℕ, List, length, map, ap, sym, flat_map, take_all, flat_map-map}
use Rattle.rows.specs.Fact.{Fact, fact_of}
use Rattle.rows.specs.Lines.{line_text}
use Rattle.rows.specs.Table.{Kind}
use Rattle.rows.proofs.lines.push_kind.Goals as goal

pub returns : goal.returns
returns c =
    let items = c.as_slice-row-items.result.now in
    let kind = c.args.kind.now in
    let before = c.args.text.now.items in
    let line : List Fact → List ℕ = λ row. kind.name ++ line_text kind.columns row in
    let same : map (map fact_of) items ≡ kind.rows =
    c.as_slice-row-items.ensures ∙ ap (λ (p : Kind). p.rows) c.kind.view_is in
    let ended : length items ≤ c.loop-row.row-index = c.loop-row-test.false in
    c.loop-row.invariant
    ∙ ap (λ rows. before ++ flat_map (λ row. line (map fact_of row)) rows) (take_all c.loop-row.row-index items ended)
    ∙ ap (λ text. before ++ text) (sym (flat_map-map line (map fact_of) items) ∙ ap (flat_map line) same)
