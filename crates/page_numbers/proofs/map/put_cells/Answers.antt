use Rattle.page_numbers.proofs.Common.{◌≡◌, ◌≤◌, ℕ, arith, map, subst, range_with_len, team_at}
use Rattle.page_numbers.specs.Charts.{number_in}
use Rattle.page_numbers.specs.Elements.{ArePieces, IsMoreBy}
use Rattle.page_numbers.specs.Map.{IsCellAt, facts_in}
use Rattle.page_numbers.proofs.MapFacts.{cell_near, in_row}
use Rattle.page_numbers.proofs.Pieces.{more_weaker, nothing_put, number_put}
use Rattle.page_numbers.proofs.map.put_cells.Goals as goal

pub loop-column-init : goal.loop-column-init
loop-column-init c = nothing_put (IsCellAt c.args.facts.now.chart (facts_in c.args.facts.now)) c.args.page.now

pub loop-column-preserved : goal.loop-column-preserved
loop-column-preserved c =
    let chart = c.args.facts.now.chart in
    let facts = facts_in c.args.facts.now in
    let row = c.args.row in
    let column = c.loop-column.column in
    let n = c.number_in-number.result in
    let near = c.near-near.result.now in
    let is : n ≡ number_in chart row column = c.number_in-number.ensures in
    let bounds = in_row chart row column in
    let low : c.number_in-first.result ≤ n = omega (arith, bounds.0, is, c.number_in-first.ensures) in
    let high : n ≤ c.number_in-last.result = omega (arith, bounds.1, is, c.number_in-last.ensures) in
    let same : team_at near facts.form n ≡ team_at facts.blocks facts.form n =
    rw c.form.ensures at c.near-near.ensures n low high in
    number_put (IsCellAt chart facts) (number_in chart row) column c.args.page.now c.loop-column.page
    c.put_number.new.page c.loop-column.invariant
    (subst (λ (v : ℕ). IsMoreBy (IsCellAt chart facts v) c.put_number.new.page c.loop-column.page) is
    (more_weaker _ (IsCellAt chart facts n) c.loop-column.page c.put_number.new.page
    (λ b. cell_near chart facts near n b same) c.in_ok-put_number.ensures))

pub returns : goal.returns
returns c =
    let chart = c.args.facts.now.chart in
    let facts = facts_in c.args.facts.now in
    let end : c.loop-column.column ≡ 16 = omega arith in
    subst (λ (k : ℕ). IsMoreBy (ArePieces (IsCellAt chart facts) (map (number_in chart c.args.row) (range_with_len 0 k)))
    c.loop-column.page c.args.page.now) end c.loop-column.invariant
