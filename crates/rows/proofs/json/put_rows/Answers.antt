use Rattle.rows.proofs.Common.{◌≡◌, ◌∙◌, codes, map, ap, sym, array, put, items_of, view}
use Rattle.std.proofs.lemmas.Result.{on_ok_weaker}
use Rattle.serde_json.specs.View.{members_view}
use Rattle.serde_json.specs.declared.value.Value.TheVariants.{Array}
use Rattle.serde_json.proofs.Views.{view-Array}
use Rattle.rows.specs.Fact.{fact_of}
use Rattle.rows.specs.Json.{columns_data, row_data}
use Rattle.rows.specs.Table.{Kind}
use Rattle.rows.proofs.Pushing.{map_twice}
use Rattle.rows.proofs.json.put_rows.Goals as goal

pub returns : goal.returns
returns c =
    let kind = c.args.kind.now in
    let own = c.kind.inside.columns.now in
    let before = members_view c.args.members.now.entries in
    let rows_are : view (Array c.in_ok-rows.rows) ≡ array (items_of (map (row_data kind.columns) kind.rows)) =
    view-Array c.in_ok-rows.rows
    ∙ ap (λ ds. array (items_of ds))
    (c.in_ok-rows.ensures ∙ sym (map_twice (row_data own) (map fact_of) c.as_slice.result.now)
    ∙ ap (map (row_data own)) c.as_slice.ensures)
    ∙ ap (λ (p : Kind). array (items_of (map (row_data p.columns) p.rows))) c.kind.view_is in
    let columns_are : view (Array c.in_ok-columns.columns) ≡ columns_data kind.columns =
    view-Array c.in_ok-columns.columns ∙ ap (λ ds. array (items_of ds)) c.in_ok-columns.ensures
    ∙ ap (λ (p : Kind). columns_data p.columns) c.kind.view_is in
    on_ok_weaker c.put-2.result
    (λ is. is ∙ ap (put (codes "rows") (view (Array c.in_ok-rows.rows))) c.in_ok-put.ensures.ok
    ∙ ap (λ d. put (codes "rows") d (put (codes "columns") (view (Array c.in_ok-columns.columns)) before)) rows_are
    ∙ ap (λ d. put (codes "rows") (array (items_of (map (row_data kind.columns) kind.rows))) (put (codes "columns") d before))
    columns_are)
    c.put-2.ensures.ok
