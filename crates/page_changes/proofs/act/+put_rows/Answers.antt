use Rattle.page_changes.proofs.Common.{◌≡◌, ◌∷◌, List, subst, sym, flat_map, Becomes, adding, added}
use Rattle.std.proofs.lemmas.Result.{on_ok_weaker}
use Rattle.page_changes.specs.Act.{Lost, is_one_node, node_row}
use Rattle.page_changes.specs.Parts.{parts_by}
use Rattle.page_changes.proofs.Cutting.{cut}
use Rattle.page_changes.proofs.LostParts.{alike_nodes}
use Rattle.page_changes.proofs.act.+put_rows.Goals as goal

pub returns : goal.returns
returns t c =
    let losses = c.args.losses.now in
    let own = c.split_at.result.0.now in
    let after = c.split_at.result.1.now in
    let page = c.args.page.now in
    let new = c.put_rows.new.page in
    let parts : parts_by is_one_node losses ≡ own ∷ parts_by is_one_node after =
    cut is_one_node alike_nodes c.count_of_node-count.result losses c.in-Some.later.now own after c.in-Some.first.now
    c.in-Some.ensures.cases.0 c.count_of_node-count.ensures.is c.split_at.ensures.front c.split_at.ensures.back in
    on_ok_weaker c.put_rows.result (λ rest.
    subst (λ (all : List (List Lost)). Becomes new (adding (flat_map node_row all) page)) (sym parts)
    (added page (node_row own) (flat_map node_row (parts_by is_one_node after)) c.in_ok-put_row.ensures rest))
    c.put_rows.ensures
