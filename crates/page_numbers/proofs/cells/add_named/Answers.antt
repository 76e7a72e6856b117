use Rattle.page_numbers.proofs.Common.{◌++◌, ◌∙◌, ℕ, List, ap, codes, flat_map-append, escaped, piece_html, words}
use Rattle.page_numbers.proofs.cells.add_named.Goals as goal

pub returns : goal.returns
returns c =
    let name = c.name.result.now in
    let owner = c.owner.result.now in
    let after = λ (v : List ℕ). escaped v ++ (codes " (" ++ (escaped owner ++ codes ")")) in (
      after name,
      (
        (owner, ap after c.name.ensures),
        ap words c.in_ok-extend_from_slice.ensures.items ∙ flat_map-append piece_html c.args.title.now.items _,
      ),
    )
