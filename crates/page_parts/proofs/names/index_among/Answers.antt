use Rattle.std.proofs.Common.{◌∙◌}
use Rattle.page_parts.proofs.Found.{found}
use Rattle.page_parts.proofs.names.index_among.Goals as goal

pub returns : goal.returns
returns c =
    let search = c.binary_search.ensures in
    c.ok.ensures.value ∙ found c.args.names.now c.args.name.now c.binary_search.result search.bound search.ok
    search.position c.requires
