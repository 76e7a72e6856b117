use Rattle.dbc_read.proofs.Common.{ℕ, List, Bor, refl, subst, bytes_eq}
use Rattle.dbc_read.specs.Lookup.{IsIndexIn}
use Rattle.dbc_read.specs.Keys.{text_of}
use Rattle.dbc_read.proofs.LookingUp.{index_seen}
use Rattle.dbc_read.proofs.lookups.cited_index.Goals as goal

pub returns-in-NodeComment : goal.returns-in-NodeComment
returns-in-NodeComment c = λ statements are.
    let name = c.in-NodeComment.name.now in
    let here = c.find.ensures are.node_names are.nodes in
    rw c.in-NodeComment.is
    (subst (λ names. IsIndexIn (λ n. bytes_eq n name) names c.find.result) are.names
    (index_seen text_of (λ (v : Bor (List ℕ)). bytes_eq v.now name) (λ n. bytes_eq n name) (λ v. refl) are.node_names
    c.find.result here))
