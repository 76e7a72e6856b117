use Rattle.dbc_read.proofs.Common.{◌==◌, ℕ, List, Bor, refl, subst, bytes_eq}
use Rattle.dbc_read.specs.Keys.{text_of}
use Rattle.dbc_read.specs.Lookup.{IsIndexIn}
use Rattle.dbc_read.proofs.LookingUp.{index_seen}
use Rattle.dbc_read.proofs.Settled.{numbers_found}
use Rattle.dbc_read.proofs.finding.LastFound.index.Goals as goal

pub returns-in-NodeComment : goal.returns-in-NodeComment
returns-in-NodeComment c = λ lines statements are.
    let name = c.in-NodeComment.name.now in
    let here = c.find.ensures are.node_names are.nodes in
    rw c.in-NodeComment.is
    (subst (λ names. IsIndexIn (λ n. bytes_eq n name) names c.find.result) are.names
    (index_seen text_of (λ (v : Bor (List ℕ)). bytes_eq v.now name) (λ n. bytes_eq n name) (λ v. refl) are.node_names
    c.find.result here))

pub returns-in-Some : goal.returns-in-Some
returns-in-Some c = λ lines statements are.
    let number = c.in-Some.number in
    let here = subst (λ (ns : List ℕ). IsIndexIn (λ n. n == number) ns c.message_index.result)
    (numbers_found c.args.finders.now lines statements are) c.message_index.ensures.index in
    rw c.in-MessageComment.is (rw c.in-Some.is here)
