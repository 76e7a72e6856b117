use Rattle.dbc_read.proofs.Common.{ℕ, Bool, List, nat_eq, subst, sym, nat_flip}
use Rattle.dbc_read.specs.Lookup.{IsIndexIn}
use Rattle.dbc_read.proofs.Positions.{index_from_position}
use Rattle.dbc_read.proofs.numbers.Numbers.find.Goals as goal

pub returns-clause-index : goal.returns-clause-index
returns-clause-index c =
    let number = c.args.number in
    let keys = c.self.inside.set.keys in
    let found = subst (IsIndexIn (nat_eq number) keys) (sym c.get_index_of.ensures.index)
    (index_from_position (nat_eq number) keys) in
    subst (λ (l : List ℕ). IsIndexIn (λ n. nat_eq n number) l c.get_index_of.result) c.self.view_is
    (subst (λ (test : ℕ → Bool). IsIndexIn test keys c.get_index_of.result) (λ i n. nat_flip number n i) found)
