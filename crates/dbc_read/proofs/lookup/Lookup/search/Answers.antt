use Rattle.dbc_read.proofs.Common.{rules, always_returns_same}
use Rattle.dbc_read.proofs.LookingUp.{absent, found}
use Rattle.dbc_read.proofs.lookup.Lookup.search.Goals as goal

pub returns-in-Ok : goal.returns-in-Ok
returns-in-Ok g c = λ keys is.
    let key = c.args.key.now in
    let facts = rw c.deref.ensures.value at c.in-Ok.ensures in
    found g.K.Ord.cmp g.met.K.Ord.total g.K.PartialEq.eq g.met.K.Ord.matches_eq c.args.self.now keys is key c.in-Ok.at
    c.index.result.now facts.bound c.index.ensures
    (facts.position (λ y. g.K.Ord.cmp y.0 key)
    (always_returns_same _ _ _ (λ a r f called. (search rules, search rules))))

pub returns-in-Err : goal.returns-in-Err
returns-in-Err g c = λ keys is.
    let key = c.args.key.now in
    let facts = rw c.deref.ensures.value at c.in-Err.ensures in
    absent g.K.Ord.cmp g.met.K.Ord.total g.K.PartialEq.eq g.met.K.Ord.matches_eq c.args.self.now keys is key
    c.in-Err.field-0
    (facts.position (λ y. g.K.Ord.cmp y.0 key)
    (always_returns_same _ _ _ (λ a r f called. (search rules, search rules))))
