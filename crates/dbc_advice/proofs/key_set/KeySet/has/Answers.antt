use Rattle.dbc_advice.proofs.NamesFound.{absent, there}
use Rattle.dbc_advice.proofs.key_set.KeySet.has.Goals as goal

pub returns-in-Ok : goal.returns-in-Ok
returns-in-Ok g c = λ keys is.
    let facts = rw c.deref.ensures.value at c.in-Ok.ensures in
    there g.K.Ord.cmp g.met.K.Ord.total g.K.PartialEq.eq g.met.K.Ord.matches_eq c.args.self.now keys is c.args.key.now
    c.in-Ok.field-0 facts.bound facts.ok

pub returns-in-Err : goal.returns-in-Err
returns-in-Err g c = λ keys is.
    let facts = rw c.deref.ensures.value at c.in-Err.ensures in
    absent g.K.Ord.cmp g.met.K.Ord.total g.K.PartialEq.eq g.met.K.Ord.matches_eq c.args.self.now keys is c.args.key.now
    c.in-Err.field-0 facts.position
