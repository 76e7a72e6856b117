use Rattle.office.proofs.Common.{refl}
use Rattle.office.proofs.Indexes.{index-moved}
use Rattle.office.proofs.net_index.NetIndex.remove_name.Goals as goal

pub returns : goal.returns
returns c = λ net at gap ident gone is.
    index-moved net at c.args.name.now ident gone c.args.self.now (record c.args.self.now { names = c.remove.new.self })
    gap is c.remove.ensures.updates.0 refl refl
