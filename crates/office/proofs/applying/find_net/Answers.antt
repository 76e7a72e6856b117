use Rattle.office.proofs.AppliedToOffice.{index_is}
use Rattle.office.proofs.applying.find_net.Goals as goal

pub returns : goal.returns
returns c = index_is (record { nets = c.args.nets.now; book = c.args.book.now }) c.args.name.now c.first_named.result
    c.first_named.ensures
