use Rattle.page_changes.proofs.Common.{map}
use Rattle.page_changes.specs.Names.{text_of}
use Rattle.page_changes.proofs.RisingNames.{names_are}
use Rattle.page_changes.proofs.names.ascending.Goals as goal

pub returns : goal.returns
returns c =
    names_are c.in_ok-all.all (map text_of c.args.names.items) c.as_slice.ensures.ascending c.in_ok-all.ensures
