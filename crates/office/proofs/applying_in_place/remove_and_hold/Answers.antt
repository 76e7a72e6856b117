use Rattle.office.proofs.Common.{List, sym, subst, IsStrictlySortedBy, by_number, LiveMessage}
use Rattle.office.proofs.Looked.{live_rises}
use Rattle.office.proofs.applying_in_place.remove_and_hold.Goals as goal

pub find_ident-requires : goal.find_ident-requires
find_ident-requires c = subst (λ (l : List LiveMessage). IsStrictlySortedBy by_number l) (sym c.as_slice.ensures)
    (live_rises c.args.net.now c.requires.net)
