use Rattle.store_net.proofs.Common.{Some, ap, sym, ◌∙◌, option_map, table_of}
use Rattle.store_net.proofs.live.live_table.Goals as goal

pub returns-in_default-clause-found : goal.returns-in_default-clause-found
returns-in_default-clause-found g c clean office net there = ap (option_map table_of) (sym c.in_default.is)
    ∙ c.in_ok-sheet.ensures.found clean office net there

pub returns-clause-found : goal.returns-clause-found
returns-clause-found g c clean office net there =
    ap Some c.in_ok-table_of.ensures ∙ ap (option_map table_of) (sym c.in-Some.is)
    ∙ c.in_ok-sheet.ensures.found clean office net there
