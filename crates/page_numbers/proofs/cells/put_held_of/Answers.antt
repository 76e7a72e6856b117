use Rattle.page_numbers.proofs.Common.{List, Option, [], ℕ, ap, sym, option_copied}
use Rattle.std.proofs.Common.{Bor, unwrap_or}
use Rattle.page_numbers.specs.CellHtml.{held_cell}
use Rattle.page_numbers.proofs.Closing.{instead}
use Rattle.page_numbers.proofs.cells.put_held_of.Goals as goal

pub returns-in-None : goal.returns-in-None
returns-in-None c =
    let cell = λ (t : Option (Bor (List ℕ))).
    held_cell c.args.letters.now c.args.number (unwrap_or (option_copied t) []) in
    instead c.args.page.now (held_cell c.args.letters.now c.args.number []) (cell c.args.team)
    (ap cell (sym c.in-None.is)) c.put_held-in-None.ensures
