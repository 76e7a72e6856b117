use Rattle.page_messages.proofs.Common.{[]}
use Rattle.markup.specs.declared.tag.Tag.TheVariants as tag
use Rattle.page_messages.specs.Signals.{listed_of, signal_cells}
use Rattle.page_messages.proofs.Adding.{enclosed}
use Rattle.page_messages.proofs.signals.put_signal_row.Goals as goal

pub returns : goal.returns
returns c =
    enclosed tag.Row [] (signal_cells c.args.columns c.args.bytes (listed_of c.args.shown.now)) c.args.page.now _ _ _
    c.open.ensures c.put_signal_cells.ensures c.close.ensures
