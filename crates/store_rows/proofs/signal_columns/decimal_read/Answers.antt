use Rattle.store_rows.proofs.Common.{Ok, sym, ◌∙◌}
use Rattle.store_rows.proofs.Decimals.{one_ok}
use Rattle.store_rows.proofs.signal_columns.decimal_read.Goals as goal

pub returns-in-Ok : goal.returns-in-Ok
returns-in-Ok c other reads = one_ok c.in-Ok.decimal other (sym c.in-Ok.is ∙ sym (c.read.ensures.only (Ok other) reads))
