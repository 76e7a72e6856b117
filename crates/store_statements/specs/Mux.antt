-- The column that shows when a signal is there.
use Rattle.std.specs.Prelude.{ℤ, pos, negsuc}
use Rattle.store_statements.specs.declared.row.MuxColumn.{MuxColumn}
use Rattle.store_statements.specs.declared.row.MuxColumn.TheVariants.{Always, Multiplexor, Under}

-- -2, -1, or the value of the multiplexor
abbrev pub mux_number : MuxColumn → ℤ
mux_number Always = negsuc 1
mux_number Multiplexor = negsuc 0
mux_number (Under value) = pos value
