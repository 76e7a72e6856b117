-- The numbers and the words of the byte orders (Vector's DBC File Format Documentation, byte order of a signal).
use Rattle.std.specs.Prelude.{ℕ, ◌==◌, if◌then◌else◌, List, Option, Some, None, codes}
use Rattle.bitlayout.specs.declared.layout.Order.{Order}
use Rattle.bitlayout.specs.declared.layout.Order.TheVariants.{Intel, Motorola}

abbrev pub order_number : Order → ℕ
order_number Intel = 1
order_number Motorola = 0

-- the order of a number
abbrev pub order_numbered : ℕ → Option Order
order_numbered n = if n == 0 then Some Motorola else (if n == 1 then Some Intel else None)

abbrev pub order_word : Order → List ℕ
order_word Intel = codes "intel"
order_word Motorola = codes "motorola"
