use Rattle.page_messages.proofs.Common.{◌≡◌, ◌++◌, codes, take, flat_map}
use Rattle.markup.specs.Html.{words}
use Rattle.page_messages.specs.Layouts.{name_of}
use Rattle.page_messages.specs.declared.bits.Held.{Held}
use Rattle.page_messages.proofs.cells.clash_title.Given as goal

abbrev pub invariant-loop-bit : goal.invariant-loop-bit
invariant-loop-bit l = words l.title.items ≡ words l.initial.title.items
    ++ flat_map (λ (bit : Held). codes ", " ++ name_of bit) (take l.bit-index l.later)
