use Rattle.page_messages.proofs.Common.{take, flat_map, Becomes, adding}
use Rattle.page_messages.specs.Layouts.{bit_head}
use Rattle.page_messages.proofs.layouts.put_bit_heads.Given as goal

abbrev pub invariant-loop-bit : goal.invariant-loop-bit
invariant-loop-bit l = Becomes l.page (adding (flat_map bit_head (take l.bit-index l.bits)) l.initial.page)
