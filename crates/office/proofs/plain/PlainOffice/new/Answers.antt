use Rattle.office.proofs.Common.{ℕ, List, Option, sym, subst, SpnBlock, Net, IsOffice, offices_are_kept}
use Rattle.office.specs.Indexed.{AreIndexes}
use Rattle.office.specs.declared.net_index.NetIndex.{NetIndex}
use Rattle.office.proofs.plain.PlainOffice.new.Goals as goal

pub invariant_of-result : goal.invariant_of-result
invariant_of-result c = (
  subst (λ (p : List Net × List SpnBlock × List ℕ). IsOffice
      (record { nets = p.0; book = record { blocks = p.1; used = p.2 } }))
      (λ i. (sym c.new.ensures.items i, sym c.new-3.ensures i, sym c.new-4.ensures i)) offices_are_kept.opening_is,
  subst (λ (xs : List (Option NetIndex)). AreIndexes xs c.new.result.items) (sym c.new-2.ensures.items) tt,
)
