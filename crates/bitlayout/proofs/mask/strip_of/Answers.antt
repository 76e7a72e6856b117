use Rattle.bitlayout.proofs.Common.{◌≡◌, ◌-◌, ◌*◌, ◌/◌, ◌<◌, ◌≤◌, ◌↔◌, ℕ, sym, subst}
use Rattle.bitlayout.specs.declared.layout.Order.{Order}
use Rattle.bitlayout.specs.declared.layout.Order.TheVariants.{Intel, Motorola}
use Rattle.bitlayout.specs.Interval.{rank}
use Rattle.bitlayout.specs.Mask.{HasBit}
use Rattle.bitlayout.specs.Taken.{IsStripOf}
use Rattle.bitlayout.proofs.Masks.{strip_positions}
use Rattle.bitlayout.proofs.mask.strip_of.Goals as goal
use Rattle.bitlayout.proofs.mask.strip_of.Goals.{in-Intel, in-Motorola}

-- the bits are those from one rank up to another
abbrev IsRun : ℕ → ℕ → ℕ → Order → Type 0
IsRun bits first end order = (i : ℕ) → HasBit bits i ↔ ((first ≤ rank order i) × (rank order i < end))

as_run : (bits run first end : ℕ) (order known : Order) → bits ≡ run → order ≡ known → IsRun run first end known
    → IsRun bits first end order
as_run bits run first end order known is same h =
    subst (λ o. IsRun bits first end o) (sym same) (subst (λ n. IsRun n first end known) (sym is) h)

pub returns-clause-positions : goal.returns-clause-positions
unfolding IsStripOf
returns-clause-positions c =
    let layout = c.args.layout in
    let first = c.ranks-ranks.result.first in
    let end = c.ranks-ranks.result.end in
    let low : ℕ = first - 64 * (first / 64) in
    let high : ℕ = end - 64 * (first / 64) in
    let is : IsRun c.match-order.bits low high layout.order = elim c.match-order.branch [
      | in-Intel w ↦ as_run c.match-order.bits w.run-bits.result low high layout.order Intel w.bits-is w.in-Intel.is
          w.run-bits.ensures
      | in-Motorola w ↦ as_run c.match-order.bits w.motorola_run-bits.result low high layout.order Motorola w.bits-is
          w.in-Motorola.is w.motorola_run-bits.ensures
    ] in
    strip_positions layout first end c.match-order.bits c.ranks-ranks.ensures.first c.ranks-ranks.ensures.end is
