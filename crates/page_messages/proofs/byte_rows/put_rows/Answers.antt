use Rattle.page_messages.proofs.Common.{◌+◌, ◌*◌, ◌/◌, ◌^◌, ◌<◌, ℕ, arith, subst, sym, Becomes, adding}
use Rattle.page_messages.specs.Layouts.{free_rows}
use Rattle.page_messages.specs.declared.bits.Held.{Held}
use Rattle.page_messages.proofs.RowsDrawn.{draws, ends, goes_on}
use Rattle.page_messages.proofs.byte_rows.put_rows.Goals as goal
use Rattle.page_messages.proofs.byte_rows.put_rows.Goals.{then-byte-next+in_ok-put_byte_row, else-byte-next}

pub loop-bit-preserved : goal.loop-bit-preserved
loop-bit-preserved c = λ order.
    let held = c.args.held.now in
    let bytes = c.args.length in
    let i = c.loop-bit.bit-index in
    let next = c.loop-bit.next in
    let page = c.loop-bit.page in
    let bit = c.bit-item.result in
    let left = c.loop-bit.invariant order in
    let place : bit.place < 8 * bytes =
    subst (λ (b : Held). b.place < 8 * bytes) (sym c.bit-item.is) (order.within i bit c.loop-bit-test.true) in
    let small : 8 * (bit.place / 8) + 8 < 2 ^ 32 = omega (arith, c.ranges.length.fits) in
    elim c.if-byte-next.branch [
      | then-byte-next+in_ok-put_byte_row w ↦ rw (w.next-is, w.page-is)
          (draws held bytes i next c.args.page.now page order left bit w.put_free_row.new.page w.put_byte_row.new.page
          c.loop-bit-test.true c.bit-item.is w.if-byte-next.true w.put_free_row.ensures
          (w.in_ok-put_byte_row.ensures order.rising small))
      | else-byte-next w ↦ rw (w.next-is, w.page-is)
          (goes_on held bytes i next c.args.page.now page order left bit c.loop-bit-test.true c.bit-item.is
          w.if-byte-next.false)
    ]

pub returns : goal.returns
returns c = λ order.
    let new = c.put_free_row-2.new.page in
    ends c.args.held.now c.args.length c.loop-bit.bit-index c.loop-bit.next c.args.page.now c.loop-bit.page order
    (c.loop-bit.invariant order) new c.loop-bit-test.false
    (subst (λ (n : ℕ). Becomes new (adding (free_rows c.loop-bit.next n) c.loop-bit.page)) c.from.ensures
    c.put_free_row-2.ensures)
