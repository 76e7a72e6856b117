use Rattle.page_messages.proofs.Common.{◌≡◌, ◌+◌, ◌-◌, ◌<◌, ◌≤◌, ◌∙◌, ℕ, arith, subst, sym, Becomes, adding}
use Rattle.page_messages.specs.Layouts.{bits_at, cell_html}
use Rattle.page_messages.proofs.Adding.{on_ok}
use Rattle.page_messages.proofs.CellsDrawn.{begins, ends, goes_on}
use Rattle.page_messages.proofs.cells.put_cells.Goals as goal
use Rattle.page_messages.proofs.cells.put_cells.Goals.{then-not-are_alike+in_ok-put_cell, else-not-are_alike}

pub loop-place-preserved : goal.loop-place-preserved
loop-place-preserved c = λ rising small.
    let at = bits_at c.args.held.now in
    let start = c.args.start in
    let began = c.args.page.now in
    let from = c.loop-place.from in
    let place = c.loop-place.place in
    let high = c.loop-place.first.now in
    let low = c.loop-place.last.now in
    let page = c.loop-place.page in
    let left = c.loop-place.invariant rising small in
    let here = c.held_at-here.result.now in
    let is = c.held_at-here.ensures rising in
    let within : place < start + 8 = omega (arith, c.saturating_add-end.ensures, c.loop-place-test.true) in
    elim c.if-not-are_alike.branch [
      | then-not-are_alike+in_ok-put_cell w ↦ rw (w.page-is, w.from-is, w.first-is)
          (begins at start from place high low here began page left w.put_cell.new.page within is
          (sym c.are_alike.ensures ∙ w.if-not-are_alike.true)
          (subst (λ (n : ℕ). Becomes w.put_cell.new.page (adding (cell_html n high low) page))
          w.saturating_sub-columns.ensures w.in_ok-put_cell.ensures))
      | else-not-are_alike w ↦ rw (w.page-is, w.from-is, w.first-is)
          (goes_on at start from place high low here began page left within is
          (sym c.are_alike.ensures ∙ w.if-not-are_alike.false))
    ]

pub returns : goal.returns
returns c = λ rising small.
    let at = bits_at c.args.held.now in
    let start = c.args.start in
    let from = c.loop-place.from in
    let place = c.loop-place.place in
    let high = c.loop-place.first.now in
    let low = c.loop-place.last.now in
    let page = c.loop-place.page in
    let left = c.loop-place.invariant rising small in
    let new = c.put_cell-2.new.page in
    let past : start + 8 ≤ place = omega (arith, c.saturating_add-end.ensures, c.loop-place-test.false) in
    let columns : c.saturating_sub.result ≡ start + 8 - from =
    omega (arith, c.saturating_sub.ensures, c.saturating_add-end.ensures) in
    on_ok c.put_cell-2.result (λ drawn. ends at start from place high low low c.args.page.now page left new past
    (subst (λ (n : ℕ). Becomes new (adding (cell_html n high low) page)) columns drawn)) c.put_cell-2.ensures
