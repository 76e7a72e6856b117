use Rattle.page_messages.proofs.Common.{◌≡◌, ◌==◌, ◌∙◌, ℕ, List, Some, false, find, length, ap, arith, subst, sym}
use Rattle.page_messages.proofs.Common.{nat_tests}
use Rattle.std.specs.Option.{option_copied}
use Rattle.page_messages.specs.Layouts.{Adds, AreValueLayouts, is_multiplexor}
use Rattle.page_messages.proofs.Adding.{on_ok}
use Rattle.page_messages.proofs.Drawn.{drawn_by_values}
use Rattle.page_messages.proofs.layouts.put_layouts.Goals as goal

pub returns-in-Some : goal.returns-in-Some
returns-in-Some c =
    let m = c.args.message.now in
    let shown = c.args.signals.now in
    let page = c.args.page.now in
    let new = c.put_value_layouts.new.page in
    let s = c.in-Some.shown.now in
    let values = c.in_ok-values.values.items in
    let some : (m.length == 0) ≡ false = grind (arith, nat_tests, c.bytes.ensures.value, c.if-bytes-eq0.false) in
    let found : find is_multiplexor shown ≡ Some s = sym c.multiplexor_of.ensures ∙ ap option_copied c.in-Some.is in
    let counted : c.in_ok-values.values.len ≡ length values = omega (arith, c.in_ok-values.values.ok.0) in
    let many : (length values == 0) ≡ false =
    ap (λ (n : ℕ). n == 0) (sym counted) ∙ sym c.is_empty.ensures ∙ c.if-not-is_empty.true in
    on_ok c.put_value_layouts.result
    (λ (all : Adds (AreValueLayouts m shown s.signal.now.name c.deref.result.now) new page).
    drawn_by_values m shown s values page new some c.in_ok-values.ensures found many
    (subst (λ (v : List ℕ). Adds (AreValueLayouts m shown s.signal.now.name v) new page) c.deref.ensures.value all))
    c.put_value_layouts.ensures
