use Rattle.page_messages.proofs.Common.{Bor, List, [], ℕ, Option, Some, codes, get_or, refl, subst, sym, take_all}
use Rattle.page_messages.proofs.Common.{Becomes, adding}
use Rattle.std.proofs.Common.{option_map}
use Rattle.std.proofs.lemmas.Grind.{get_or_default_zero}
use Rattle.markup.specs.declared.tag.Tag.TheVariants as tag
use Rattle.page_messages.specs.Layouts.{Adds, AreFor, IsValueLayout, caption, drawing_of, grid_html}
use Rattle.page_messages.proofs.Adding.{adds_more, enclosed, nothing_added}
use Rattle.page_messages.proofs.layouts.put_value_layouts.Goals as goal

pub loop-one-init : goal.loop-one-init
loop-one-init c = ([], refl, nothing_added _)

pub loop-one-preserved : goal.loop-one-preserved
loop-one-preserved c =
    let m = c.args.message.now in
    let shown = c.args.signals.now in
    let name = c.args.multiplexor.now.name in
    let values = c.args.values.now in
    let i = c.loop-one.one-index in
    let value : ℕ = get_or values i 0 in
    let page = c.loop-one.page in
    let new = c.put_layout.new.page in
    let text : Option (List ℕ) = option_map (λ (t : Bor (List ℕ)). t.now) c.text_of-text.result in
    let drawn : Becomes new (adding (drawing_of m shown (Some value) (caption name value text)) page) =
    subst (λ (v : List ℕ). Becomes new (adding (drawing_of m shown (Some value) (caption v value text)) page))
    c.as_bytes-name.ensures.bytes c.in_ok-put_layout.ensures in
    let one : Adds (IsValueLayout m shown name value) new page =
    (drawing_of m shown (Some value) (caption name value text), record { text = text; is = refl }, drawn) in
    adds_more (IsValueLayout m shown name) values i value _ page new c.loop-one-test.true
    (sym (get_or_default_zero values i value c.loop-one-test.true)) c.loop-one.invariant one

pub returns : goal.returns
returns c =
    let Is = IsValueLayout c.args.message.now c.args.signals.now c.args.multiplexor.now.name in
    let values = c.args.values.now in
    let done = c.loop-one.invariant in (
      grid_html done.0,
      record {
        layouts = done.0;
        each = subst (λ (v : List ℕ). AreFor Is v done.0)
            (take_all c.loop-one.one-index values c.loop-one-test.false) done.1;
        is = refl;
      },
      enclosed tag.Division (codes " class=\"grid\"") done.0 c.args.page.now _ _ _ c.open.ensures done.2 c.close.ensures,
    )
