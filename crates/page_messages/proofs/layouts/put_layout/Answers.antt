use Rattle.page_messages.proofs.Common.{◌≡◌, ◌++◌, ◌∙◌, ℕ, List, ap, filter, refl, subst, sym, end_tag, start_tag}
use Rattle.page_messages.proofs.Common.{Becomes, adding, beginning, next}
use Rattle.markup.specs.declared.tag.Tag.TheVariants as tag
use Rattle.page_messages.specs.Layouts.{AreHeldBy, AreInOrder, bits_at, bits_html, caption_if, holders, is_there}
use Rattle.page_messages.specs.Layouts.{layout_attributes, number_if}
use Rattle.page_messages.specs.declared.bits.Held.{Held}
use Rattle.page_messages.specs.declared.shown.Shown.{Shown}
use Rattle.page_messages.proofs.Adding.{added_as, enclosed_after}
use Rattle.page_messages.proofs.Alike.{bits_alike}
use Rattle.page_messages.proofs.layouts.put_layout.Goals as goal

pub returns : goal.returns
returns c =
    let m = c.args.message.now in
    let page = c.args.page.now in
    let caption = caption_if c.args.of in
    let held = c.in_ok-held.held.items in
    let shown = c.args.signals.now in
    let signals : List Shown = filter (is_there (number_if c.args.of)) shown in
    let there : c.deref.result.now ≡ signals =
    c.deref.ensures.value ∙ c.in_ok-there.ensures ∙ ap (λ v. filter (is_there v) shown) c.number_of.ensures in
    let is : AreHeldBy signals m.length held =
    subst (λ (v : List Shown). AreHeldBy v m.length held) there
    (subst (λ (n : ℕ). AreHeldBy c.deref.result.now n held) c.bytes-length.ensures.value c.in_ok-held.ensures.held) in
    let attributes = layout_attributes m.name in
    let captioned = c.put_caption.new.page in
    let drawn = c.put_bits.new.page in
    let bits : Becomes drawn (adding (bits_html (bits_at held) m.length) captioned) =
    subst (λ (n : ℕ). Becomes drawn (adding (bits_html (bits_at held) n) captioned)) c.bytes-length.ensures.value
    (subst (λ (v : List Held). Becomes drawn (adding (bits_html (bits_at v) c.bytes-length.result) captioned))
    c.deref-2.ensures.value
    (c.in_ok-put_bits.ensures (subst (λ (v : List Held). AreInOrder v c.bytes-length.result)
    (sym c.deref-2.ensures.value) c.in_ok-held.ensures.held.order))) in
    added_as _ _ page _
    (ap (λ v. start_tag tag.Table attributes ++ (caption ++ (v ++ end_tag tag.Table)))
    (bits_alike (bits_at held) (holders signals) m.length is.each))
    (enclosed_after tag.Table attributes caption (bits_html (bits_at held) m.length) page _ _ _
    (next page (beginning tag.Table attributes) (adding caption) (λ w. refl) c.open_layout.ensures c.put_caption.ensures)
    bits c.close.ensures)
