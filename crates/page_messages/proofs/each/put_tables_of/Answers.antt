use Rattle.page_messages.proofs.Common.{◌≡◌, ◌++◌, ◌∙◌, ℕ, List, [], append-nil, ap, codes, map, refl, subst, escaped}
use Rattle.page_messages.proofs.Common.{Becomes, adding, beginning, added}
use Rattle.markup.specs.declared.tag.Tag.TheVariants as tag
use Rattle.page_parts.specs.Frames.{wide}
use Rattle.page_messages.specs.Each.{wide_signals}
use Rattle.page_messages.specs.Layouts.{Adds, AreLayouts}
use Rattle.page_messages.specs.Signals.{Listed, listed, listed_of, signals_html}
use Rattle.page_messages.specs.declared.shown.Shown.{Shown}
use Rattle.page_messages.proofs.Adding.{enclosed}
use Rattle.page_messages.proofs.each.put_tables_of.Goals as goal

pub returns : goal.returns
returns c =
    let m = c.args.message.now in
    let rows : List Listed = listed c.args.marks.now c.args.index m.signals in
    let shown : List Shown = c.in_ok-shown.shown.items in
    let page = c.args.page.now in
    let drawn = c.put_layouts.new.page in
    let opened = c.open_wide.new.page in
    let listing = c.put_signals.new.page in
    let are : map listed_of shown ≡ rows =
    c.in_ok-shown.ensures ∙ ap (listed c.args.marks.now c.args.index) c.as_slice.ensures.signals in
    let layouts : Adds (AreLayouts m shown) drawn page =
    subst (λ (v : List Shown). Adds (AreLayouts m v) drawn page) c.deref.ensures.value c.in_ok-put_layouts.ensures in
    let name : escaped c.as_bytes-name.result.now ++ [] ≡ escaped m.name =
    append-nil (escaped c.as_bytes-name.result.now) ∙ ap escaped c.as_bytes-name.ensures.bytes in
    let begun : Becomes opened (beginning tag.Division (wide (codes "Signals of " ++ escaped m.name)) drawn) =
    subst (λ (v : List ℕ). Becomes opened (beginning tag.Division (wide (codes "Signals of " ++ v)) drawn)) name
    c.open_wide.ensures in
    let signals : Becomes listing (adding (signals_html m rows) opened) =
    subst (λ (v : List Listed). Becomes listing (adding (signals_html m v) opened))
    (ap (map listed_of) c.deref-2.ensures.value ∙ are) c.in_ok-put_signals.ensures in
    let table : Becomes c.close.new.self (adding (wide_signals m rows) drawn) =
    enclosed tag.Division (wide (codes "Signals of " ++ escaped m.name)) (signals_html m rows) drawn opened listing _ begun
    signals c.close.ensures in (
      layouts.0 ++ wide_signals m rows,
      record {
        shown = shown;
        layouts = layouts.0;
        are_shown = are;
        are_layouts = layouts.1;
        is = refl;
      },
      added page layouts.0 (wide_signals m rows) layouts.2 table,
    )
