use Rattle.std.proofs.Common.{◌≡◌, ◌++◌, ◌∷◌, [], ◌∙◌, ℕ, List, false, sym, ap, append-nil, append_assoc}
use Rattle.std.specs.Prelude.{codes}
use Rattle.markup.specs.Html.{end_tag, escaped, start_tag, valued}
use Rattle.markup.specs.Writing.{Writing, adding}
use Rattle.markup.specs.declared.tag.Tag.TheVariants as tag
use Rattle.markup.proofs.Changes.{back}
use Rattle.page_parts.specs.Letters.{before_name, letter}
use Rattle.page_parts.proofs.letters.put_before_name.Goals as goal

pub returns-in-Some : goal.returns-in-Some
returns-in-Some c = λ kept.
    let page = c.args.page.now in
    let with_class : List ℕ → Writing = λ v.
    adding (start_tag tag.Bold (valued (codes " class=\"") (escaped v))
    ++ (letter c.in-Some.index false ++ (end_tag tag.Bold ++ escaped (194 ∷ 160 ∷ [])))) page in
    let k2 = back c.text.ensures kept in
    let k1 = back c.close.ensures k2 in
    let k0 = back c.put_letter.ensures k1 in
    let written : c.text.new.self ≡ with_class c.class_of-class.result.now =
    simp (
      c.text.ensures kept,
      c.close.ensures k2,
      c.put_letter.ensures k1,
      c.open.ensures k0,
      c.as_bytes.ensures.value,
      append-nil,
      append_assoc,
    ) in
    written ∙ ap with_class c.class_of-class.ensures ∙ ap (λ o. adding (before_name o) page) (sym c.in-Some.is)
