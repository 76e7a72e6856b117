use Rattle.std.proofs.Common.{◌≡◌, ◌+◌, ◌-◌, ◌/◌, ◌%◌, ◌∷◌, [], ◌∙◌, sym, ap, append_assoc}
use Rattle.markup.specs.Html.{escaped}
use Rattle.markup.specs.Writing.{adding}
use Rattle.markup.proofs.Changes.{back}
use Rattle.page_parts.specs.Letters.{first_letter, letter}
use Rattle.page_parts.proofs.Lettering.{last, more_letters, one_letter}
use Rattle.page_parts.proofs.letters.+put_letter.Goals as goal
use Rattle.page_parts.proofs.letters.+put_letter.Goals.{then-index-ge26, else-index-ge26, then-is_small, else-is_small}

pub returns : goal.returns
returns t c = λ kept.
    let page = c.args.page.now in
    let i = c.args.index in
    let is_small = c.args.is_small in
    let first : c.if-is_small.first ≡ first_letter is_small = elim c.if-is_small.branch [
      | then-is_small w ↦ w.first-is ∙ sym (ap first_letter w.if-is_small.true)
      | else-is_small w ↦ w.first-is ∙ sym (ap first_letter w.if-is_small.false)
    ] in
    let k = back c.text.ensures kept in
    let ends = c.text.ensures kept ∙ ap (λ n. adding (escaped ((n + i % 26) ∷ [])) c.if-index-ge26.page) first in
    elim c.if-index-ge26.branch [
      | then-index-ge26 w ↦
          let before = letter (i / 26 - 1) is_small in
          ends ∙ ap (adding (last i is_small)) (w.page-is ∙ w.put_letter.ensures (sym (ap (λ v. v.is_lost) w.page-is) ∙ k))
          ∙ ap (λ v. record page { text = v }) (append_assoc page.text before (last i is_small))
          ∙ ap (λ v. adding v page) (sym (more_letters i is_small w.if-index-ge26.true))
      | else-index-ge26 w ↦
          ends ∙ ap (adding (last i is_small)) w.page-is
          ∙ ap (λ v. adding v page) (sym (one_letter i is_small w.if-index-ge26.false))
    ]
