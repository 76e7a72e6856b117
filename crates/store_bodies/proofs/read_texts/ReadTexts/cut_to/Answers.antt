use Rattle.std.proofs.Common.{◌∙◌, ℕ, List, ap, subst, take}
use Rattle.store_bodies.specs.ReadText.{IsLongestWithin}
use Rattle.store_bodies.proofs.WithSheets.{first_ones, same_read}
use Rattle.store_bodies.proofs.read_texts.ReadTexts.cut_to.Goals as goal

pub invariant_of-result : goal.invariant_of-result
invariant_of-result c =
    rw (c.first_of.ensures, c.first_of-2.ensures)
    (first_ones c.count_within-count.result c.into_parts-texts.result.0 c.into_parts-texts.result.1
    c.into_parts-texts.ensures.read)

pub returns : goal.returns
returns c =
    let count = c.count_within-count.result in
    let read = c.into_parts-texts.ensures in (
      count,
      subst (λ (texts : List (List ℕ)). IsLongestWithin c.args.limit texts count) (c.as_slice.ensures ∙ read.texts)
          c.count_within-count.ensures,
      same_read _ _ _ _ (c.first_of.ensures ∙ ap (take count) read.texts)
          (c.first_of-2.ensures ∙ ap (take count) read.sheets),
    )
