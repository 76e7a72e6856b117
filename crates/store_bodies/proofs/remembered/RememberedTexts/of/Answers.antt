use Rattle.std.proofs.Common.{◌≤◌, subst, sym}
use Rattle.store_bodies.specs.ReadText.{TextsRead, remembered_limit, text_bytes}
use Rattle.store_bodies.proofs.remembered.RememberedTexts.of.Goals as goal

pub invariant_of-result : goal.invariant_of-result
invariant_of-result c =
    let cut = c.cut_to.ensures in
    subst (λ (read : TextsRead). text_bytes read.texts ≤ remembered_limit) (sym cut.2) cut.1.fits
