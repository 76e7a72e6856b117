use Rattle.store_bodies.proofs.WithSheets.{one_more}
use Rattle.store_bodies.proofs.read_texts.ReadTexts.with.Goals as goal

pub invariant_of-result : goal.invariant_of-result
invariant_of-result c =
    rw (c.in_ok-push.ensures.ok, c.in_ok-push-2.ensures.ok)
    (one_more c.into_parts-texts.result.0 c.into_parts-texts.result.1 c.into_parts-text.result.0
    c.into_parts-text.result.1 c.into_parts-texts.ensures.read c.into_parts-text.ensures.read)
