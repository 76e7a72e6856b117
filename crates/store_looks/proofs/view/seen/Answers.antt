use Rattle.store_looks.proofs.Common.{List, subst, sym, Sheet}
use Rattle.std.specs.Prelude.{IfSome}
use Rattle.store_bodies.specs.ReadText.{AreReadAs}
use Rattle.store_looks.proofs.view.seen.Goals as goal

pub of-requires-2 : goal.of-requires-2
of-requires-2 c =
    let parts = c.into_parts-sheets in
    subst (λ (sheets : List Sheet). IfSome parts.result.1 (λ texts. AreReadAs texts sheets)) (sym c.in-Some.ensures.1)
    parts.ensures.read
