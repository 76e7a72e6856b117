use Rattle.std.proofs.Common.{Option, subst, sym}
use Rattle.std.specs.Prelude.{IfSome}
use Rattle.office_advice.proofs.Ranges.{ranges_exact}
use Rattle.office_advice.specs.Phrase.{IsRangeOf}
use Rattle.office_advice.specs.declared.phrases.NumberRange.{NumberRange}
use Rattle.office_advice.proofs.phrases.range_of.Goals as goal

pub returns-clause-exact : goal.returns-clause-exact
returns-clause-exact c =
    let P : Option NumberRange → Type 0 = λ found. IfSome found (IsRangeOf c.args.kind) in
    subst P (sym c.kind_range.ensures) (ranges_exact c.args.kind)
