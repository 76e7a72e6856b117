use Rattle.std.proofs.lemmas.Bool.Decides.{same_from_decides}
use Rattle.decimal.proofs.Values.{equal_by_parts}
use Rattle.decimal.proofs.number.DecimalPartialEq.eq.Goals as goal

pub returns : goal.returns
returns c = same_from_decides _ _ c.has_value_of.ensures.equal (equal_by_parts c.args.self.now c.args.other.now)
