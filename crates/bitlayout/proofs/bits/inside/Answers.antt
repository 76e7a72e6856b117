use Rattle.bitlayout.proofs.Common.{◌≡◌, ◌↔◌, ◌≤◌, ◌*◌, IsTrue, arith, leb-true, same_from_decides}
use Rattle.std.proofs.Common.{leb}
use Rattle.std.proofs.lemmas.Bool.{le-leb}
use Rattle.bitlayout.specs.Bits.{IsInside}
use Rattle.bitlayout.proofs.Walks.{inside_from_end, end_from_inside, is_inside_decides}
use Rattle.bitlayout.proofs.bits.inside.Goals as goal

pub returns : goal.returns
returns c =
    let length : c.from.result ≡ c.args.length = c.from.ensures in
    let is : IsTrue (leb c.ranks.result.end (8 * c.from.result)) ↔ IsInside c.args.layout c.args.length = (
      λ t. let few : c.ranks.result.end ≤ 8 * c.from.result = leb-true _ _ t in
          inside_from_end c.args.layout c.args.length (omega arith),
      λ inside. let few = end_from_inside c.args.layout c.args.length (omega arith) inside in le-leb _ _ (omega arith),
    ) in
    record { inside = is; computed = same_from_decides _ _ is (is_inside_decides c.args.layout c.args.length) }
