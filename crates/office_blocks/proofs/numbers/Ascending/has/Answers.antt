use Rattle.office_blocks.proofs.Common.{◌≡◌, ◌∙◌, ap, sym, subst, IsStrictlyIncreasing, is_taken}
use Rattle.std.proofs.Common.{rules}
use Rattle.office_blocks.proofs.Parts.{found_is}
use Rattle.office_blocks.proofs.numbers.Ascending.has.Goals as goal

pub returns : goal.returns
returns c =
    let is : c.deref.result.now ≡ c.args.self.now = search rules in
    c.is_ok.ensures.value
    ∙ found_is c.deref.result.now c.args.number c.binary_search.result
    (subst IsStrictlyIncreasing (sym c.deref.ensures.value) c.self.invariant) c.binary_search.ensures.position
    ∙ ap (is_taken c.args.number) is
