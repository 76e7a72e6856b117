use Rattle.std.proofs.Common.{◌≡◌, ◌++◌, ◌∷◌, [], rules}
use Rattle.markup.proofs.Opening.{finished}
use Rattle.markup.proofs.markup.Markup.close.Goals as goal

pub invariant_of-self-2 : goal.invariant_of-self-2
invariant_of-self-2 c h =
    let was : c.self.inside.open.items ≡ c.pop.new.self.items ++ c.in-Some.tag ∷ [] = search rules in
    finished c.push_end.result c.self.inside.open.items c.pop.new.self.items c.is_err-self-inside.result c.in-Some.tag
    (c.self.invariant c.if-not-self.true) was c.push_end.ensures c.is_err-self-inside.ensures.value h
