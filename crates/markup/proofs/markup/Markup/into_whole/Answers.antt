use Rattle.std.proofs.Common.{ℕ, List, [], reverse, rules, subst, sym}
use Rattle.markup.specs.Writing.{Opens}
use Rattle.markup.proofs.Opening.{with_ends}
use Rattle.markup.proofs.markup.Markup.into_whole.Goals as goal

pub returns-clause-closed : goal.returns-clause-closed
returns-clause-closed c =
    let opens = c.self.invariant (search rules) in
    subst (λ (v : List ℕ). Opens v []) (sym c.in_ok-push_ends.ensures)
    (with_ends c.self.inside.text.items (reverse c.self.inside.open.items) opens)
