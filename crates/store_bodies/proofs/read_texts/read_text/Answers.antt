use Rattle.std.proofs.Common.{ℕ, List, Some, ap, subst, sym}
use Rattle.dbc_grammar.specs.Reads.{Reads}
use Rattle.store_bodies.proofs.read_texts.read_text.Goals as goal

pub returns-then-is_of-clause-found : goal.returns-then-is_of-clause-found
returns-then-is_of-clause-found c sheet reads =
    ap Some (c.is_of.ensures.read sheet
    (subst (λ (text : List ℕ). Reads text sheet) (sym (c.is_of.ensures.same c.if-is_of.true)) reads))
