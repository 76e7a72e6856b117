use Rattle.std.proofs.Common.{◌∙◌, ℕ, List, subst, sym}
use Rattle.dbc_grammar.specs.Reads.{Reads}
use Rattle.store_bodies.proofs.WithSheets.{same_sheet}
use Rattle.store_bodies.proofs.read_texts.read_anew.Goals as goal

pub invariant_of-result : goal.invariant_of-result
invariant_of-result c other reads =
    let read = subst (λ (text : List ℕ). Reads text other) (c.from_vec.ensures ∙ c.in_ok-copy-in-Some.ensures.items)
    reads in
    same_sheet c.in-Some.sheet other (sym c.in-Some.is ∙ c.in_ok-sheet.ensures.found other read)

pub returns-in_ok-copy-in-Some-clause-found : goal.returns-in_ok-copy-in-Some-clause-found
returns-in_ok-copy-in-Some-clause-found c sheet reads = sym c.in-Some.is ∙ c.in_ok-sheet.ensures.found sheet reads

pub returns-in-None-clause-found : goal.returns-in-None-clause-found
returns-in-None-clause-found c sheet reads = sym c.in-None.is ∙ c.in_ok-sheet.ensures.found sheet reads
