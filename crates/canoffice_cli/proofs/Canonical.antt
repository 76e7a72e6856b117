-- A canonical text that is formatted is printed unchanged.
use Rattle.canoffice_cli.proofs.Common.{◌≡◌, ◌∙◌, ℕ, List, sym, ap, subst, canonical_text, Sheet, ReadsAsNothing}
use Rattle.dbc_grammar.specs.Reads.{Reads}
use Rattle.dbc_law.specs.Law.{GrammarLaw}
use Rattle.canoffice_cli.specs.Jobs.Formatted.{KeepsCanonical}
use Rattle.canoffice_cli.specs.Outcome.{Outcome, success}

-- the canonical text of what it reads as is that text
pub printed_again : GrammarLaw → (bytes : List ℕ) (read : Sheet) (o : Outcome) → Reads bytes read
    → o ≡ success (canonical_text read) → KeepsCanonical bytes o
printed_again law bytes read o reads outcome_is s form same =
    let is : read ≡ s = (law s form).only read (subst (λ b. Reads b read) same reads) in
    outcome_is ∙ ap success (ap canonical_text is ∙ sym same)

-- and it reads as something
pub not_nothing : GrammarLaw → (bytes : List ℕ) (o : Outcome) → ReadsAsNothing bytes → KeepsCanonical bytes o
not_nothing law bytes o nothing s form same = absurd (nothing s (subst (λ b. Reads b s) (sym same) (law s form).reads))
