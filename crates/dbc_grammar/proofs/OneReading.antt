-- A text reads as one sheet at most.
use Rattle.dbc_grammar.proofs.Common.{◌∙◌, ℕ, List, sym, ap, subst, Sheet}
use Rattle.dbc_grammar.specs.Division.{Divides, OneDivision}
use Rattle.dbc_grammar.specs.Reads.{Reads, ReadsAsOneAtMost, ReadsOnlyAs}
use Rattle.dbc_grammar.specs.Saying.{Says, SaysOneAtMost, passed_by}
use Rattle.dbc_grammar.specs.TokenLaw.{TokensAreOne}

pub one_reading : TokensAreOne → OneDivision → SaysOneAtMost → ReadsAsOneAtMost
one_reading tokens division says bytes s t p q r u =
    let same_tokens = tokens bytes r.tokens u.tokens r.has_tokens u.has_tokens in
    let same = division u.tokens r.statements u.statements (subst (λ ts. Divides ts r.statements) same_tokens r.divides)
    u.divides in
    (says u.statements s t (subst (λ ss. Says ss s) same r.says) u.says, r.passes ∙ ap passed_by same ∙ sym u.passes)

-- so a sheet that it reads as is the only one
pub reads_only : ReadsAsOneAtMost → (bytes : List ℕ) (s : Sheet) → Reads bytes s → ReadsOnlyAs bytes s
reads_only one bytes s here = record { reads = here; only = λ t other. (one bytes t s other.0 here.0 other.1 here.1).0 }
