-- What is printed of a text that keeps what is skipped.
use Rattle.canoffice_cli.proofs.Common.{◌≡◌, ◌∙◌, ℕ, List, [], ◌∷◌, map, ap, refl, inr, Result, Ok, Err, IfOk}
use Rattle.canoffice_cli.proofs.Common.{AllocError, canonical_text, ReadsAs, start_and_keyword, ReadsAsNothing, Passed}
use Rattle.canoffice_cli.proofs.Common.{Sheet}
use Rattle.std.specs.Prelude.{◌≢◌}
use Rattle.dbc_grammar.specs.Reads.{ReadsAsOneAtMost}
use Rattle.dbc_keep_law.specs.Law.{IsKept, KeptIsOne, KeptIsRead}
use Rattle.dbc_lex.specs.declared.fault.ReadCode.TheVariants.{Memory}
use Rattle.dbc_lex.specs.declared.fault.ReadFault.{ReadFault}
use Rattle.dbc_read.specs.Reading.{IsReadFault}
use Rattle.canoffice_cli.specs.Jobs.Checked.{fault_line}
use Rattle.canoffice_cli.specs.Jobs.Formatted.{IsKeptOutcome, KeepsKept, KeepsNothing, fault_errors}
use Rattle.canoffice_cli.specs.Outcome.{Outcome, outcome_of, success}
use Rattle.canoffice_cli.specs.declared.report.Report.{Report}

pub unchanged : KeptIsOne → (bytes text : List ℕ) (o : Outcome) → IsKept bytes text → o ≡ success text
    → KeepsKept bytes o
unchanged one bytes text o kept is own = is ∙ ap success (one bytes text bytes kept own)

none_passed : (passed : List Passed) → map start_and_keyword passed ≡ [] → passed ≡ []
none_passed [] e = refl
none_passed (p ∷ ps) e = cc

pub nothing_kept : ReadsAsOneAtMost → (bytes text : List ℕ) (s : Sheet) (passed : List Passed) (o : Outcome)
    → ReadsAs bytes s (map start_and_keyword passed) → (passed ≡ [] → text ≡ canonical_text s) → o ≡ success text
    → KeepsNothing bytes o
nothing_kept once bytes text s passed o reads plain is t none =
    let same = once bytes s t (map start_and_keyword passed) [] reads none in
    is ∙ ap success (plain (none_passed passed same.1) ∙ ap canonical_text same.0)
