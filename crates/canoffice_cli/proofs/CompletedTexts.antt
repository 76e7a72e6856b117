-- What is printed of a sheet of which more than the text is wanted.
use Rattle.canoffice_cli.proofs.Common.{◌≡◌, ℕ, Bool, true, false, List, Option, Some, None, Result, subst, sym, IfOk}
use Rattle.canoffice_cli.proofs.Common.{Bor, AllocError, Files}
use Rattle.dbc_keep.specs.Completed.{NamedText}
use Rattle.office_script.specs.Files.{Holding}
use Rattle.canoffice_cli.specs.Databases.{Databases}
use Rattle.canoffice_cli.specs.Jobs.Exported.{IsCompletedOutcome, IsTextOutcome}
use Rattle.canoffice_cli.specs.Outcome.{outcome_of}
use Rattle.canoffice_cli.specs.Jobs.{IsExportedBy}
use Rattle.canoffice_cli.specs.declared.report.Report.{Report}

module _ (text : List ℕ) (r : Result Report AllocError) where
  pub with_original : (original : Option NamedText) (one : NamedText) (j1939 : Bool) → original ≡ Some one
      → IfOk r (λ report. IsCompletedOutcome original j1939 text (outcome_of report))
      → IfOk r (λ report. IsTextOutcome original j1939 text (outcome_of report))
  with_original (Some given) one j1939 is completed = completed
  with_original None one j1939 is completed = cc

  pub with_attributes : (original : Option NamedText) (j1939 : Bool) → j1939 ≡ true
      → IfOk r (λ report. IsCompletedOutcome original j1939 text (outcome_of report))
      → IfOk r (λ report. IsTextOutcome original j1939 text (outcome_of report))
  with_attributes (Some given) j1939 is completed = completed
  with_attributes None true is completed = completed
  with_attributes None false is completed = cc

-- an original that is there
pub of_original : (files : Files) (input : Holding) (before after : Databases) (path net : List ℕ) (number : ℕ)
    (original : Option (Bor (List ℕ))) (file : Bor (List ℕ)) (j1939 : Bool) (r : Result Report AllocError)
    → original ≡ Some file
    → IfOk r (λ report. IsExportedBy files input before after path net number (Some file) j1939 (outcome_of report))
    → IfOk r (λ report. IsExportedBy files input before after path net number original j1939 (outcome_of report))
of_original files input before after path net number original file j1939 r is exported =
    subst (λ (o : Option (Bor (List ℕ))).
    IfOk r (λ report. IsExportedBy files input before after path net number o j1939 (outcome_of report)))
    (sym is) exported
