-- A run that was answered, or ran out of memory.
use Rattle.canoffice_cli.proofs.Common.{◌≡◌, ◌∷◌, Bool, true, false, List, [], Some, None, ℕ, Result, Ok, Err, codes}
use Rattle.canoffice_cli.proofs.Common.{refl, sym, ap, subst, inl, inr, IfOk, OnErr, if◌then◌else◌, AllocError, Files}
use Rattle.canoffice_cli.proofs.Common.{Desks, entered, lint_entered}
use Rattle.canoffice_cli.specs.declared.report.Report.{Report}
use Rattle.canoffice_cli.specs.declared.report.ExitStatus.{ExitStatus}
use Rattle.canoffice_cli.specs.Delivery.{IsDelivered, Writing}
use Rattle.canoffice_cli.specs.Outcome.{memory_lost, outcome_of, final_outcome}
use Rattle.office_script.specs.Files.{Holding}
use Rattle.canoffice_cli.specs.Databases.{Databases}
use Rattle.canoffice_jobs.specs.CommandLine.{is_check}
use Rattle.canoffice_jobs.specs.Meant.{meant_after, name_before_help, words_meant}
use Rattle.canoffice_cli.specs.Performance.{IsAnswered, IsEnteredAnswer, IsPerformed}
use Rattle.canoffice_cli.specs.Unprinted.{IsUnprinted}

-- ---- the words as they are entered

pub check_entered : (words given : List (List ℕ)) → is_check words ≡ true → given ≡ lint_entered true words
    → given ≡ entered words
check_entered words given is same =
    subst (λ b. given ≡ (if b then lint_entered true words else words)) (sym is) same

pub others_entered : (words : List (List ℕ)) → is_check words ≡ false → words ≡ entered words
others_entered words other = subst (λ b. words ≡ (if b then lint_entered true words else words)) (sym other) refl

pub help_meant : (words : List (List ℕ)) (name : List ℕ) → name_before_help words ≡ Some name
    → name ∷ codes "help" ∷ codes "help" ∷ [] ≡ words_meant words
help_meant words name is = sym (ap (λ found. meant_after found words) is)

pub words_stay : (words : List (List ℕ)) → name_before_help words ≡ None → words ≡ words_meant words
words_stay words none = sym (ap (λ found. meant_after found words) none)

-- what is left where memory ran out for an answer to these words
module _ (files : Files) (input : Holding) (terminal : Bool) (earlier later : Desks) (before after : Databases) where
  pub lost_of : (given words : List (List ℕ)) (answer : Result Report AllocError) → given ≡ words
      → OnErr answer (IsUnprinted earlier later (IsEnteredAnswer given files input terminal earlier later before after))
      → OnErr answer (IsUnprinted earlier later (IsEnteredAnswer words files input terminal earlier later before after))
  lost_of given words answer same lost =
      subst (λ ws. OnErr answer
      (IsUnprinted earlier later (IsEnteredAnswer ws files input terminal earlier later before after))) same lost

-- ---- a run

module _ (words : List (List ℕ)) (files : Files) (input : Holding) (terminal : Bool) (earlier later : Desks)
    (before after : Databases) (output errors : Writing) (status : ExitStatus) where
  pub performed : (answer : Result Report AllocError)
      → IfOk answer (λ report. IsAnswered words files input terminal earlier later before after (outcome_of report))
      → OnErr answer (IsUnprinted earlier later (IsAnswered words files input terminal earlier later before after))
      → IsDelivered (final_outcome answer) output errors status
      → IsPerformed words files input terminal earlier later before after output errors status
  performed (Ok report) answered lost delivered = (outcome_of report, inr answered, delivered)
  performed (Err e) answered lost delivered = (memory_lost, inl (refl, lost), delivered)
