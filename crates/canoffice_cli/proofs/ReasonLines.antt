-- Why commands of a script were refused, after what is stated of it.
use Rattle.canoffice_cli.proofs.Common.{◌≡◌, ◌⊎◌, ◌++◌, ℕ, Bool, true, false, List, [], inl, inr, refl, sym, ap, ◌∙◌}
use Rattle.canoffice_cli.proofs.Common.{append_assoc, append-nil, subst, if◌then◌else◌, flat_map, Answer, Files}
use Rattle.canoffice_cli.specs.Jobs.Explaining.{Explains, IsExplanation, IsStated}
use Rattle.canoffice_cli.specs.Outcome.{Outcome, and_errors}
use Rattle.canoffice_cli.specs.Numbers.{script_numbers}
use Rattle.canoffice_cli.specs.Reasons.{AreReasons, HasReasons, TellsOf, reason_line, refused_lines}
use Rattle.canoffice_cli.proofs.Told.{none_of}
use Rattle.canoffice_cli.specs.declared.reasons.Reasons.{Reasons}
use Rattle.canoffice_cli.specs.declared.refused_line.RefusedLine.{RefusedLine}
use Rattle.canoffice_cli.specs.declared.jobs.file_jobs.FileTask.{FileTask}
use Rattle.canoffice_cli.specs.declared.jobs.file_jobs.FileTask.TheVariants as task

-- none are
none_are : (name script : List ℕ) (answers : List Answer) → AreReasons name script answers []
none_are name script answers =
    record { lines = []; some = none_of (refused_lines answers (script_numbers script)); is = refl }

no_reasons : (name script stated : List ℕ) (answers : List Answer) → HasReasons name script stated answers stated
no_reasons name script stated answers = ([], none_are name script answers, sym (append-nil stated))

-- those that were added to none, or none
pub reasons_are : (name script advice : List ℕ) (answers : List Answer) (first last : Reasons)
    → first.lines.items ≡ [] → TellsOf script answers first last
    → (advice ≡ flat_map (reason_line name) last.lines.items) ⊎ (advice ≡ [])
    → AreReasons name script answers advice
reasons_are name script advice answers first last empty told (inl same) = record {
  lines = told.added;
  some = told.some;
  is = same ∙ ap (flat_map (reason_line name)) (told.after ∙ ap (λ (l : List RefusedLine). l ++ told.added) empty);
}
reasons_are name script advice answers first last empty told (inr none) =
    subst (AreReasons name script answers) (sym none) (none_are name script answers)

pub errors_added : (o : Outcome) (a b : List ℕ) → and_errors (and_errors o a) b ≡ and_errors o (a ++ b)
errors_added o a b = ap (λ (errors : List ℕ). record o { errors = errors }) (append_assoc o.errors a b)

-- a text that is added to errors, or isn't
pub maybe_added : (o : Outcome) (advice errors : List ℕ) (ok : Bool)
    → errors ≡ (if ok then o.errors ++ advice else o.errors)
    → (record o { errors = errors } ≡ and_errors o advice) ⊎ (record o { errors = errors } ≡ o)
maybe_added o advice errors true is = inl (ap (λ (e : List ℕ). record o { errors = e }) is)
maybe_added o advice errors false is = inr (ap (λ (e : List ℕ). record o { errors = e }) is)

-- the reasons come after what is stated, or are left out
pub with_reasons : (name script stated advice : List ℕ) (answers : List Answer) (plain first last : Outcome)
    → AreReasons name script answers advice
    → first ≡ and_errors plain stated → (last ≡ and_errors first advice) ⊎ (last ≡ first)
    → Explains (HasReasons name script stated answers) plain last
with_reasons name script stated advice answers plain first last are whole (inl more) = record {
  stated = stated ++ advice;
  is = (advice, are, refl);
  whole = more ∙ ap (λ o. and_errors o advice) whole ∙ errors_added plain stated advice;
}
with_reasons name script stated advice answers plain first last are whole (inr same) =
    record { stated = stated; is = no_reasons name script stated answers; whole = same ∙ whole }

-- what is stated before is an explanation, of a script that has no reasons
pub of_stated : (files : Files) (t : FileTask) (name bytes stated : List ℕ)
    → IsStated files t name bytes stated → (answers : List Answer) → IsExplanation files t name bytes answers stated
of_stated files (task.Apply database manner) name bytes stated is answers =
    (stated, is, no_reasons name bytes stated answers)
of_stated files t name bytes stated is answers = is
