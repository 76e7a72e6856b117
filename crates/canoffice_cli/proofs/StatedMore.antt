-- The outcome of a job, with what is printed after it or without.
use Rattle.canoffice_cli.proofs.Common.{◌≡◌, ◌⊎◌, ℕ, Bool, List, map, inl, inr, refl, subst, sym, Result, Ok, Err, IfOk}
use Rattle.canoffice_cli.proofs.Common.{AllocError, ReadsAs, Sheet, start_and_keyword, ReadsAsNothing, Passed, Answer}
use Rattle.dbc_advice.specs.Explained.{IsExplained}
use Rattle.canoffice_cli.specs.Jobs.Explaining.{
  IsExplainedBy,
  IsStatedOfFormat,
  IsStatedOfReading,
  IsWithAdvice,
  MayBeStatedBy,
  MayState,
}
use Rattle.canoffice_cli.specs.Outcome.{Outcome, and_errors, outcome_of}
use Rattle.canoffice_cli.specs.declared.jobs.explaining.Advice.{Advice}
use Rattle.canoffice_cli.specs.declared.jobs.explaining.Advice.TheVariants.{Everything, Nothing, WrongLine}
use Rattle.canoffice_cli.specs.declared.report.Report.{Report}

-- with something after the errors
module _ (IsOf : Outcome → List Answer → Type 0) (IsStated : List Answer → List ℕ → Type 0) where
  pub with_more : (r : Result Report AllocError) (report : Report) (stated : List ℕ)
      → (answers : List Answer) × IsOf (outcome_of report) answers
      → ((answers : List Answer) → IsStated answers stated)
      → IfOk r (λ more. outcome_of more ≡ and_errors (outcome_of report) stated)
      → IfOk r (λ more. IsExplainedBy IsOf IsStated (outcome_of more))
  with_more (Err lost) report stated is is_stated whole = tt
  with_more (Ok more) report stated is is_stated whole =
      (outcome_of report, is.0, is.1, record { stated = stated; is = is_stated is.0; whole = whole })

  pub more_by : (IsMore : List Answer → List ℕ → Type 0) (r : Result Report AllocError)
      → ((answers : List Answer) (stated : List ℕ) → IsStated answers stated → IsMore answers stated)
      → IfOk r (λ report. IsExplainedBy IsOf IsStated (outcome_of report))
      → IfOk r (λ report. IsExplainedBy IsOf IsMore (outcome_of report))
  more_by IsMore (Err lost) more is = tt
  more_by IsMore (Ok report) more is = (
    is.0,
    is.1,
    is.2,
    record { stated = is.3.stated; is = more is.1 is.3.stated is.3.is; whole = is.3.whole },
  )

-- a text that is added to errors, or isn't
pub may_state : (IsStated : List ℕ → Type 0) (plain o : Outcome) (stated : List ℕ) → IsStated stated
    → (o ≡ and_errors plain stated) ⊎ (o ≡ plain) → MayState IsStated plain o
may_state IsStated plain o stated is (inl more) = inr (record { stated = stated; is = is; whole = more })
may_state IsStated plain o stated is (inr same) = inl same

-- by how much is stated
module _ (advice : Advice) (IsOf : Outcome → List Answer → Type 0) (IsStated : List ℕ → Type 0)
    (IsWhole : List Answer → List ℕ → Type 0)
  where
    pub everything : (r : Result Report AllocError) → advice ≡ Everything
        → IfOk r (λ report. IsExplainedBy IsOf IsWhole (outcome_of report))
        → IfOk r (λ report. (plain : Outcome) × (answers : List Answer) × IsOf plain answers
        × IsWithAdvice advice IsStated (IsWhole answers) plain (outcome_of report))
    everything (Err lost) requested is = tt
    everything (Ok report) requested is = (
      is.0,
      is.1,
      is.2,
      subst (λ a. IsWithAdvice a IsStated (IsWhole is.1) is.0 (outcome_of report)) (sym requested) is.3,
    )

    pub wrong_line : (r : Result Report AllocError) → advice ≡ WrongLine
        → IfOk r (λ report. MayBeStatedBy IsOf IsStated (outcome_of report))
        → IfOk r (λ report. (plain : Outcome) × (answers : List Answer) × IsOf plain answers
        × IsWithAdvice advice IsStated (IsWhole answers) plain (outcome_of report))
    wrong_line (Err lost) requested is = tt
    wrong_line (Ok report) requested is = (
      is.0,
      is.1,
      is.2,
      subst (λ a. IsWithAdvice a IsStated (IsWhole is.1) is.0 (outcome_of report)) (sym requested) is.3,
    )

    pub nothing : (r : Result Report AllocError) → advice ≡ Nothing
        → IfOk r (λ report. (answers : List Answer) × IsOf (outcome_of report) answers)
        → IfOk r (λ report. (plain : Outcome) × (answers : List Answer) × IsOf plain answers
        × IsWithAdvice advice IsStated (IsWhole answers) plain (outcome_of report))
    nothing (Err lost) requested is = tt
    nothing (Ok report) requested is = (
      outcome_of report,
      is.0,
      is.1,
      subst (λ a. IsWithAdvice a IsStated (IsWhole is.0) (outcome_of report) (outcome_of report))
          (sym requested) refl,
    )

-- what is stated of a text whose canonical text is printed: of one that reads, and of one that reads as no sheet
module _ {A E : Type 0} (items : A → List ℕ) (keep : Bool) (name bytes : List ℕ) where
  pub left_of_sheet : (r : Result A E) (s : Sheet) (passed : List Passed)
      → ReadsAs bytes s (map start_and_keyword passed)
      → IfOk r (λ stated. IsStatedOfReading keep name bytes s passed (items stated))
      → IfOk r (λ stated. IsStatedOfFormat keep name bytes (items stated))
  left_of_sheet (Ok stated) s passed reads left = inr (s, passed, reads, left)
  left_of_sheet (Err lost) s passed reads left = tt

  pub faults_of_nothing : (r : Result A E) → ReadsAsNothing bytes
      → IfOk r (λ stated. IsExplained name bytes (items stated))
      → IfOk r (λ stated. IsStatedOfFormat keep name bytes (items stated))
  faults_of_nothing (Ok stated) nothing explained = inl (nothing, explained)
  faults_of_nothing (Err lost) nothing explained = tt
