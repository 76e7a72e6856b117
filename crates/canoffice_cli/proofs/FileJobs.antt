-- What a job results in that reads a file.
use Rattle.canoffice_cli.proofs.Common.{◌≡◌, ℕ, List, [], inl, inr, subst, sym, ◌∙◌, Result, Ok, Err, IfOk, AllocError}
use Rattle.canoffice_cli.proofs.Common.{Answer}
use Rattle.office_script.specs.Files.{FailsWith, Gives, Holding, unknown, absent, holding}
use Rattle.canoffice_cli.specs.Jobs.Applied.{AreTold}
use Rattle.canoffice_cli.specs.Databases.{AreKept, Databases}
use Rattle.canoffice_cli.specs.Outcome.{Outcome, outcome_of, unreadable}
use Rattle.canoffice_cli.specs.Jobs.{IsOfFile}
use Rattle.canoffice_cli.specs.declared.reasons.Reasons.{Reasons}
use Rattle.canoffice_cli.proofs.Opened.{kept_same}
use Rattle.office_script.specs.declared.files.PathFault.{PathFault}
use Rattle.office_script.specs.declared.files.PathFault.TheVariants.{Unreadable, Memory}
use Rattle.canoffice_cli.specs.declared.report.Report.{Report}

pub of_bytes : (NothingDone : Type 0) (IsOf : List ℕ → Outcome → Type 0) (path : List ℕ) (held : Holding)
    (bytes : List ℕ) (r : Result Report AllocError) → Gives held bytes
    → IfOk r (λ report. IsOf bytes (outcome_of report))
    → IfOk r (λ report. IsOfFile NothingDone IsOf path held (outcome_of report))
of_bytes NothingDone IsOf path held bytes (Err lost) gives is = tt
of_bytes NothingDone IsOf path unknown bytes (Ok report) gives is = inr (bytes, is)
of_bytes NothingDone IsOf path absent bytes (Ok report) gives is = absurd gives
of_bytes NothingDone IsOf path (holding known) bytes (Ok report) gives is =
    subst (λ (b : List ℕ). IsOf b (outcome_of report)) gives is

pub unread : (NothingDone : Type 0) (IsOf : List ℕ → Outcome → Type 0) (path : List ℕ) (held : Holding)
    (fault : PathFault) (r : Result Report AllocError) → NothingDone → FailsWith held fault
    → IfOk r (λ report. (fault ≡ Unreadable) × (outcome_of report ≡ unreadable path))
    → IfOk r (λ report. IsOfFile NothingDone IsOf path held (outcome_of report))
unread NothingDone IsOf path held fault (Err lost) nothing fails is = tt
unread NothingDone IsOf path unknown fault (Ok report) nothing fails is = inl (is.1, nothing)
unread NothingDone IsOf path absent fault (Ok report) nothing fails is = (is.1, nothing)
unread NothingDone IsOf path (holding known) fault (Ok report) nothing fails is =
    absurd (let e : Memory ≡ Unreadable = sym fails ∙ is.0 in cc)

-- a task that has no answers, and opens no database
pub without_answers : (known : Databases) (IsOf : Outcome → Type 0) (r : Result Report AllocError)
    → IfOk r (λ report. IsOf (outcome_of report))
    → IfOk r (λ report. (answers : List Answer) × (IsOf (outcome_of report) × AreKept known known))
without_answers known IsOf (Err lost) is = tt
without_answers known IsOf (Ok report) is = ([], (is, kept_same known))

-- a script, of which no reasons are printed
pub with_answers : (IsOf : Outcome → List Answer → Type 0) (script : List ℕ) (old new : Reasons)
    (r : Result Report AllocError)
    → IfOk r (λ report. AreTold (IsOf (outcome_of report)) script old new)
    → IfOk r (λ report. (answers : List Answer) × IsOf (outcome_of report) answers)
with_answers IsOf script old new (Err lost) is = tt
with_answers IsOf script old new (Ok report) is = (is.0, is.1)
