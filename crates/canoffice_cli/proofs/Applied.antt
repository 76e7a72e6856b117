-- What a script results in.
use Rattle.canoffice_cli.proofs.Common.{◌≡◌, ◌+◌, ◌∙◌, inl, inr, Bool, true, false, List, [], ◌∷◌, ◌++◌, length, ℕ, suc}
use Rattle.canoffice_cli.proofs.Common.{zero-le, Option, Some, None, Result, Ok, Err, refl, sym, ap, subst, arith, IfOk}
use Rattle.canoffice_cli.proofs.Common.{if◌then◌else◌, ⊤, option_and_then, option_map, none-some, AllZip-long}
use Rattle.canoffice_cli.proofs.Common.{AllocError, Answer, Arrival, Answered, Files, lines_of, says_nothing}
use Rattle.canoffice_cli.proofs.Common.{request_of, AreArrivalsOf, IsScriptFault, requests_of_lines, Dash, LineRequest}
use Rattle.canoffice_cli.proofs.Common.{ScriptFault, BadLine, Unreadable, Lost}
use Rattle.office_script.specs.declared.keys.Dash.TheVariants.{LineNumber}
use Rattle.office_script.specs.declared.script.ScriptFault.TheVariants.{Memory}
use Rattle.store.specs.declared.lost.Lost.TheVariants as why
use Rattle.canoffice_cli.specs.Answered.{InMemory, IsFarEnough, answered_with, answers_outcome}
use Rattle.canoffice_cli.specs.Jobs.Applied.{AreTold, IsApplyOutcome, IsScriptOutcome, Reports}
use Rattle.canoffice_cli.specs.Databases.{Databases}
use Rattle.canoffice_cli.specs.Numbers.{HaveLines, request_numbers}
use Rattle.canoffice_cli.specs.Outcome.{Outcome, outcome_of}
use Rattle.canoffice_cli.specs.Reasons.{TellsOf}
use Rattle.canoffice_cli.proofs.Opened.{kept_same}
use Rattle.canoffice_cli.proofs.Reported.{reported_none}
use Rattle.canoffice_cli.proofs.Stopping.{far_at_loss}
use Rattle.canoffice_cli.proofs.Told.{tells_nothing}
use Rattle.canoffice_cli.specs.declared.reasons.Reasons.{Reasons}
use Rattle.canoffice_jobs.specs.declared.manner.Manner.{Manner}
use Rattle.canoffice_cli.specs.declared.report.Report.{Report}

-- ---- each arrival has its line

abbrev Requests : Type 0
Requests = List LineRequest

some_same : (x y : Requests) → ◌≡◌ {A = Option Requests} (Some x) (Some y) → x ≡ y
some_same x y e = cc

-- the line, which requests nothing or one thing, and the later ones
at_line : (says : Bool) (own : Option LineRequest) (more : Option Requests) (number : ℕ) (later : List ℕ)
    (requests : Requests)
    → ((rest : Requests) → more ≡ Some rest → length later ≡ length rest)
    → option_and_then (λ (here : Requests). option_map (λ (rest : Requests). here ++ rest) more)
    (if says then Some [] else option_map (λ r. r ∷ []) own) ≡ Some requests
    → length (if says then later else number ∷ later) ≡ length requests
at_line true own None number later requests each e = absurd (none-some requests e)
at_line true own (Some rest) number later requests each e =
    each rest refl ∙ ap (λ (l : Requests). length l) (some_same rest requests e)
at_line false None more number later requests each e = absurd (none-some requests e)
at_line false (Some r) None number later requests each e = absurd (none-some requests e)
at_line false (Some r) (Some rest) number later requests each e =
    ap suc (each rest refl) ∙ ap (λ (l : Requests). length l) (some_same (r ∷ rest) requests e)

one_each : (dash : Dash) (lines : List (List ℕ)) (number : ℕ) (requests : Requests)
    → requests_of_lines dash number lines ≡ Some requests
    → length (request_numbers number lines) ≡ length requests
one_each dash [] number requests e = ap (λ (l : Requests). length l) (some_same [] requests e)
one_each dash (line ∷ lines) number requests e =
    at_line (says_nothing line) (request_of dash number line) (requests_of_lines dash (number + 1) lines) number
    (request_numbers (number + 1) lines) requests (λ rest more. one_each dash lines (number + 1) rest more) e

pub have_lines : (files : Files) (dash : Dash) (script : List ℕ) (arrivals : List Arrival)
    → AreArrivalsOf files dash (lines_of script) arrivals → HaveLines script arrivals
have_lines files dash script arrivals made =
    let long : length arrivals ≡ length made.requests = AllZip-long _ made.requests arrivals made.arrived in
    let each = one_each dash (lines_of script) 1 made.requests made.requested in
    omega (arith, long, each)

-- ---- the outcome

module _ (files : Files) (dash : Dash) (manner : Manner) (GoesOn : List Answered → Option Lost → Type 0)
    (NothingDone : Type 0) (script : List ℕ)
  where
    -- its arrivals were answered
    pub answered : (arrivals : List Arrival) (answers : List Answer) (lost : Option Lost) (o : Outcome)
        → AreArrivalsOf files dash (lines_of script) arrivals
        → IsFarEnough manner.strict arrivals answers lost
        → GoesOn (answered_with arrivals answers) lost
        → o ≡ answers_outcome manner arrivals answers lost
        → IsScriptOutcome files dash manner GoesOn NothingDone script o answers
    answered arrivals answers lost o made far goes_on is =
        inl (arrivals, made, record { lost = lost; far = far; outcome = is; goes_on = goes_on })

    pub applied : (arrivals : List Arrival) (answers : List Answer) (lost : Option Lost) (r : Result Report AllocError)
        (old new : Reasons)
        → AreArrivalsOf files dash (lines_of script) arrivals
        → IsFarEnough manner.strict arrivals answers lost
        → GoesOn (answered_with arrivals answers) lost
        → (HaveLines script arrivals → TellsOf script answers old new)
        → IfOk r (λ report. outcome_of report ≡ answers_outcome manner arrivals answers lost)
        → IfOk r (λ report. AreTold (IsScriptOutcome files dash manner GoesOn NothingDone script (outcome_of report))
        script old new)
    applied arrivals answers lost (Err e) old new made far goes_on told is = tt
    applied arrivals answers lost (Ok report) old new made far goes_on told is = (
      answers,
      answered arrivals answers lost (outcome_of report) made far goes_on is,
      told (have_lines files dash script arrivals made),
    )

    -- memory ran out for the answers
    pub unanswered : (arrivals : List Arrival) → AreArrivalsOf files dash (lines_of script) arrivals
        → GoesOn [] (Some why.Memory)
        → IsScriptOutcome files dash manner GoesOn NothingDone script
        (answers_outcome manner arrivals [] (Some why.Memory)) []
    unanswered arrivals made goes_on = answered arrivals [] (Some why.Memory) _ made
        (far_at_loss manner.strict arrivals [] why.Memory zero-le (λ _. refl))
        (subst (λ t. GoesOn t (Some why.Memory)) (sym (reported_none arrivals)) goes_on) refl

    -- something is amiss at a line of it
    pub amiss : (fault : ScriptFault) (r : Result Report AllocError) (reasons : Reasons)
        → IsScriptFault files dash script fault → NothingDone
        → IfOk r (λ report. Reports fault (outcome_of report))
        → IfOk r (λ report. AreTold (IsScriptOutcome files dash manner GoesOn NothingDone script (outcome_of report))
        script reasons reasons)
    amiss fault (Err e) reasons is nothing reports = tt
    amiss (BadLine number) (Ok report) reasons is nothing reports =
        ([], inr (inl (number, is, reports), nothing, refl), tells_nothing _ reasons)
    amiss (Unreadable path) (Ok report) reasons is nothing reports =
        ([], inr (inr (path, is.0, is.1, reports), nothing, refl), tells_nothing _ reasons)
    amiss Memory (Ok report) reasons is nothing reports = absurd reports

-- in memory no database is changed
pub in_memory : (files : Files) (manner : Manner) (known : Databases) (script : List ℕ) (old new : Reasons)
    (r : Result Report AllocError)
    → IfOk r (λ report. AreTold (IsScriptOutcome files LineNumber manner InMemory ⊤ script (outcome_of report))
    script old new)
    → IfOk r (λ report. AreTold (IsApplyOutcome files None manner known known script (outcome_of report))
    script old new)
in_memory files manner known script old new (Err e) is = tt
in_memory files manner known script old new (Ok report) is = (is.0, (is.1, kept_same known), is.2)
