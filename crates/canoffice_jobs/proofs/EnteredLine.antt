-- Where clap finds no fault in the words, one of the program's subcommands was entered, with all the arguments that it
-- needs.
use Rattle.canoffice_jobs.proofs.Common.{◌≡◌, ◌∙◌, ◌&&◌, ◌||◌, Bool, true, false, not, refl, sym, ap, subst, codes}
use Rattle.canoffice_jobs.proofs.Common.{List, [], ◌∷◌, Option, Some, None, true≢false, find, list_all, option_map_or}
use Rattle.canoffice_jobs.proofs.Common.{bytes_eq, bytes_eq-Decides, fault_of, ArgMatches, Rule, Text, answers_to}
use Rattle.canoffice_jobs.proofs.Common.{is_empty, rows_after, Shape, built, label_of, subcommand_of, is_nil, both}
use Rattle.clap.specs.Faults.{is_simple_and_free}
use Rattle.clap.specs.Simple.{App, HasMatchesOf, subcommand_rows_of}
use Rattle.canoffice_jobs.specs.CommandLine.{HasRequired, HasSome, HasValueFault, IsEntered, IsJob, IsJobIn}
use Rattle.canoffice_jobs.specs.CommandLine.{IsValueFaultIn, IsWhole, line_faults}
use Rattle.canoffice_jobs.specs.Subcommands.{canoffice_app}
use Rattle.canoffice_jobs.specs.declared.job.Job.{Job}
use Rattle.canoffice_jobs.specs.declared.job.ValueFault.{ValueFault}
use Rattle.canoffice_jobs.proofs.NoFault.{Among, all_among}
use Rattle.canoffice_jobs.proofs.FilledWalk.{IsNoHelp}
use Rattle.canoffice_jobs.proofs.GivenValues.{Passes, leaf_required, needs_value}
use Rattle.canoffice_jobs.proofs.EnteredSubcommand.{Entered, subcommand_entered}

-- an argument that a subcommand needs has a value
needed : (s : Shape) (rest : List Text) (id : Text) → Passes s rest → needs_value s.rules id ≡ true
    → HasSome (rows_after s.rules [] rest) id
needed s rest id passes needs =
    let filled = leaf_required s rest id passes needs in
    (filled.value, filled.more, filled.first, filled.all)

help_called : (called : Text) → answers_to called (codes "help", []) ≡ true → bytes_eq called (codes "help") ≡ true
help_called called e = go (bytes_eq (codes "help") called) refl e
  where
    go : (b : Bool) → bytes_eq (codes "help") called ≡ b → (b || false) ≡ true → bytes_eq called (codes "help") ≡ true
    go true t e = (bytes_eq-Decides called (codes "help")).1 (sym ((bytes_eq-Decides (codes "help") called).0 t))
    go false t e = absurd (true≢false (sym e))

holds : (r n : Bool) → (not r || n) ≡ true → r ≡ true → n ≡ true
holds true n e required = e
holds false n e required = absurd (true≢false (sym required))

-- each required argument of these has a value where clap reads them as `s` says
covers : (s : Shape) (rest : List Text) → Passes s rest → (rules : List Rule)
    → list_all (λ r. not r.required || needs_value s.rules r.id) rules ≡ true
    → HasRequired rules (rows_after s.rules [] rest)
covers s rest passes [] e = tt
covers s rest passes (r ∷ rules) e = (
  (λ required. needed s rest r.id passes (holds r.required _ (both _ _ e).0 required)),
  covers s rest passes rules (both _ _ e).1,
)

-- ---- each subcommand that clap knows is the one that answers with help, or one of the program's

abbrev is_help : Shape → Bool
is_help s = bytes_eq s.name (codes "help") && is_empty s.aliases

abbrev own : Shape → Option Shape
own s = find (λ u. bytes_eq s.name u.name) canoffice_app.subs

abbrev is_own : Shape → Option Shape → Bool
is_own s = λ o. option_map_or (λ (u : Shape). list_all (λ r. not r.required || needs_value s.rules r.id) u.rules) o false

all_known : list_all (λ s. is_help s || is_own s (own s)) (built canoffice_app).subs ≡ true
all_known = refl

-- no word calls the one that answers with help
no_help_called : (s : Shape) (called : Text) → is_help s ≡ true → answers_to called (label_of s) ≡ true
    → bytes_eq called (codes "help") ≡ true
no_help_called s called e answers =
    let parts = both (bytes_eq s.name (codes "help")) (is_empty s.aliases) e in
    let label : label_of s ≡ (codes "help", []) =
    ap (λ name. (name, s.aliases)) ((bytes_eq-Decides s.name (codes "help")).0 parts.0)
    ∙ ap (λ aliases. (codes "help", aliases)) (is_nil s.aliases parts.1) in
    help_called called (subst (λ (l : Text × List Text). answers_to called l ≡ true) label answers)

and_true : (b : Bool) → (b && true) ≡ false → b ≡ false
and_true true e = e
and_true false e = refl

own_entered : (s : Shape) (called : Text) (rest : List Text) → Among s (built canoffice_app).subs
    → answers_to called (label_of s) ≡ true → IsNoHelp (built canoffice_app).top called
    → Passes s rest → IsEntered (Some (s.name, rows_after s.rules [] rest))
own_entered s called rest among answers no_help passes =
    by_help (is_help s) refl
    (all_among (λ x. is_help x || is_own x (own x)) (built canoffice_app).subs s all_known among)
  where
    by_own : (o : Option Shape) → is_own s o ≡ true → IsWhole o (rows_after s.rules [] rest)
    by_own None e = absurd (true≢false (sym e))
    by_own (Some u) e = covers s rest passes u.rules e

    by_help : (b : Bool) → is_help s ≡ b → (b || is_own s (own s)) ≡ true
        → IsEntered (Some (s.name, rows_after s.rules [] rest))
    by_help true e known = absurd (true≢false (sym (no_help_called s called e answers) ∙ and_true _ no_help))
    by_help false e known = by_own (own s) known

pub line_is_entered : (words : List Text) → line_faults words ≡ [] → IsEntered (subcommand_of canoffice_app words)
line_is_entered words e =
    let entered : Entered canoffice_app words = subcommand_entered canoffice_app words e refl in
    subst IsEntered (sym entered.rows)
    (own_entered entered.shape entered.called entered.rest entered.own entered.answers entered.no_help
    entered.passes)

-- clap's matches of words in which it finds no fault
pub record IsLineRead (words : List Text) (m : ArgMatches) : Type 0 where
  pub faultless : line_faults words ≡ []
  pub same : subcommand_rows_of m ≡ subcommand_of canoffice_app words
  pub entered : IsEntered (subcommand_rows_of m)

pub line_is_read : (app : App) (words : List Text) (m : ArgMatches) → app ≡ canoffice_app
    → (is_simple_and_free app ≡ true → fault_of app words ≡ []) → HasMatchesOf app words m → IsLineRead words m
line_is_read app words m is passes matches =
    let none : line_faults words ≡ [] = subst (λ a. is_simple_and_free a ≡ true → fault_of a words ≡ []) is passes
    refl in
    let read : HasMatchesOf canoffice_app words m = subst (λ a. HasMatchesOf a words m) is matches in
    let same : subcommand_rows_of m ≡ subcommand_of canoffice_app words = (read refl).1 in
    record { faultless = none; same = same; entered = subst IsEntered (sym same) (line_is_entered words none) }

-- the job that is in such matches is the job of the words
pub job_of_read : (words : List Text) (m : ArgMatches) (job : Job) → IsLineRead words m
    → IsJobIn (subcommand_rows_of m) job → IsJob words job
job_of_read words m job read is = (read.faultless, subst (λ found. IsJobIn found job) read.same is)

-- a fault of the values in such matches is one that the words have
pub value_fault_read : (words : List Text) (m : ArgMatches) (fault : ValueFault) → IsLineRead words m
    → IsValueFaultIn (subcommand_rows_of m) fault → HasValueFault words fault
value_fault_read words m fault read is =
    (read.faultless, subst (λ found. IsValueFaultIn found fault) read.same is)
