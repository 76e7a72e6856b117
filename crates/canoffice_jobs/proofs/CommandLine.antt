-- What clap's matches and errors say of the job and of the fault.
use Rattle.canoffice_jobs.proofs.Common.{◌≡◌, ◌∷◌, map, ◌⊎◌, ◌&&◌, ◌||◌, inl, inr, ap, Bool, List, [], Option, Some}
use Rattle.canoffice_jobs.proofs.Common.{None, codes, option_map, refl, subst, true, false, true≢false, sym, ◌∙◌, find}
use Rattle.canoffice_jobs.proofs.Common.{Bor, list_any, option_map_or, bytes_eq, bytes_eq-Decides, ArgMatches, App}
use Rattle.canoffice_jobs.proofs.Common.{all_of, first_value, first_of, rows_of, both}
use Rattle.std.specs.Prelude.{Box}
use Rattle.std.specs.Option.{IsSome}
use Rattle.std.specs.Box.{box_value}
use Rattle.clap.specs.Simple.{subcommand_rows}
use Rattle.clap.specs.declared.parser.matches.ArgMatches.TheViews.{out-ArgMatches, out-SubCommand}
use Rattle.clap.specs.declared.parser.matches.SubCommand.{SubCommand}
use Rattle.clap.specs.Words.{Rule, Shape, subcommand_name_of, subcommand_rows_of, IsAmong, Row, Text, matched_of}
use Rattle.clap.specs.Words.{raw_values, fault_of, is_simple_and_free}
use Rattle.clap.specs.declared.error.kind.ErrorKind.{ErrorKind}
use Rattle.clap.specs.declared.error.kind.ErrorKind.TheVariants.{OutOfMemory, ValueValidation}
use Rattle.canoffice_jobs.specs.CommandLine.{HasRequired, HasSome, HasValueFault, IsEnteredAs, IsFaultOfKind}
use Rattle.canoffice_jobs.specs.CommandLine.{IsJobFault, IsWhole, are_absent, are_files, is_set, line_faults}
use Rattle.canoffice_jobs.specs.Subcommands.{canoffice_app}
use Rattle.canoffice_jobs.specs.declared.job.JobFault.{JobFault}
use Rattle.canoffice_jobs.specs.declared.job.JobFault.TheVariants.{Help, Usage, Memory}
use Rattle.canoffice_jobs.specs.declared.job.ValueFault.{ValueFault}
use Rattle.canoffice_jobs.specs.declared.job.ValueFault.TheVariants as value
use Rattle.clap.specs.declared.parser.matches.Found.{Found}
use Rattle.clap.proofs.WalkLemmas.{first_value-rows, raw_values-rows}

-- the value that a getter gives is the one that is in the rows
pub value_in_rows : (f : Found) (id text : Text) → first_value f id ≡ Some text → first_of id (rows_of f) ≡ Some text
value_in_rows f id text e = sym (first_value-rows f id) ∙ e

-- and of an argument that may be absent, there is one in the rows where the getter gives one
pub optional_in_rows : (f : Found) (id : Text) (r : Option Text) → r ≡ first_value f id → first_of id (rows_of f) ≡ r
optional_in_rows f id r e = sym (first_value-rows f id) ∙ sym e

pub files_in_rows : (f : Found) (a b c : Option Text) → a ≡ first_value f (codes "db")
    → b ≡ first_value f (codes "port") → c ≡ first_value f (codes "N") → are_absent a b c ≡ are_files (rows_of f)
files_in_rows f a b c db port number =
    rw (
      optional_in_rows f (codes "db") a db,
      optional_in_rows f (codes "port") b port,
      optional_in_rows f (codes "N") c number,
    )
    refl

-- a flag is set where the value that a getter gives is `true`
abbrev means_set : Option Text → Bool
means_set value = option_map_or (λ v. bytes_eq v (codes "true")) value false

pub flag_in_rows : (f : Found) (id : Text) (r : Option (Bor Text)) → option_map (λ s. s.now) r ≡ first_value f id
    → means_set (option_map (λ s. s.now) r) ≡ is_set (rows_of f) id
flag_in_rows f id r e = ap means_set (e ∙ first_value-rows f id)

-- the values that a getter gives are those that are in the rows
pub values_in_rows : (f : Found) (id : Text) (vs : List Text) → option_map raw_values (matched_of f id) ≡ Some vs
    → all_of id (rows_of f) ≡ Some vs
values_in_rows f id vs e = sym (raw_values-rows f id) ∙ e

module _ {Z : Type 0} where
  pair_of_parts : (sub : Option (Box SubCommand Z)) (name : Text) (rows : List Row)
      → Some name ≡ option_map (λ b. (out-SubCommand (box_value b)).name.now) sub
      → Some rows ≡ option_map (λ p. p.1) (subcommand_rows sub) → subcommand_rows sub ≡ Some (name, rows)
  pair_of_parts None name rows a b = cc
  pair_of_parts (Some sub) name rows a b = cc

-- the subcommand that a parse entered has this name and these rows
pub found_pair : (m : ArgMatches) (name : Text) (rows : List Row) → Some name ≡ subcommand_name_of m
    → Some rows ≡ option_map (λ p. p.1) (subcommand_rows_of m)
    → subcommand_rows_of m ≡ Some (name, rows)
found_pair m name rows a b = pair_of_parts (out-ArgMatches m).subcommand name rows a b

-- a fault of the kind of clap's error is one that the words have
pub line_fault_of : (words : List Text) (kind : ErrorKind) (fault : JobFault) → (kind ≡ OutOfMemory)
    ⊎ IsAmong kind (line_faults words) → IsFaultOfKind kind fault → IsJobFault words fault
line_fault_of words kind (Help text) (inl memory) (inl help) = cc
line_fault_of words kind (Help text) (inl memory) (inr version) = cc
line_fault_of words kind (Help text) (inr among) (inl help) =
    inl (subst (λ k. IsAmong k (line_faults words)) help among)
line_fault_of words kind (Help text) (inr among) (inr version) =
    inr (subst (λ k. IsAmong k (line_faults words)) version among)
line_fault_of words kind (Usage text) (inl memory) is = absurd (is.2 memory)
line_fault_of words kind (Usage text) (inr among) is = inl (kind, is.0, is.1, among)
line_fault_of words kind Memory has is = tt

-- a fault of the values of the subcommand that was entered is one that the words have
pub value_fault_of : (words : List Text) (found : ValueFault) (fault : JobFault) → HasValueFault words found
    → (found ≡ value.Memory → fault ≡ Memory) → IsFaultOfKind ValueValidation fault → IsJobFault words fault
value_fault_of words found (Help text) has memory (inl help) = cc
value_fault_of words found (Help text) has memory (inr version) = cc
value_fault_of words found (Usage text) has memory is =
    inr (found, (λ same. let bad : Usage text ≡ Memory = memory same in cc), has)
value_fault_of words found Memory has memory is = tt

is_simple_line : is_simple_and_free canoffice_app ≡ true
is_simple_line = refl

-- clap says the kind of its error for each simple command line, and this one is simple
pub line_fault_by : (app : App) (words : List Text) (kind : ErrorKind) (fault : JobFault) → app ≡ canoffice_app
    → (is_simple_and_free app ≡ true → (kind ≡ OutOfMemory) ⊎ IsAmong kind (fault_of app words))
    → IsFaultOfKind kind fault → IsJobFault words fault
line_fault_by app words kind fault same kinds is =
    let known = subst (λ a. is_simple_and_free a ≡ true → (kind ≡ OutOfMemory) ⊎ IsAmong kind (fault_of a words)) same
    kinds in
    line_fault_of words kind fault (known is_simple_line) is

-- ---- what is there where clap finds no fault

-- whether the program's subcommand of this name requires the argument
abbrev pub requires : Text → Text → Bool
requires known id = option_map_or (λ (s : Shape). list_any (λ r. bytes_eq r.id id && r.required) s.rules)
    (find (λ s. bytes_eq known s.name) canoffice_app.subs) false

required_among : (rules : List Rule) (rows : List Row) (id : Text) → HasRequired rules rows
    → list_any (λ r. bytes_eq r.id id && r.required) rules ≡ true → HasSome rows id
required_among [] rows id has e = absurd (true≢false (sym e))
required_among (r ∷ rules) rows id has e =
    by_rule (bytes_eq r.id id && r.required) refl e (required_among rules rows id has.1)
  where
    later : Bool
    later = list_any (λ x. bytes_eq x.id id && x.required) rules

    by_rule : (b : Bool) → (bytes_eq r.id id && r.required) ≡ b → (b || later) ≡ true
        → (later ≡ true → HasSome rows id) → HasSome rows id
    by_rule true is e below =
        let parts = both (bytes_eq r.id id) r.required is in
        subst (HasSome rows) ((bytes_eq-Decides r.id id).0 parts.0) (has.0 parts.1)
    by_rule false is e below = below e

required_of : (o : Option Shape) (rows : List Row) (id : Text) → IsWhole o rows
    → option_map_or (λ (s : Shape). list_any (λ r. bytes_eq r.id id && r.required) s.rules) o false ≡ true
    → HasSome rows id
required_of None rows id whole e = absurd whole
required_of (Some s) rows id whole e = required_among s.rules rows id whole e

-- a name that is entered is known by its letters
pub entered_by : (name known : Text) (rows : List Row) → bytes_eq name known ≡ true → IsEnteredAs name rows
    → IsEnteredAs known rows
entered_by name known rows same = subst (λ n. IsEnteredAs n rows) ((bytes_eq-Decides name known).0 same)

-- it has the arguments that it requires
entered_has : (known : Text) (rows : List Row) (id : Text) → IsEnteredAs known rows → requires known id ≡ true
    → HasSome rows id
entered_has known rows id = required_of (find (λ s. bytes_eq known s.name) canoffice_app.subs) rows id

-- so the getter of such an argument gives its value
pub required_is_given : (f : Found) (known id : Text) (r : Option (Bor Text)) → IsEnteredAs known (rows_of f)
    → option_map (λ s. s.now) r ≡ first_value f id → requires known id ≡ true → IsSome r
required_is_given f known id (Some text) whole is needs = refl
required_is_given f known id None whole is needs =
    let h = entered_has known (rows_of f) id whole needs in
    let bad : None ≡ Some h.0 = is ∙ first_value-rows f id ∙ h.2 in cc

-- and all its values
pub required_are_given : (f : Found) (known id : Text) (r : Option (Bor (List (Bor Text)))) → IsEnteredAs known (rows_of f)
    → option_map (λ s. map (λ v. v.now) s.now) r ≡ option_map raw_values (matched_of f id)
    → requires known id ≡ true → IsSome r
required_are_given f known id (Some texts) whole is needs = refl
required_are_given f known id None whole is needs =
    let h = entered_has known (rows_of f) id whole needs in
    let bad : None ≡ Some (h.0 ∷ h.1) = is ∙ raw_values-rows f id ∙ h.3 in cc
