-- What the definitions of the command line say of words that are written out.
use Rattle.canoffice_jobs.proofs.Common.{◌≡◌, Bool, true, false, List, [], ◌∷◌, Option, Some, None, codes, option_map}
use Rattle.canoffice_jobs.proofs.Common.{refl, map, all_of, first_of, DisplayHelp, InvalidSubcommand, Kinds, TooManyValues}
use Rattle.std.proofs.Common.{◌++◌, ◌==◌, ℕ}
use Rattle.std.specs.Prelude.{if◌then◌else◌}
use Rattle.clap.specs.Words.{Row, Text, subcommand_of}
use Rattle.clap.specs.declared.error.kind.ErrorKind.TheVariants.{ArgumentConflict}
use Rattle.clap.specs.declared.error.kind.ErrorKind.TheVariants.{DisplayHelpOnMissingArgumentOrSubcommand}
use Rattle.clap.specs.declared.error.kind.ErrorKind.TheVariants.{DisplayVersion, InvalidValue, MissingRequiredArgument}
use Rattle.clap.specs.declared.error.kind.ErrorKind.TheVariants.{UnknownArgument}
use Rattle.clap.proofs.OnLiterals.{clap_on_literals}
use Rattle.canoffice_jobs.specs.CommandLine.{are_files, are_input, entered, is_set, line_faults, manner_in}
use Rattle.canoffice_jobs.specs.Subcommands.{canoffice_app}
use Rattle.canoffice_jobs.specs.Meant.{name_before_help, words_meant}
use Rattle.canoffice_jobs.specs.declared.manner.Manner.{Manner}

-- the program's name, and the words after it, between which there is a space
abbrev cut : Text → List ℕ → List Text
cut word [] = word ∷ []
cut word (b ∷ bs) = if b == 32 then word ∷ cut [] bs else cut (word ++ b ∷ []) bs

abbrev line : List ℕ → List Text
line words = codes "canoffice" ∷ cut [] words

-- the subcommand that a line enters, and its arguments
abbrev found_in : List ℕ → Option (Text × List Row)
found_in words = subcommand_of canoffice_app (line words)

-- ---- faults

no_word : line_faults (codes "canoffice" ∷ []) ≡ DisplayHelpOnMissingArgumentOrSubcommand ∷ []
unfolding clap_on_literals
no_word = refl

-- these lines have no fault
abbrev right_lines : List (List ℕ)
right_lines = codes "apply a.txt" ∷ codes "apply --db=office.db a.txt" ∷ codes "chart 8 A=0|1@1 B=1|1@1"
    ∷ codes "check -" ∷ codes "check --explain a.dbc" ∷ codes "check --lint= a.dbc" ∷ codes "compare a.dbc b.dbc"
    ∷ codes "export --db office.db truck 1" ∷ codes "export --keep old.dbc --j1939 --db office.db truck 1"
    ∷ codes "migrate --db office.db" ∷ codes "requests --db office.db brakes" ∷ codes "send --strict --port 8090 a.txt"
    ∷ codes "serve --db office.db --count 3" ∷ codes "serve --explain --db office.db"
    ∷ codes "show --db office.db truck blocks brakes" ∷ []

they_are_right : map (λ l. line_faults (line l)) right_lines ≡ map (λ l. []) right_lines
unfolding clap_on_literals
they_are_right = refl

-- clap leaves it to `IsPlace` that one of `--db` and `--port` is given
no_place : line_faults (line (codes "show")) ≡ []
unfolding clap_on_literals
no_place = refl

-- each of these lacks an argument
abbrev lacking_lines : List (List ℕ)
lacking_lines = codes "apply" ∷ codes "chart" ∷ codes "chart 8" ∷ codes "check --explain" ∷ codes "compare a.dbc"
    ∷ codes "export truck 1" ∷ codes "migrate" ∷ codes "requests --port 8089" ∷ codes "send --port 8090"
    ∷ codes "serve --port 8080" ∷ []

they_lack_one : map (λ l. line_faults (line l)) lacking_lines ≡ map (λ l. MissingRequiredArgument ∷ []) lacking_lines
unfolding clap_on_literals
they_lack_one = refl

-- A script is sent to a desk, and applied to a database. The version is the program's, and no subcommand has one.
abbrev other_lines : List (List ℕ × Kinds)
other_lines = (codes "--help", DisplayHelp ∷ []) ∷ (codes "apply --help", DisplayHelp ∷ [])
    ∷ (codes "--version", DisplayVersion ∷ []) ∷ (codes "check --version", UnknownArgument ∷ [])
    ∷ (codes "frob", UnknownArgument ∷ InvalidSubcommand ∷ []) ∷ (codes "apply a.txt b.txt", UnknownArgument ∷ [])
    ∷ (codes "apply a.txt --db", InvalidValue ∷ []) ∷ (codes "send --db=office.db a.txt", UnknownArgument ∷ [])
    ∷ (codes "show --db=office.db truck blocks brakes more", UnknownArgument ∷ [])
    ∷ (codes "table --explain a.dbc", UnknownArgument ∷ []) ∷ (codes "check --explain=yes a.dbc", TooManyValues ∷ [])
    ∷ (codes "check --explain --explain a.dbc", ArgumentConflict ∷ [])
    ∷ (codes "check --lint= --lint= a.dbc", ArgumentConflict ∷ []) ∷ []

their_faults : map (λ (r : List ℕ × Kinds). line_faults (line r.0)) other_lines
    ≡ map (λ (r : List ℕ × Kinds). r.1) other_lines
unfolding clap_on_literals
their_faults = refl

-- ---- values

-- the value of this argument of the subcommand that a line enters
abbrev value_in : List ℕ → Text → Option (Option Text)
value_in words id = option_map (λ found. first_of id found.1) (found_in words)

-- a line, an argument and its value; `-` is a value like any other word
abbrev values : List (List ℕ × Text × Option Text)
values = (codes "apply a.txt", codes "SCRIPT", Some (codes "a.txt")) ∷ (codes "apply a.txt", codes "db", None)
    ∷ (codes "apply --db=office.db a.txt", codes "db", Some (codes "office.db"))
    ∷ (codes "chart 8 A=0|1@1 B=1|1@1", codes "LENGTH", Some (codes "8"))
    ∷ (codes "check -", codes "FILE", Some (codes "-")) ∷ (codes "check --explain a.dbc", codes "lint", None)
    ∷ (codes "check --lint= a.dbc", codes "lint", Some [])
    ∷ (codes "check --lint=IdleNode,LongName a.dbc", codes "lint", Some (codes "IdleNode,LongName"))
    ∷ (codes "check --lint= a.dbc", codes "FILE", Some (codes "a.dbc"))
    ∷ (codes "compare a.dbc b.dbc", codes "A", Some (codes "a.dbc"))
    ∷ (codes "compare a.dbc b.dbc", codes "B", Some (codes "b.dbc")) ∷ (codes "compare a.dbc b.dbc", codes "N", None)
    ∷ (codes "compare --port 8089 truck 2 0", codes "port", Some (codes "8089"))
    ∷ (codes "compare --port 8089 truck 2 0", codes "N", Some (codes "0"))
    ∷ (codes "export --keep old.dbc --db office.db truck 1", codes "keep", Some (codes "old.dbc")) ∷ []

abbrev more_values : List (List ℕ × Text × Option Text)
more_values = (codes "send --strict --port 8090 a.txt", codes "port", Some (codes "8090"))
    ∷ (codes "send --strict --port 8090 a.txt", codes "tries", None)
    ∷ (codes "send - --tries=9", codes "tries", Some (codes "9"))
    ∷ (codes "send - --tries=9", codes "SCRIPT", Some (codes "-"))
    ∷ (codes "show --db office.db truck blocks brakes", codes "db", Some (codes "office.db"))
    ∷ (codes "show --db office.db truck blocks brakes", codes "port", None)
    ∷ (codes "show --db office.db truck blocks brakes", codes "WHAT", Some (codes "blocks"))
    ∷ (codes "show --db office.db truck blocks brakes", codes "NAME", Some (codes "brakes"))
    ∷ (codes "show truck --port=8089", codes "port", Some (codes "8089"))
    ∷ (codes "show truck --port=8089", codes "NET", Some (codes "truck"))
    ∷ (codes "show truck --port=8089", codes "WHAT", None) ∷ []

abbrev AreIn : List (List ℕ × Text × Option Text) → Type 0
AreIn rows = map (λ (r : List ℕ × Text × Option Text). value_in r.0 r.1) rows
    ≡ map (λ (r : List ℕ × Text × Option Text). Some r.2) rows

they_are_in : AreIn values
unfolding clap_on_literals
they_are_in = refl

more_are_in : AreIn more_values
unfolding clap_on_literals
more_are_in = refl

its_signals : option_map (λ found. all_of (codes "SIGNAL") found.1) (found_in (codes "chart 8 A=0|1@1 B=1|1@1"))
    ≡ Some (Some (codes "A=0|1@1" ∷ codes "B=1|1@1" ∷ []))
unfolding clap_on_literals
its_signals = refl

its_name : option_map (λ found. found.0) (found_in (codes "apply a.txt")) ≡ Some (codes "apply")
unfolding clap_on_literals
its_name = refl

-- ---- flags, which may come after the file

-- a line, a flag, and whether it is set
abbrev flags : List (List ℕ × Text × Bool)
flags = (codes "apply --explain a.txt", codes "explain", true) ∷ (codes "check -", codes "explain", false)
    ∷ (codes "check --explain a.dbc", codes "explain", true) ∷ (codes "compare --json a.dbc b.dbc", codes "json", true)
    ∷ (codes "export --j1939 --db office.db truck 1", codes "j1939", true)
    ∷ (codes "format --keep old.dbc", codes "keep", true) ∷ (codes "format a.dbc --explain", codes "explain", true)
    ∷ (codes "show --db=office.db truck held --json", codes "json", true) ∷ []

they_are_set : map (λ (r : List ℕ × Text × Bool). option_map (λ found. is_set found.1 r.1) (found_in r.0)) flags
    ≡ map (λ (r : List ℕ × Text × Bool). Some r.2) flags
unfolding clap_on_literals
they_are_set = refl

-- a line, and how it applies or sends its script
abbrev manners : List (List ℕ × Manner)
manners = (codes "apply a.txt", record { strict = false; echo = false })
    ∷ (codes "apply a.txt --strict", record { strict = true; echo = false })
    ∷ (codes "apply --echo a.txt", record { strict = false; echo = true })
    ∷ (codes "send --strict --port 8090 a.txt", record { strict = true; echo = false }) ∷ []

their_manners : map (λ (r : List ℕ × Manner). option_map (λ found. manner_in found.1) (found_in r.0)) manners
    ≡ map (λ (r : List ℕ × Manner). Some r.1) manners
unfolding clap_on_literals
their_manners = refl

they_are_files : option_map (λ found. are_files found.1) (found_in (codes "compare a.dbc b.dbc")) ≡ Some true
unfolding clap_on_literals
they_are_files = refl

they_are_no_files : option_map (λ found. are_files found.1) (found_in (codes "compare --port 8089 truck 2 0")) ≡ Some false
unfolding clap_on_literals
they_are_no_files = refl

-- ---- words that are read otherwise

-- `--lint` alone is `--lint=`, up to `--`
lint_is_entered : entered (line (codes "check --lint a.dbc")) ≡ line (codes "check --lint= a.dbc")
lint_is_entered = refl

lint_of_check_alone : entered (line (codes "format --lint")) ≡ line (codes "format --lint")
lint_of_check_alone = refl

file_called_so : entered (line (codes "check -- --lint")) ≡ line (codes "check -- --lint")
file_called_so = refl

input_twice : are_input (codes "-") (codes "-") ≡ true
input_twice = refl

input_and_a_file : are_input (codes "-") (codes "a.dbc") ≡ false
input_and_a_file = refl

help_of_help : words_meant (line (codes "help --help")) ≡ line (codes "help help")
unfolding name_before_help
help_of_help = refl

help_of_check : words_meant (line (codes "help check")) ≡ line (codes "help check")
unfolding name_before_help
help_of_check = refl
