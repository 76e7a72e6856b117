-- The command line of the program, which job its words request, and which fault they have.
use Rattle.std.specs.Prelude.{◌≡◌, ◌≢◌, ◌⊎◌, ℕ, Bool, List, [], ◌∷◌, find, map, codes, Option, Some, None, option_map}
use Rattle.std.specs.Prelude.{true, false, not, is_none, ◌&&◌, if◌then◌else◌, Result, Ok, Err}
use Rattle.std.specs.Option.{option_and_then, option_map_or}
use Rattle.std.specs.Str.{bytes_eq}
use Rattle.clap.specs.Words.{Shape, IsAmong, Kinds, Row, Rule, Text, all_of, fault_of, first_of, subcommand_of}
use Rattle.clap.specs.declared.error.kind.ErrorKind.{ErrorKind}
use Rattle.clap.specs.declared.error.kind.ErrorKind.TheVariants.{DisplayHelp, DisplayVersion, OutOfMemory}
use Rattle.office_views.specs.Word.{length_of}
use Rattle.canoffice_jobs.specs.declared.job.Job.{Job}
use Rattle.canoffice_jobs.specs.declared.job.Job.TheVariants.{Apply, Chart, Check, Compare, CompareReleases, Export}
use Rattle.canoffice_jobs.specs.declared.job.Job.TheVariants.{Format, Migrate, Page, PageFile, Requests, Send, Serve, Show, Table}
use Rattle.canoffice_jobs.specs.declared.job.JobFault.{JobFault}
use Rattle.canoffice_jobs.specs.declared.job.JobFault.TheVariants.{Help, Usage, Memory}
use Rattle.canoffice_jobs.specs.declared.job.ValueFault.{ValueFault}
use Rattle.canoffice_jobs.specs.declared.job.ValueFault.TheVariants as value
use Rattle.canoffice_jobs.specs.declared.manner.Manner.{Manner}
use Rattle.canoffice_jobs.specs.declared.numbers.Number.{Number}
use Rattle.canoffice_jobs.specs.declared.numbers.Number.TheVariants as number
use Rattle.canoffice_jobs.specs.declared.place.LookCommand.{LookCommand}
use Rattle.canoffice_jobs.specs.declared.place.LookCommand.TheVariants as look
use Rattle.canoffice_jobs.specs.declared.place.OfficePlace.{OfficePlace}
use Rattle.canoffice_jobs.specs.declared.place.PlaceFault.{PlaceFault}
use Rattle.canoffice_jobs.specs.declared.place.PlaceFault.TheVariants.{NoRelease}
use Rattle.canoffice_jobs.specs.declared.what.WhatFault.{WhatFault}
use Rattle.canoffice_jobs.specs.Numbers.{count_given, page_number, port_given, release_number, tries_given}
use Rattle.canoffice_jobs.specs.Place.{IsPlace}
use Rattle.canoffice_jobs.specs.PlaceFault.{IsPlaceFault}
use Rattle.canoffice_jobs.specs.Subcommands.{canoffice_app}
use Rattle.canoffice_jobs.specs.What.{shown_by}
use Rattle.canoffice_jobs.specs.WhatFault.{IsWhatFault}
use Rattle.dbc_lint.specs.Kind.{first_unknown}

-- ---- the words that clap is given

abbrev pub is_check : List Text → Bool
is_check (program ∷ name ∷ words) = bytes_eq name (codes "check")
is_check words = false

-- whether options may follow: after `--` there are none
abbrev pub has_options : Bool → Text → Bool
has_options before word = before && not (bytes_eq word (codes "--"))

-- `--lint` alone is `--lint=`, by which no kind of remark is named. It is given to clap so, since its contracts don't
-- describe an option whose value may be left out.
abbrev pub lint_word : Bool → Text → Text
lint_word options word = if options && bytes_eq word (codes "--lint") then codes "--lint=" else word

abbrev pub lint_entered : Bool → List Text → List Text
lint_entered options [] = []
lint_entered options (word ∷ words) =
    lint_word (has_options options word) word ∷ lint_entered (has_options options word) words

abbrev pub entered : List Text → List Text
entered words = if is_check words then lint_entered true words else words

-- the kinds of fault that clap finds in the words
abbrev pub line_faults : List Text → Kinds
line_faults words = fault_of canoffice_app words

-- ---- the job that the words request

-- the argument of this name has this value
abbrev pub HasValue : List Row → Text → Text → Type 0
HasValue rows id text = first_of id rows ≡ Some text

-- the argument of this name has these values, in order
abbrev pub HasValues : List Row → Text → List Text → Type 0
HasValues rows id texts = all_of id rows ≡ Some texts

-- whether a flag was given: its value is `true` then
abbrev pub is_set : List Row → Text → Bool
is_set rows id = option_map_or (λ value. bytes_eq value (codes "true")) (first_of id rows) false

-- how a script is applied, by the flags
abbrev pub manner_in : List Row → Manner
manner_in rows = record { strict = is_set rows (codes "strict"); echo = is_set rows (codes "echo") }

-- the values of `--db` and `--port` name the place
abbrev pub IsPlaceIn : OfficePlace → List Row → Type 0
IsPlaceIn place rows = IsPlace place (first_of (codes "db") rows) (first_of (codes "port") rows)

-- the words name files: neither a place is given nor the number of a release
abbrev pub are_absent : Option Text → Option Text → Option Text → Bool
are_absent database port number = is_none database && (is_none port && is_none number)

abbrev pub are_files : List Row → Bool
are_files rows = are_absent (first_of (codes "db") rows) (first_of (codes "port") rows) (first_of (codes "N") rows)

-- both paths are standard input, which is read once
abbrev pub are_input : Text → Text → Bool
are_input old new = bytes_eq old (codes "-") && bytes_eq new (codes "-")

-- the job is the subcommand, with the values of its arguments, and the numbers that they give
abbrev pub IsJobOf : Job → Text → List Row → Type 0
IsJobOf (Apply database script explain manner) name rows =
    (name ≡ codes "apply") × (first_of (codes "db") rows ≡ option_map (λ path. path.now) database)
    × HasValue rows (codes "SCRIPT") script.now
    × (explain ≡ is_set rows (codes "explain"))
    × (manner ≡ manner_in rows)
IsJobOf (Chart length signals) name rows =
    (name ≡ codes "chart") × (option_and_then length_of (first_of (codes "LENGTH") rows) ≡ Some length)
    × HasValues rows (codes "SIGNAL") (map (λ s. s.now) signals.items)
IsJobOf (Check file explain lint json) name rows = (name ≡ codes "check") × HasValue rows (codes "FILE") file.now
    × (explain ≡ is_set rows (codes "explain"))
    × (first_of (codes "lint") rows ≡ option_map (λ names. names.now) lint)
    × (option_and_then first_unknown (first_of (codes "lint") rows) ≡ None) × (json ≡ is_set rows (codes "json"))
IsJobOf (Compare old new json) name rows =
    (name ≡ codes "compare") × (are_files rows ≡ true) × HasValue rows (codes "A") old.now
    × HasValue rows (codes "B") new.now × (are_input old.now new.now ≡ false) × (json ≡ is_set rows (codes "json"))
IsJobOf (CompareReleases place net old new json) name rows =
    (name ≡ codes "compare") × IsPlaceIn place rows × HasValue rows (codes "A") net.now
    × (option_and_then release_number (first_of (codes "B") rows) ≡ Some old)
    × (option_and_then release_number (first_of (codes "N") rows) ≡ Some new) × (json ≡ is_set rows (codes "json"))
IsJobOf (Export database net number extras) name rows =
    (name ≡ codes "export") × HasValue rows (codes "db") database.now × HasValue rows (codes "NET") net.now
    × (option_and_then release_number (first_of (codes "N") rows) ≡ Some number)
    × (first_of (codes "keep") rows ≡ option_map (λ path. path.now) extras.original)
    × (extras.j1939 ≡ is_set rows (codes "j1939"))
IsJobOf (Format file explain keep) name rows = (name ≡ codes "format") × HasValue rows (codes "FILE") file.now
    × (explain ≡ is_set rows (codes "explain")) × (keep ≡ is_set rows (codes "keep"))
IsJobOf (Migrate database) name rows = (name ≡ codes "migrate") × HasValue rows (codes "db") database.now
IsJobOf (Page place net number) name rows =
    (name ≡ codes "page") × IsPlaceIn place rows × HasValue rows (codes "NET") net.now
    × (page_number (first_of (codes "N") rows) ≡ Some number)
IsJobOf (PageFile file) name rows =
    (name ≡ codes "page") × (are_files rows ≡ true) × HasValue rows (codes "NET") file.now
IsJobOf (Requests place team json) name rows =
    (name ≡ codes "requests") × IsPlaceIn place rows × HasValue rows (codes "TEAM") team.now
    × (json ≡ is_set rows (codes "json"))
IsJobOf (Send sending script) name rows =
    (name ≡ codes "send") × HasValue rows (codes "SCRIPT") script.now
    × (port_given (first_of (codes "port") rows) ≡ Some sending.port)
    × (tries_given (first_of (codes "tries") rows) ≡ Some sending.tries)
    × (sending.manner ≡ manner_in rows)
IsJobOf (Serve database port count explain) name rows =
    (name ≡ codes "serve") × HasValue rows (codes "db") database.now
    × (port_given (first_of (codes "port") rows) ≡ Some port)
    × (count_given (first_of (codes "count") rows) ≡ Some count)
    × (explain ≡ is_set rows (codes "explain"))
IsJobOf (Show place net what named json) name rows =
    (name ≡ codes "show") × IsPlaceIn place rows
    × (first_of (codes "NET") rows ≡ option_map (λ word. word.now) net)
    × (first_of (codes "NAME") rows ≡ option_map (λ word. word.now) named)
    × (shown_by (first_of (codes "NET") rows) (first_of (codes "WHAT") rows) (first_of (codes "NAME") rows) json
    ≡ Some what)
    × (json ≡ is_set rows (codes "json"))
IsJobOf (Table file json) name rows =
    (name ≡ codes "table") × HasValue rows (codes "FILE") file.now × (json ≡ is_set rows (codes "json"))

-- the job of the subcommand that was found, with its values
abbrev pub IsJobIn : Option (Text × List Row) → Job → Type 0
IsJobIn found job = (name : Text) × (rows : List Row) × (found ≡ Some (name, rows)) × IsJobOf job name rows

-- clap finds no fault in the words, and the job is the subcommand and the values that it finds in them
abbrev pub IsJob : List Text → Job → Type 0
IsJob words job = (line_faults words ≡ []) × IsJobIn (subcommand_of canoffice_app words) job

-- ---- what clap's matches have if it finds no fault

-- the argument of this name has a value, and its values are these
abbrev pub HasSome : List Row → Text → Type 0
HasSome rows id = (v : Text) × (vs : List Text) × HasValue rows id v × HasValues rows id (v ∷ vs)

-- each required argument has a value
abbrev pub HasRequired : List Rule → List Row → Type 0
HasRequired [] rows = Unit {0}
HasRequired (r ∷ rs) rows = (r.required ≡ true → HasSome rows r.id) × HasRequired rs rows

-- some subcommand, with all its required arguments
abbrev pub IsWhole : Option Shape → List Row → Type 0
IsWhole None rows = ⊥
IsWhole (Some s) rows = HasRequired s.rules rows

-- the subcommand of this name was entered, with all its required arguments
abbrev pub IsEnteredAs : Text → List Row → Type 0
IsEnteredAs name rows = IsWhole (find (λ s. bytes_eq name s.name) canoffice_app.subs) rows

-- one of the subcommands was
abbrev pub IsEntered : Option (Text × List Row) → Type 0
IsEntered None = ⊥
IsEntered (Some found) = IsEnteredAs found.0 found.1

-- ---- the fault of words that request no job

-- the fault for clap's error of this kind
abbrev pub IsFaultOfKind : ErrorKind → JobFault → Type 0
IsFaultOfKind kind (Help text) = (kind ≡ DisplayHelp) ⊎ (kind ≡ DisplayVersion)
IsFaultOfKind kind (Usage text) = (kind ≢ DisplayHelp) × (kind ≢ DisplayVersion) × (kind ≢ OutOfMemory)
IsFaultOfKind kind Memory = Unit {0}

-- the values of `--db` and `--port` name some place
abbrev pub HasPlace : List Row → Type 0
HasPlace rows = (place : OfficePlace) × IsPlaceIn place rows

-- of the subcommand with these arguments, this word for this number gives none in its range. The place is looked at
-- before a number, the older release before the newer one, and the port before the count and before the tries.
abbrev pub IsWrongNumber : Text → List Row → Number → Text → Type 0
IsWrongNumber name rows number.Length word =
    (name ≡ codes "chart") × HasValue rows (codes "LENGTH") word × (length_of word ≡ None)
IsWrongNumber name rows number.Release word =
    (name ≡ codes "export") × HasValue rows (codes "N") word × (release_number word ≡ None)
IsWrongNumber name rows number.OlderRelease word =
    (name ≡ codes "compare") × (are_files rows ≡ false) × HasPlace rows × HasValue rows (codes "B") word
    × (release_number word ≡ None) × (newer : Text) × HasValue rows (codes "N") newer
IsWrongNumber name rows number.NewerRelease word =
    (name ≡ codes "compare") × (are_files rows ≡ false) × HasPlace rows × HasValue rows (codes "N") word
    × (release_number word ≡ None) × (old : ℕ) × (option_and_then release_number (first_of (codes "B") rows) ≡ Some old)
IsWrongNumber name rows number.PageRelease word =
    (name ≡ codes "page") × (are_files rows ≡ false) × HasPlace rows × HasValue rows (codes "N") word
    × (release_number word ≡ None)
IsWrongNumber name rows number.Port word =
    (name ≡ codes "serve") × HasValue rows (codes "port") word × (port_given (Some word) ≡ None)
IsWrongNumber name rows number.SendPort word =
    (name ≡ codes "send") × HasValue rows (codes "port") word × (port_given (Some word) ≡ None)
IsWrongNumber name rows number.Count word =
    (name ≡ codes "serve") × HasValue rows (codes "count") word × (count_given (Some word) ≡ None)
    × (port : ℕ) × (port_given (first_of (codes "port") rows) ≡ Some port)
IsWrongNumber name rows number.Tries word =
    (name ≡ codes "send") × HasValue rows (codes "tries") word × (tries_given (Some word) ≡ None)
    × (port : ℕ) × (port_given (first_of (codes "port") rows) ≡ Some port)

-- why the values of `--db` and `--port` name no place
abbrev pub IsPlaceFaultIn : List Row → PlaceFault → Type 0
IsPlaceFaultIn rows fault = IsPlaceFault (first_of (codes "db") rows) (first_of (codes "port") rows) fault

-- a place is named, but no second release to compare with
abbrev pub LacksRelease : List Row → PlaceFault → Type 0
LacksRelease rows fault = (fault ≡ NoRelease) × HasPlace rows × (first_of (codes "N") rows ≡ None)

-- the subcommand with these arguments, which is this one, looks at an office, but for this reason there is no place, or
-- no second release
abbrev pub IsWrongPlace : Text → List Row → LookCommand → PlaceFault → Type 0
IsWrongPlace name rows look.Compare fault =
    (name ≡ codes "compare") × (are_files rows ≡ false) × (IsPlaceFaultIn rows fault ⊎ LacksRelease rows fault)
IsWrongPlace name rows look.Page fault =
    (name ≡ codes "page") × (are_files rows ≡ false) × IsPlaceFaultIn rows fault
IsWrongPlace name rows look.Show fault = (name ≡ codes "show") × IsPlaceFaultIn rows fault
IsWrongPlace name rows look.Requests fault = (name ≡ codes "requests") × IsPlaceFaultIn rows fault

-- the subcommand with these arguments is to show something of an office at a place, but for this reason there is nothing
-- to show
abbrev pub IsWrongWhat : Text → List Row → WhatFault → Type 0
IsWrongWhat name rows fault =
    (name ≡ codes "show") × HasPlace rows
    × IsWhatFault (first_of (codes "NET") rows) (first_of (codes "WHAT") rows) (first_of (codes "NAME") rows)
    (is_set rows (codes "json")) fault

-- the subcommand with these arguments is to print remarks, but this is the first of their names that no kind has
abbrev pub IsUnknownRemark : Text → List Row → Text → Type 0
IsUnknownRemark name rows word =
    (name ≡ codes "check") × (option_and_then first_unknown (first_of (codes "lint") rows) ≡ Some word)

-- the subcommand with these arguments is to compare two files that are both standard input
abbrev pub ReadsTwice : Text → List Row → Type 0
ReadsTwice name rows =
    (name ≡ codes "compare") × (are_files rows ≡ true) × (old : Text) × (new : Text) × HasValue rows (codes "A") old
    × HasValue rows (codes "B") new × (are_input old new ≡ true)

-- the subcommand with these arguments is to draw a chart of a right length, whose signals take memory
abbrev pub TakesMemory : Text → List Row → Type 0
TakesMemory name rows =
    (name ≡ codes "chart") × (length : ℕ) × (option_and_then length_of (first_of (codes "LENGTH") rows) ≡ Some length)

-- why the subcommand with these arguments makes no job: this word is a wrong number, or it looks wrongly, or it names
-- no kind of remark, or it reads standard input twice, or there was no memory for a chart's signals
abbrev pub IsValueFault : Text → List Row → ValueFault → Type 0
IsValueFault name rows (value.WrongNumber number word) = IsWrongNumber name rows number word.now
IsValueFault name rows (value.WrongPlace command fault) = IsWrongPlace name rows command fault
IsValueFault name rows (value.WrongWhat fault) = IsWrongWhat name rows fault
IsValueFault name rows (value.UnknownRemark word) = IsUnknownRemark name rows word.now
IsValueFault name rows value.InputTwice = ReadsTwice name rows
IsValueFault name rows value.Memory = TakesMemory name rows

abbrev pub IsValueFaultIn : Option (Text × List Row) → ValueFault → Type 0
IsValueFaultIn found fault = (name : Text) × (rows : List Row) × (found ≡ Some (name, rows))
    × IsValueFault name rows fault

-- clap finds no fault in the words, but their values have this one
abbrev pub HasValueFault : List Text → ValueFault → Type 0
HasValueFault words fault = (line_faults words ≡ []) × IsValueFaultIn (subcommand_of canoffice_app words) fault

-- the words request help, or the version; or they have a fault of another kind, or their values have one, which isn't
-- that memory ran out; or memory ran out
abbrev pub IsJobFault : List Text → JobFault → Type 0
IsJobFault words (Help text) = IsAmong DisplayHelp (line_faults words) ⊎ IsAmong DisplayVersion (line_faults words)
IsJobFault words (Usage text) =
    ((kind : ErrorKind) × (kind ≢ DisplayHelp) × (kind ≢ DisplayVersion) × IsAmong kind (line_faults words))
    ⊎ ((fault : ValueFault) × (fault ≢ value.Memory) × HasValueFault words fault)
IsJobFault words Memory = Unit {0}

-- the words request a job, or have a fault
abbrev pub IsLine : List Text → Result Job JobFault → Type 0
IsLine words (Ok job) = IsJob words job
IsLine words (Err fault) = IsJobFault words fault
