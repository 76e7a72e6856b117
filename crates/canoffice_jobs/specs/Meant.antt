-- What the words of the command line are read as.
use Rattle.std.specs.Prelude.{Bool, ◌&&◌, ◌||◌, if◌then◌else◌, List, [], ◌∷◌, Option, Some, None, codes}
use Rattle.std.specs.Str.{bytes_eq}
use Rattle.clap.specs.Words.{Text}

-- a command and a flag request the help of `help`
abbrev pub is_help_of_help : Text → Text → Bool
is_help_of_help command flag =
    bytes_eq command (codes "help") && (bytes_eq flag (codes "--help") || bytes_eq flag (codes "-h"))

-- the program's name, before `help --help` or `help -h`
unfoldable pub name_before_help : List Text → Option Text
name_before_help (name ∷ command ∷ flag ∷ []) = if is_help_of_help command flag then Some name else None
name_before_help words = None

-- the words that are meant: `help help`, after this name if there is one
abbrev pub meant_after : Option Text → List Text → List Text
meant_after (Some name) words = name ∷ codes "help" ∷ codes "help" ∷ []
meant_after None words = words

-- the words as clap gets them, whose own subcommand `help` has no flag
abbrev pub words_meant : List Text → List Text
words_meant words = meant_after (name_before_help words) words
