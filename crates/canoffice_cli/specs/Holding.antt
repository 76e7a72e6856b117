-- What a list of files holds at a path, and what a word of the command line names.
use Rattle.std.specs.Prelude.{ℕ, List, Option, Some, None, codes, find, if◌then◌else◌}
use Rattle.std.specs.Str.{bytes_eq}
use Rattle.office_script.specs.Files.{Files, Holding, absent, holding}
use Rattle.canoffice_cli.specs.declared.files.listed.NamedFile.{NamedFile}

-- the file's bytes, if there is a file
abbrev pub holding_of : Option NamedFile → Holding
holding_of None = absent
holding_of (Some file) = holding file.bytes.now

-- the first file of the path
abbrev pub file_at : List NamedFile → List ℕ → Holding
file_at files path = holding_of (find (λ file. bytes_eq file.path.now path) files)

-- what is known of the bytes that a word names: `-` names standard input, and any other word the file at this path
abbrev pub source_at : Files → Holding → List ℕ → Holding
source_at files input word = if bytes_eq word (codes "-") then input else files word
