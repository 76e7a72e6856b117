-- Why the words of a chart describe no signals.
use Rattle.std.specs.Prelude.{ℕ, List}
use Rattle.canoffice_cli.specs.Jobs.Charted.{IsFirstWrongWord}
use Rattle.canoffice_cli.specs.declared.jobs.charting.WordFault.{WordFault}
use Rattle.canoffice_cli.specs.declared.jobs.charting.WordFault.TheVariants.{Wrong, Memory}

-- the malformed word is the first one; out of memory states nothing
abbrev pub IsWordFault : List (List ℕ) → WordFault → Type 0
IsWordFault words (Wrong word) = IsFirstWrongWord words word.now
IsWordFault words Memory = Unit {0}
