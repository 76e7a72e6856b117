-- The list of networks, line by line.
use Rattle.std.specs.Prelude.{ℕ, List, ◌++◌, length, codes, decimal}
use Rattle.std.specs.List.{flat_map}
use Rattle.office_types.specs.declared.state.Head.{Head}
use Rattle.office_types.specs.declared.state.Net.{Net}
use Rattle.office_types.specs.declared.state.Phase.{Phase}
use Rattle.office_types.specs.declared.state.Phase.TheVariants.{Draft, Review}
use Rattle.office_types.specs.Command.{kind_word}

abbrev pub phase_word : Phase → List ℕ
phase_word Draft = codes "draft"
phase_word (Review submitter) = codes "review"

-- name, kind, phase, count of releases
abbrev pub line_of : List ℕ → Head → ℕ → List ℕ
line_of name head releases =
    name ++ (codes " " ++ (kind_word head.kind
    ++ (codes " " ++ (phase_word head.phase ++ (codes " " ++ (decimal releases ++ codes "\n"))))))

abbrev pub net_line : Net → List ℕ
net_line net = line_of net.name net.head (length net.releases)

-- a line for each network, in the order of the list
abbrev pub nets_text : List Net → List ℕ
nets_text nets = flat_map net_line nets
