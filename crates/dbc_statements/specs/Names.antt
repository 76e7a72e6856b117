-- Names of lists, without those that mean no node.
use Rattle.std.specs.Prelude.{ℕ, ◌++◌, List, Option, Some, option_and_then, filter_map}
use Rattle.dbc_grammar.specs.Parsing.{Parsed}

-- those of nodes
abbrev pub names_in : List (Option (List ℕ)) → List (List ℕ)
names_in names = filter_map (λ name. name) names

-- the names that a loop has collected so far, and those that it still reads
abbrev pub with_names : List (List ℕ) → Parsed (List (Option (List ℕ))) → Parsed (List (List ℕ))
with_names front o = option_and_then (λ b. Some (front ++ names_in b.0, b.1)) o
