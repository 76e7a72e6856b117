-- The remarks on a node.
use Rattle.std.specs.Prelude.{ℕ, Bool, not, List, [], ◌∷◌, ◌++◌, Option, Some, None}
use Rattle.std.specs.List.{flat_map, list_any}
use Rattle.std.specs.Str.{bytes_eq}
use Rattle.dbc_sheet.specs.declared.message.Message.{Message}
use Rattle.dbc_sheet.specs.declared.sheet.Sheet.{Sheet}
use Rattle.dbc_sheet.specs.declared.signal.Signal.{Signal}
use Rattle.dbc_lint.specs.OfSignal.{is_long}
use Rattle.dbc_lint.specs.Remark.{remark, when}
use Rattle.dbc_lint.specs.declared.kind.Kind.TheVariants.{LongName, IdleNode}
use Rattle.dbc_lint.specs.declared.remark.Remark.{Remark}

abbrev pub names_in : Option (List ℕ) → List (List ℕ)
names_in None = []
names_in (Some name) = name ∷ []

-- the node that sends a message, and those that receive its signals
abbrev pub names_of_message : Message → List (List ℕ)
names_of_message m = names_in m.transmitter ++ flat_map (λ (s : Signal). s.receivers) m.signals

-- all names of nodes that send or receive
abbrev pub names_used : List Message → List (List ℕ)
names_used messages = flat_map names_of_message messages

abbrev pub has_text : List (List ℕ) → List ℕ → Bool
has_text names name = list_any (λ (n : List ℕ). bytes_eq n name) names

abbrev pub is_idle : Sheet → List ℕ → Bool
is_idle sheet name = not (has_text (names_used sheet.messages) name)

-- the remarks on a node, in ascending order of their numbers
abbrev pub of_node : Sheet → List ℕ → ℕ → List Remark
of_node sheet name at =
    when (is_long name) (remark LongName at name) ++ when (is_idle sheet name) (remark IdleNode at name)
