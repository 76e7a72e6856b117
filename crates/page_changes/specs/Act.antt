-- Which nodes must act, since what they receive breaks.
use Rattle.std.specs.Prelude.{◌≡◌, ℕ, Bool, true, false, List, [], ◌∷◌, ◌++◌, Option, Some, None, codes, filter, map}
use Rattle.std.specs.Prelude.{if◌then◌else◌}
use Rattle.std.specs.List.{flat_map, list_any}
use Rattle.std.specs.List.Sorted.{IsPermutation, IsSortedByKey, IsStableByKey}
use Rattle.std.specs.Str.{bytes_eq}
use Rattle.base.specs.Keyed.{text_cmp}
use Rattle.dbc_compare.specs.List.{breaks, change_word}
use Rattle.dbc_compare.specs.declared.difference.Difference.{Difference}
use Rattle.dbc_sheet.specs.Messages.{message_at}
use Rattle.dbc_sheet.specs.declared.message.Message.{Message}
use Rattle.dbc_sheet.specs.declared.sheet.Sheet.{Sheet}
use Rattle.dbc_sheet.specs.declared.signal.Signal.{Signal}
use Rattle.markup.specs.Html.{element_html, end_tag, escaped, start_tag}
use Rattle.markup.specs.declared.tag.Tag.TheVariants as tag
use Rattle.page_parts.specs.Words.{quiet}
use Rattle.page_changes.specs.Changes.{name_in, old_number_in}
use Rattle.page_changes.specs.Names.{ascending}
use Rattle.page_changes.specs.Parts.{parts_by}
use Rattle.page_changes.specs.Tables.{joined, table_html}

-- ---- what breaks, and where

abbrev pub same_name : Option (List ℕ) → Option (List ℕ) → Bool
same_name None None = true
same_name (Some a) (Some b) = bytes_eq a b
same_name a b = false

-- both are of one signal, or of the message itself
abbrev pub is_one_thing : Difference → Difference → Bool
is_one_thing d e = same_name d.name e.name

-- the differences of a message, those of one thing together
abbrev pub things_of : List Difference → List (List Difference)
things_of ds = parts_by is_one_thing ds

-- the signal that they are of; none of the message itself
abbrev pub signal_of : List Difference → Option (List ℕ)
signal_of [] = None
signal_of (d ∷ ds) = d.name

abbrev pub is_meant : Option (List ℕ) → Signal → Bool
is_meant None s = true
is_meant (Some name) s = bytes_eq s.name name

-- the nodes that receive the signal, if it is the one of this name; without a name each is
abbrev pub receivers_if : Option (List ℕ) → Signal → List (List ℕ)
receivers_if name s = if is_meant name s then s.receivers else []

-- without bytes if there are no names
abbrev pub or_nobody : List (List ℕ) → List (List ℕ)
or_nobody [] = [] ∷ []
or_nobody (n ∷ names) = n ∷ names

-- the nodes that receive it, in the message as it was
abbrev pub receivers_of : Message → Option (List ℕ) → List (List ℕ)
receivers_of old name = or_nobody (ascending (flat_map (receivers_if name) old.signals))

-- a node, and differences of one thing that it receives
abbrev pub Lost : Type 0
Lost = List ℕ × List Difference

abbrev pub lost_at : List Difference → List ℕ → Lost
lost_at ds node = (node, ds)

-- each node loses that receives a thing of which something breaks
abbrev pub losses_at : Message → List Difference → List Lost
losses_at old ds = if list_any breaks ds then map (lost_at ds) (receivers_of old (signal_of ds)) else []

abbrev pub losses_in : Option Message → List Difference → List Lost
losses_in None ds = []
losses_in (Some old) ds = flat_map (losses_at old) (things_of ds)

-- of a message, as the sheet before has it
abbrev pub losses_of : Sheet → List Difference → List Lost
losses_of before ds = losses_in (message_at before.messages (old_number_in ds)) ds

-- ---- by node

abbrev pub node_of : Lost → List ℕ
node_of lost = lost.0

-- in ascending order of the nodes; those of a node stay in order
pub record AreByNode (losses sorted : List Lost) : Type 0 where
  pub same : IsPermutation losses sorted
  pub rising : IsSortedByKey node_of text_cmp sorted
  pub stable : IsStableByKey node_of text_cmp losses sorted

abbrev pub is_one_node : Lost → Lost → Bool
is_one_node a b = bytes_eq (node_of a) (node_of b)

-- ---- the table

abbrev pub after_point : Option (List ℕ) → List ℕ
after_point None = []
after_point (Some signal) = codes "." ++ escaped signal

abbrev pub breaking_words : List Difference → List (List ℕ)
breaking_words ds = map (λ (d : Difference). change_word d.change) (filter breaks ds)

-- a thing that breaks, and words for what breaks it
abbrev pub lost_item : Lost → List ℕ
lost_item lost = let ds = lost.1 in
    start_tag tag.Item [] ++ (element_html tag.Bold (codes " class=\"bad\"") (codes "!") ++ (codes " "
    ++ (escaped (name_in ds) ++ (after_point (signal_of ds) ++ (codes " "
    ++ (start_tag tag.Span (codes " class=\"q\"") ++ (joined (breaking_words ds)
    ++ (end_tag tag.Span ++ end_tag tag.Item))))))))

abbrev pub node_html : List ℕ → List ℕ
node_html [] = quiet (codes "no receiver named")
node_html (b ∷ name) = escaped (b ∷ name)

abbrev pub first_node : List Lost → List ℕ
first_node [] = []
first_node (lost ∷ losses) = node_of lost

-- the row of a node that loses so much
abbrev pub node_row : List Lost → List ℕ
node_row losses =
    start_tag tag.Row [] ++ (start_tag tag.HeadCell [] ++ (node_html (first_node losses) ++ (end_tag tag.HeadCell
    ++ (start_tag tag.Cell [] ++ (start_tag tag.List [] ++ (flat_map lost_item losses
    ++ (end_tag tag.List ++ (end_tag tag.Cell ++ end_tag tag.Row))))))))

abbrev pub act_heads : List (List ℕ)
act_heads = codes "Node" ∷ codes "What breaks" ∷ []

-- a row for each node
abbrev pub rows_table : List Lost → List ℕ
rows_table losses = table_html (codes "list") act_heads (flat_map node_row (parts_by is_one_node losses))

abbrev pub act_html : List Lost → List ℕ
act_html [] = element_html tag.Paragraph [] (codes "Nobody: nothing that changed breaks a receiver.")
act_html (lost ∷ losses) = rows_table (lost ∷ losses)

-- the table of the nodes that must act: those that receive, in the sheet as it was, something that breaks
pub record IsActTable (before : Sheet) (messages : List (List Difference)) (html : List ℕ) : Type 0 where
  pub losses : List Lost
  pub by_node : AreByNode (flat_map (losses_of before) messages) losses
  pub is : html ≡ act_html losses
