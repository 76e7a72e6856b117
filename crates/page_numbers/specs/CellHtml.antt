-- The cells of the map as HTML.
use Rattle.std.specs.Prelude.{◌≡◌, ℕ, ◌-◌, ◌==◌, Bool, true, false, List, [], ◌∷◌, ◌++◌, Option, Some, None, codes}
use Rattle.std.specs.Prelude.{decimal, length, map, min, take, unwrap_or, if◌then◌else◌}
use Rattle.std.specs.Option.{option_copied}
use Rattle.dbc_sheet.specs.declared.message.Message.{Message}
use Rattle.markup.specs.Html.{element_html, escaped, valued}
use Rattle.markup.specs.declared.tag.Tag.TheVariants as tag
use Rattle.page_parts.specs.Letters.{class_in, letter_or}
use Rattle.page_parts.specs.declared.letters.Shade.TheVariants as shade
use Rattle.page_numbers.specs.Elements.{ArePieces, around, classed, to_named}
use Rattle.page_numbers.specs.Index.{message_at}
use Rattle.page_numbers.specs.declared.cells.Cell.{Cell}
use Rattle.page_numbers.specs.declared.cells.Cell.TheVariants.{Live, Held, Free, Nobody}

-- ---- of messages

-- a message, and whose it is
abbrev pub IsNamed : Message → List ℕ → Type 0
IsNamed m words = (owner : List ℕ) × (words ≡ escaped m.name ++ (codes " (" ++ (escaped owner ++ codes ")")))

-- the same after a comma
abbrev pub IsLater : Message → List ℕ → Type 0
IsLater m words = (named : List ℕ) × (IsNamed m named × (words ≡ codes ", " ++ named))

-- a number of a title as far as 32 bits go
abbrev pub more_words : ℕ → List ℕ
more_words n = if n == 0 then [] else codes " and " ++ (decimal (min n 4294967295) ++ codes " more")

-- the number, the first messages that have it, and how many more there are
pub record IsTitle (n : ℕ) (first : Message) (others : List Message) (words : List ℕ) : Type 0 where
  pub named : List ℕ
  pub is_named : IsNamed first named
  pub later : List ℕ
  pub are_later : ArePieces IsLater (take 3 others) later
  pub is : words ≡ decimal n ++ (codes " " ++ (named ++ (later ++ more_words (length others - 3))))

-- what a link leads to: the message, or the row of the first one
abbrev pub part_kind : List Message → List ℕ
part_kind [] = codes "m-"
part_kind (m ∷ ms) = codes "t-"

-- the attributes of a link to the part of this kind and name, with this title
abbrev pub link_to : List ℕ → List ℕ → List ℕ → List ℕ
link_to kind name title =
    to_named kind name ++ (valued (codes " title=\"") title ++ valued (codes " aria-label=\"") title)

-- a link with a title, in some colour, around letters
pub record IsLiveCell (n : ℕ) (first : Message) (others : List Message) (bytes : List ℕ) : Type 0 where
  pub class : List ℕ
  pub title : List ℕ
  pub is_title : IsTitle n first others title
  pub letters : List ℕ
  pub is : bytes ≡ around tag.Cell (classed class)
      (around tag.Link (link_to (part_kind others) first.name title) letters)

-- ---- of no message

-- a held number in the block of this team, `×` where it has no letter
abbrev pub held_cell : List (List ℕ) → ℕ → List ℕ → List ℕ
held_cell names n team =
    around tag.Cell
    (classed (class_in shade.Held names team) ++ valued (codes " title=\"") (decimal n ++ codes " held"))
    (letter_or names team false (195 ∷ 151 ∷ []))

-- a free number in the block of this team
abbrev pub free_cell : List (List ℕ) → List ℕ → List ℕ
free_cell names team =
    around tag.Cell (classed (class_in shade.Free names team)) (letter_or names team true (194 ∷ 183 ∷ []))

abbrev pub nobody_cell : List ℕ
nobody_cell = element_html tag.Cell [] []

-- ---- what a cell is, and what is to say of a number

abbrev pub IsCellOf : List (List ℕ) → ℕ → Cell → List ℕ → Type 0
IsCellOf names n (Live first others) bytes = IsLiveCell n (message_at first.now) (map message_at others.now) bytes
IsCellOf names n (Held team) bytes = bytes ≡ held_cell names n (unwrap_or (option_copied team) [])
IsCellOf names n (Free team) bytes = bytes ≡ free_cell names team.now
IsCellOf names n Nobody bytes = bytes ≡ nobody_cell

abbrev pub unused_cell : List (List ℕ) → ℕ → Bool → Option (List ℕ) → Bool → List ℕ
unused_cell names n true team own = held_cell names n (unwrap_or team [])
unused_cell names n false (Some team) true = free_cell names team
unused_cell names n false (Some team) false = nobody_cell
unused_cell names n false None own = nobody_cell

-- of a number that these messages have, that is held or not, in the block of this team, and the chart's or not
abbrev pub IsCellHtml : List (List ℕ) → ℕ → List Message → Bool → Option (List ℕ) → Bool → List ℕ → Type 0
IsCellHtml names n [] held team own bytes = bytes ≡ unused_cell names n held team own
IsCellHtml names n (first ∷ others) held team own bytes = IsLiveCell n first others bytes
