-- What tables and lists are made of, as HTML.
use Rattle.std.specs.Prelude.{◌≡◌, ℕ, Bool, List, [], ◌∷◌, ◌++◌, Option, codes}
use Rattle.markup.specs.Html.{end_tag, escaped, start_tag, valued}
use Rattle.markup.specs.Writing.{Becomes, Writing, adding, ending, nothing, whole}
use Rattle.markup.specs.declared.tag.Tag.{Tag}
use Rattle.markup.specs.declared.tag.Tag.TheVariants as tag
use Rattle.page_parts.specs.Frames.{with_fold, with_part, with_table, with_wide}

-- an element with these attributes and this in it
abbrev pub around : Tag → List ℕ → List ℕ → List ℕ
around t attributes inner = start_tag t attributes ++ (inner ++ end_tag t)

-- the attribute of these classes
abbrev pub classed : List ℕ → List ℕ
classed classes = valued (codes " class=\"") (escaped classes)

-- the attribute of a link to the part of this kind and name
abbrev pub to_named : List ℕ → List ℕ → List ℕ
to_named kind name = valued (codes " href=\"#") (escaped kind ++ escaped name)

-- ---- what page_parts begins, with this in it, and ended

abbrev pub part_html : List ℕ → List ℕ → Option (List ℕ) → List ℕ → List ℕ
part_html name heading small inner = whole (adding inner (with_part name heading small nothing))

abbrev pub wide_html : List ℕ → List ℕ → List ℕ
wide_html label inner = whole (adding inner (with_wide label nothing))

abbrev pub table_html : List ℕ → List (List ℕ) → List ℕ → List ℕ
table_html class heads rows = whole (adding rows (with_table class heads nothing))

-- a fold with this summary
abbrev pub fold_html : Bool → List ℕ → List ℕ → List ℕ
fold_html is_open summary inner = whole (adding inner (ending (adding summary (with_fold is_open nothing))))

-- ---- what isn't said to the byte

-- it has become more, by bytes of which this holds
abbrev pub IsMoreBy : (List ℕ → Type 0) → Writing → Writing → Type 0
IsMoreBy P new old = (b : List ℕ) × (P b × Becomes new (adding b old))

-- the bytes are one piece for each item, in order
abbrev pub ArePieces : {X : Type 0} → (X → List ℕ → Type 0) → List X → List ℕ → Type 0
ArePieces P [] bytes = bytes ≡ []
ArePieces P (x ∷ xs) bytes =
    (piece : List ℕ) × ((rest : List ℕ) × (P x piece × (ArePieces P xs rest × (bytes ≡ piece ++ rest))))
