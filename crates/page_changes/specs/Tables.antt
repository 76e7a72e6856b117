-- Pieces of what is written.
use Rattle.std.specs.Prelude.{ℕ, ◌==◌, List, [], ◌∷◌, ◌++◌, codes, if◌then◌else◌}
use Rattle.std.specs.List.{flat_map}
use Rattle.markup.specs.Html.{end_tag, escaped, start_tag, valued}
use Rattle.markup.specs.Writing.{Becomes, Writing, adding}
use Rattle.markup.specs.declared.tag.Tag.TheVariants as tag
use Rattle.page_parts.specs.Frames.{heads_html}
use Rattle.page_parts.specs.Words.{bad}

-- a comma and the text for each
abbrev pub later_words : List (List ℕ) → List ℕ
later_words words = flat_map (λ w. codes ", " ++ escaped w) words

-- with commas between
abbrev pub joined : List (List ℕ) → List ℕ
joined [] = []
joined (w ∷ words) = escaped w ++ later_words words

-- how many changes break a receiver, if some do
abbrev pub bad_if : ℕ → List ℕ
bad_if count = if count == 0 then [] else bad count (codes "breaking")

-- a table of this class, with these heads and these rows
abbrev pub table_html : List ℕ → List (List ℕ) → List ℕ → List ℕ
table_html class heads rows =
    start_tag tag.Table (valued (codes " class=\"") (escaped class))
    ++ (start_tag tag.TableHead [] ++ (start_tag tag.Row [] ++ (heads_html heads
    ++ (end_tag tag.Row ++ (end_tag tag.TableHead
    ++ (start_tag tag.TableBody [] ++ (rows ++ (end_tag tag.TableBody ++ end_tag tag.Table))))))))

-- something was added of which this holds, if memory didn't run out
pub record Puts (P : List ℕ → Type 0) (new old : Writing) : Type 0 where
  pub html : List ℕ
  pub is : P html
  pub becomes : Becomes new (adding html old)
