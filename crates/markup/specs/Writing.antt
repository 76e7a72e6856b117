-- HTML while it is written.
use Rattle.std.specs.Prelude.{◌≡◌, ℕ, Bool, false, List, [], ◌∷◌, ◌++◌, drop, map}
use Rattle.std.specs.List.{flat_map}
use Rattle.markup.specs.Html.{end_tag, start_tag, tag_name}
use Rattle.markup.specs.Reader.{read, within}
use Rattle.markup.specs.declared.tag.Tag.{Tag}

-- what is written, the elements that are open in it, the innermost first, and whether memory ran out
pub record Writing : Type 0 where
  pub text : List ℕ
  pub opened : List Tag
  pub is_lost : Bool

abbrev pub nothing : Writing
nothing = record { text = []; opened = []; is_lost = false }

-- with these bytes at its end
abbrev pub adding : List ℕ → Writing → Writing
adding bytes w = record w { text = w.text ++ bytes }

-- with an element that begins at its end, with these attributes
abbrev pub beginning : Tag → List ℕ → Writing → Writing
beginning t attributes w = record w { text = w.text ++ start_tag t attributes; opened = t ∷ w.opened }

abbrev last_end : List Tag → List ℕ
last_end [] = []
last_end (t ∷ ts) = end_tag t

-- with the element ended that began last, if one is open
abbrev pub ending : Writing → Writing
ending w = record w { text = w.text ++ last_end w.opened; opened = drop 1 w.opened }

-- with all ended
abbrev pub whole : Writing → List ℕ
whole w = w.text ++ flat_map end_tag w.opened

-- it has become this, if memory didn't run out
abbrev pub Becomes : Writing → Writing → Type 0
Becomes new expected = new.is_lost ≡ false → new ≡ expected

-- something is added at its end, and what was open is open
abbrev pub IsMore : Writing → Writing → Type 0
IsMore new old = (b : List ℕ) × Becomes new (adding b old)

-- the bytes bring a reader between tags, whatever is open before them, to where these elements are open besides
pub record Opens (bytes : List ℕ) (opened : List Tag) : Type 0 where
  pub reads : (beneath : List (List ℕ)) → read (within beneath) bytes ≡ within (map tag_name opened ++ beneath)
