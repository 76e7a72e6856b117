-- What of a whole sheet is looked up for its remarks.
use Rattle.std.specs.Prelude.{◌≡◌, ℕ, List, count_by}
use Rattle.std.specs.Borrow.{Bor}
use Rattle.dbc_words.specs.Named.{HasNamesOf, holds_name}
use Rattle.dbc_words.specs.declared.name_set.NameSet.{NameSet}
use Rattle.dbc_sheet.specs.Sheet.{node_name}
use Rattle.dbc_sheet.specs.declared.sheet.Sheet.{Sheet}
use Rattle.dbc_lint.specs.OfMessage.{is_over_8}
use Rattle.dbc_lint.specs.OfNode.{has_text, names_used}
use Rattle.dbc_lint.specs.OfSpn.{places}
use Rattle.dbc_lint.specs.SpnPlaces.{HasFirsts}
use Rattle.dbc_lint.specs.declared.spn_places.FirstPlaces.{FirstPlaces}

-- the bytes of a name
abbrev pub text_of : Bor (List ℕ) → List ℕ
text_of name = name.now

-- the names of its nodes, those of nodes that send or receive, the first places of its suspect parameter numbers, and
-- how many messages have more than 8 bytes
pub record IsOfSheet (sheet : Sheet) (named met : NameSet) (firsts : FirstPlaces) (count : ℕ) : Type 0 where
  pub nodes : HasNamesOf node_name sheet.nodes named
  pub used : (n : List ℕ) → holds_name met n ≡ has_text (names_used sheet.messages) n
  pub spns : HasFirsts (places sheet.messages) firsts
  pub over_8 : count ≡ count_by is_over_8 sheet.messages
