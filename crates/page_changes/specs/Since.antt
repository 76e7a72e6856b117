-- What has changed since the last release: the lists of the messages that differ.
use Rattle.std.specs.Prelude.{◌≡◌, ℕ, Bool, List, [], ◌∷◌, ◌++◌, Option, Some, None, codes, map, take, if◌then◌else◌}
use Rattle.std.specs.Borrow.{Bor}
use Rattle.std.specs.List.{flat_map, fold, list_any}
use Rattle.std.specs.List.Sorted.{IsPermutation, IsSortedBy, IsStableBy}
use Rattle.std.specs.Ordering.{is_lt, nat_cmp}
use Rattle.std.specs.Str.{bytes_eq}
use Rattle.dbc_compare.specs.List.{change_word}
use Rattle.dbc_compare.specs.declared.difference.Alteration.{Alteration}
use Rattle.dbc_compare.specs.declared.difference.Difference.{Difference}
use Rattle.markup.specs.Html.{element_html, end_tag, escaped, start_tag, valued}
use Rattle.markup.specs.declared.tag.Tag.TheVariants as tag
use Rattle.page_changes.specs.Changes.{breaking_in, list_of, name_in}
use Rattle.page_changes.specs.Fates.{fate_in, of_fate}
use Rattle.page_changes.specs.Tables.{bad_if, joined}
use Rattle.page_changes.specs.declared.changes.Fate.{Fate}
use Rattle.page_changes.specs.declared.changes.Fate.TheVariants as fate
use Rattle.page_changes.specs.declared.since.TheConstants.{LISTED}

-- ---- what differs of a message, in words

abbrev pub word_by : Option (List ℕ) → Alteration → List ℕ
word_by (Some signal) c = signal
word_by None c = change_word c

-- the signal, or the word for what has become of the message itself
abbrev pub word_of : Difference → List ℕ
word_of d = word_by d.name d.change

abbrev pub has_word : List (List ℕ) → List ℕ → Bool
has_word words word = list_any (λ w. bytes_eq w word) words

-- with the word, if it isn't there yet
abbrev pub with_word : List (List ℕ) → List ℕ → List (List ℕ)
with_word words word = if has_word words word then words else words ++ word ∷ []

-- a word for each difference, in order, each once
abbrev pub words_of : List Difference → List (List ℕ)
words_of ds = fold (λ words d. with_word words (word_of d)) [] ds

-- ---- the item of a message

abbrev pub sign_of : Fate → List ℕ
sign_of fate.Added = codes "+"
sign_of fate.Removed = 226 ∷ 136 ∷ 146 ∷ []
sign_of fate.Changed = 226 ∷ 137 ∷ 160 ∷ []

abbrev pub cell_of : Fate → List ℕ
cell_of fate.Added = codes "cell p"
cell_of fate.Removed = codes "cell y"
cell_of fate.Changed = codes "cell u"

abbrev pub told_words : List ℕ → List ℕ
told_words words = codes " " ++ (start_tag tag.Span (codes " class=\"q\"") ++ (words ++ end_tag tag.Span))

-- how much of it breaks a receiver, and what differs
abbrev pub changed_told : List Difference → List ℕ
changed_told ds = bad_if (breaking_in ds) ++ told_words (joined (words_of ds))

-- of one that has changed
abbrev pub told_by : Fate → List Difference → List ℕ
told_by fate.Changed ds = changed_told ds
told_by f ds = told_words []

-- the sign in its colour
abbrev pub sign_html : Fate → List ℕ
sign_html f = element_html tag.Bold (valued (codes " class=\"") (escaped (cell_of f))) (sign_of f)

-- the sign and the name of the message, and what has become of it
abbrev pub message_item : List Difference → List ℕ
message_item ds = let f = fate_in ds in
    start_tag tag.Item []
    ++ (sign_html f ++ (codes " " ++ (escaped (name_in ds) ++ (codes " " ++ (told_by f ds ++ end_tag tag.Item)))))

-- of the first so many
abbrev pub items_html : List (List Difference) → List ℕ
items_html messages = flat_map message_item (take LISTED messages)

-- ---- the lists

-- more of the first one breaks a receiver
abbrev pub breaks_more : Bor (List Difference) → Bor (List Difference) → Bool
breaks_more a b = is_lt (nat_cmp (breaking_in (list_of b)) (breaking_in (list_of a)))

-- those of which more breaks come first, and those of which as much breaks stay in order
pub record AreRanked (messages ranked : List (Bor (List Difference))) : Type 0 where
  pub same : IsPermutation messages ranked
  pub falling : IsSortedBy breaks_more ranked
  pub stable : IsStableBy breaks_more messages ranked

abbrev pub lists_html : List (List Difference) → List (List Difference) → List (List Difference) → List ℕ
lists_html changed removed added =
    start_tag tag.List (codes " class=\"rows\"")
    ++ (items_html changed ++ (items_html removed ++ (items_html added ++ end_tag tag.List)))

-- an item for each message that has changed, was removed and was added, those first that have changed
pub record IsChangeList (messages : List (List Difference)) (html : List ℕ) : Type 0 where
  pub changed : List (Bor (List Difference))
  pub ranked : List (Bor (List Difference))
  pub are : map list_of changed ≡ of_fate fate.Changed messages
  pub by_breaking : AreRanked changed ranked
  pub is : html ≡ lists_html (map list_of ranked) (of_fate fate.Removed messages) (of_fate fate.Added messages)
