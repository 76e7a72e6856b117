-- What `show` shows of a network: the words for it, and after which of them a name follows.
use Rattle.std.specs.Prelude.{ℕ, Bool, true, not, ◌&&◌, ◌||◌, List, Option, Some, None, is_some, codes, find}
use Rattle.std.specs.Str.{bytes_eq}
use Rattle.office_fields.specs.Value.{◌>>=◌, where_true}
use Rattle.office_types.specs.Overview.{overview_word}
use Rattle.office_types.specs.declared.overview.Overview.TheVariants as overview
use Rattle.canoffice_jobs.specs.declared.what.TheConstants.{SHOWN}
use Rattle.canoffice_jobs.specs.declared.what.What.{What}
use Rattle.canoffice_jobs.specs.declared.what.What.TheVariants as what

abbrev pub word_of : What → List ℕ
word_of (what.Overview o) = overview_word o
word_of what.Message = codes "message"
word_of what.Who = codes "who"

-- what a word names
abbrev pub what_of : List ℕ → Option What
what_of word = find (λ w. bytes_eq (word_of w) word) SHOWN

-- whether it can be shown with a name, or without one
abbrev pub fits : What → Bool → Bool
fits (what.Overview overview.Blocks) is_named = true
fits (what.Overview overview.Messages) is_named = true
fits (what.Overview overview.Nodes) is_named = true
fits (what.Overview o) is_named = not is_named
fits what.Message is_named = is_named
fits what.Who is_named = is_named

-- where there is no word, the state
abbrev pub what_given : Option (List ℕ) → Option What
what_given None = Some (what.Overview overview.State)
what_given (Some word) = what_of word

-- what is shown by the network's name, the word for it and the name after it, if there are any, where JSON is wanted or
-- not; the list of networks has none
abbrev pub shown_by : Option (List ℕ) → Option (List ℕ) → Option (List ℕ) → Bool → Option What
shown_by net what name json =
    what_given what >>= λ w. where_true (fits w (is_some name) && (not json || is_some net)) (Some w)
