-- The requests of a team, each with what it was answered.
use Rattle.std.specs.Prelude.{◌≡◌, ℕ, ◌==◌, Bool, true, false, List, [], ◌∷◌, ◌++◌, All, IsPermutation}
use Rattle.std.specs.Prelude.{count_by, filter, length, map, nat_lt, take, codes, decimal}
use Rattle.std.specs.List.{before_first, enumerate_from, flat_map}
use Rattle.std.specs.List.Sorted.{IsStrictlySortedBy}
use Rattle.std.specs.Ordering.{on}
use Rattle.std.specs.Str.{bytes_eq}
use Rattle.std.specs.declared.cmp.Ordering.{Ordering}
use Rattle.base.specs.Keyed.{text_cmp}
use Rattle.office_types.specs.Reply.{part_text, reply_parts, reply_text}
use Rattle.office_types.specs.declared.look.LookForm.{LookForm}
use Rattle.office_types.specs.declared.reply.PartReply.{PartReply}
use Rattle.office_types.specs.declared.reply.Reply.{Reply}
use Rattle.office_types.specs.declared.reply.Reply.TheVariants.{Bundle, Refused}
use Rattle.office_history.specs.declared.arrival.Answer.{Answer}
use Rattle.office_history.specs.declared.arrival.Answer.TheVariants as answer
use Rattle.office_history.specs.declared.arrival.Answer.TheVariants.{KeyReused}
use Rattle.office_history.specs.History.{Answered, first_arrivals}
use Rattle.office_looks.specs.Looks.{list_in}
use Rattle.office_looks.specs.declared.requests.TheConstants.{REQUESTS, REQUEST_TOTALS}
use Rattle.rows.specs.Fact.{Fact, of_front, of_name, of_number, of_word}
use Rattle.rows.specs.Table.{Listing, plain}

-- the first line of a content, or as much of it as is shown
abbrev pub content_front : List ℕ → List ℕ
content_front content = take 512 (before_first (λ b. b == 10) content)

-- whether there is more of it
abbrev pub has_more : List ℕ → Bool
has_more content = nat_lt (length (content_front content)) (length content)

-- a request: its key, how its content begins, whether that goes on, and the reply
pub record Asked : Type 0 where
  pub key : List ℕ
  pub front : List ℕ
  pub goes_on : Bool
  pub reply : Reply

abbrev pub asked : List ℕ → List ℕ → Reply → Asked
asked key content reply =
    record { key = key; front = content_front content; goes_on = has_more content; reply = reply }

-- ---- as rows

-- a reply in a column; of a bundle, how many parts it has
abbrev pub short_reply : Reply → List ℕ
short_reply (Bundle parts) = codes "bundle " ++ decimal (length parts)
short_reply r = reply_text r

-- a key, what was answered, and how the content begins
abbrev pub whole_row : Asked → List Fact
whole_row a = of_word a.key ∷ of_name (short_reply a.reply) ∷ of_front a.front a.goes_on ∷ []

-- the row of the part at this place of a bundle
abbrev pub part_row : List ℕ → ℕ → PartReply → List Fact
part_row key place part =
    of_word key ∷ of_name (part_text part) ∷ of_name (codes "command " ++ decimal place) ∷ []

-- those of the parts, the first of which is at 1
abbrev pub part_rows : List ℕ → List PartReply → List (List Fact)
part_rows key parts = map (λ p. part_row key p.0 p.1) (enumerate_from 1 parts)

-- the row of a request, and one for each part of a bundle
abbrev pub request_rows : Asked → List (List Fact)
request_rows a = whole_row a ∷ part_rows a.key (reply_parts a.reply)

abbrev pub is_refused : Reply → Bool
is_refused (Refused r) = true
is_refused r = false

abbrev pub was_refused : Asked → Bool
was_refused a = is_refused a.reply

-- the requests, and how many there are and were refused
abbrev pub requests_table : List Asked → Listing
requests_table requests = plain REQUESTS (flat_map request_rows requests) REQUEST_TOTALS
    (of_number (length requests) ∷ of_number (count_by was_refused requests) ∷ [])

-- ---- of a history

-- the team's
abbrev pub is_of_team : List ℕ → Answered → Bool
is_of_team team a = bytes_eq a.team team

abbrev pub by_key : Answered → Answered → Ordering
by_key = on (λ a. a.key) text_cmp

-- the office replied to it
abbrev pub IsReplied : Answered → Type 0
IsReplied a = (reply : Reply) × (a.answer ≡ answer.Reply reply)

-- the request that was answered so
abbrev pub replied_to : List ℕ → List ℕ → Answer → List Asked
replied_to key content (answer.Reply reply) = asked key content reply ∷ []
replied_to key content KeyReused = []

abbrev pub asked_of : Answered → List Asked
asked_of a = replied_to a.key a.content a.answer

-- The requests are the team's in the history: those that came first under their keys, in the order of the keys' bytes.
pub record AreRequestsOf (team : List ℕ) (h : List Answered) (requests : List Asked) : Type 0 where
  pub listed : List Answered
  pub same : IsPermutation (filter (is_of_team team) (first_arrivals h)) listed
  pub ascending : IsStrictlySortedBy by_key listed
  pub replied : All IsReplied listed
  pub are : requests ≡ flat_map asked_of listed

-- The text is that of the team's requests, in this form.
abbrev pub IsRequestsText : List ℕ → List Answered → LookForm → List ℕ → Type 0
IsRequestsText team h form text =
    (requests : List Asked) × AreRequestsOf team h requests × (text ≡ list_in form (requests_table requests))
