-- The rows of answered requests, and of the parts of those that were bundles.
use Rattle.std.specs.Prelude.{◌≡◌, ℕ, ◌+◌, pos, List, [], ◌∷◌, IsPermutation, filter, map}
use Rattle.std.specs.List.{flat_map}
use Rattle.std.specs.List.Sorted.{IsStrictlySortedBy}
use Rattle.std.specs.Str.{bytes_eq}
use Rattle.base.specs.Keyed.{text_cmp}
use Rattle.sqlite.specs.declared.types.Value.TheVariants.{Int, Text, Blob}
use Rattle.sqlite.specs.Order.{Row, column}
use Rattle.office_types.specs.Reply.{part_numbers, reply_numbers, reply_parts}
use Rattle.office_types.specs.declared.reply.PartReply.{PartReply}
use Rattle.office_types.specs.declared.reply.Reply.{Reply}
use Rattle.office_types.specs.declared.reply.ReplyNumbers.{ReplyNumbers}
use Rattle.office_history.specs.declared.arrival.Answer.{Answer}
use Rattle.office_history.specs.declared.arrival.Answer.TheVariants as answer
use Rattle.office_history.specs.declared.arrival.Answer.TheVariants.{KeyReused}
use Rattle.office_history.specs.History.{Answered, first_arrivals}
use Rattle.store_rows.specs.Listed.{AreShown}
use Rattle.store_changes.specs.declared.requests.KeptRequest.{KeptRequest}

-- the row of a team's request under a key, with its content and the numbers of its reply
abbrev pub row_of_numbers : List ℕ → List ℕ → List ℕ → ReplyNumbers → Row
row_of_numbers team key content n = Text team ∷ Text key ∷ Blob content ∷ Int (pos n.kind) ∷ Int (pos n.a)
    ∷ Int (pos n.b) ∷ Int (pos n.c) ∷ []

abbrev pub kept_row : List ℕ → List ℕ → List ℕ → Reply → Row
kept_row team key content reply = row_of_numbers team key content (reply_numbers reply)

-- the row of an arrival that was answered by a reply of the office
abbrev pub IsKept : Answered → Row → Type 0
IsKept a row = (reply : Reply) × (a.answer ≡ answer.Reply reply) × (row ≡ kept_row a.team a.key a.content reply)

-- the rows, whatever their order in the table, are those of the first arrivals
pub record AreKept (h : List Answered) (rows : List Row) : Type 0 where
  pub found : List Row
  pub same : IsPermutation rows found
  pub each : AreShown IsKept (first_arrivals h) found

-- the row of what a part is answered, at its place in the bundle
abbrev pub part_values : List ℕ → List ℕ → ℕ → PartReply → Row
part_values team key place p =
    Text team ∷ Text key ∷ Int (pos place) ∷ Int (pos (part_numbers p).kind) ∷ Int (pos (part_numbers p).a)
    ∷ Int (pos 0) ∷ []

-- those of parts, from this place on
abbrev pub part_rows : List ℕ → List ℕ → ℕ → List PartReply → List Row
part_rows team key place [] = []
part_rows team key place (p ∷ ps) = part_values team key place p ∷ part_rows team key (place + 1) ps

-- the parts of an answer: those of the reply to a bundle
abbrev pub answer_parts : Answer → List PartReply
answer_parts (answer.Reply reply) = reply_parts reply
answer_parts KeyReused = []

-- the rows of the parts of an arrival's answer; the first part's place is 1
abbrev pub kept_parts : Answered → List Row
kept_parts a = part_rows a.team a.key 1 (answer_parts a.answer)

-- the rows, whatever their order in the table, are those of the parts of the first arrivals' answers
abbrev pub AreKeptParts : List Answered → List Row → Type 0
AreKeptParts h rows = IsPermutation rows (flat_map kept_parts (first_arrivals h))

-- ---- the requests of a team

-- the keys are those of the team's requests in the history, in the order of their bytes
pub record AreKeysOf (team : List ℕ) (h : List Answered) (keys : List (List ℕ)) : Type 0 where
  pub same : IsPermutation (map (λ (a : Answered). a.key) (filter (λ a. bytes_eq a.team team) (first_arrivals h))) keys
  pub ascending : IsStrictlySortedBy text_cmp keys

-- what is kept of an arrival: its content and its answer
abbrev pub content_and_answer : Answered → List ℕ × Answer
content_and_answer a = (a.content, a.answer)

abbrev pub kept_answer : KeptRequest → List ℕ × Answer
kept_answer kept = (kept.content, answer.Reply kept.reply)

-- ---- what the query of a reply shows: content, kind, a, b, c

abbrev pub ShowsReply : Reply → Row → Type 0
ShowsReply reply row =
    (column row 1 ≡ Int (pos (reply_numbers reply).kind)) × (column row 2 ≡ Int (pos (reply_numbers reply).a))
    × (column row 3 ≡ Int (pos (reply_numbers reply).b))
    × (column row 4 ≡ Int (pos (reply_numbers reply).c))

-- the row of the arrival, as it is shown
abbrev pub ShowsKept : Answered → Row → Type 0
ShowsKept a row = (reply : Reply) × (a.answer ≡ answer.Reply reply) × (column row 0 ≡ Blob a.content)
    × ShowsReply reply row
