-- Histories: arrivals, each with what it was answered. A request may arrive again.
use Rattle.std.specs.Prelude.{◌≡◌, ℕ, Bool, ◌&&◌, not, List, [], ◌∷◌, All, Option, IfSome, filter, find, map}
use Rattle.std.specs.Prelude.{if◌then◌else◌}
use Rattle.std.specs.Str.{bytes_eq}
use Rattle.office_types.specs.declared.command.Command.{Command}
use Rattle.office_types.specs.declared.reply.Reply.{Reply}
use Rattle.office_types.specs.declared.state.Office.{Office}
use Rattle.office_rules.specs.Profile.{Profile}
use Rattle.office_rules.specs.Step.{TeamCommand, Run, opening}
use Rattle.office_history.specs.declared.arrival.Answer.{Answer}
use Rattle.office_history.specs.declared.arrival.Answer.TheVariants as answer
use Rattle.office_history.specs.declared.arrival.Answer.TheVariants.{KeyReused}

-- an arrival, with the profile under which it came, and what it was answered
pub record Answered : Type 0 where
  pub profile : Profile
  pub team : List ℕ
  pub key : List ℕ
  pub content : List ℕ
  pub command : Command
  pub answer : Answer

-- the two have one pair of team and key
abbrev pub same_pair : Answered → Answered → Bool
same_pair a b = bytes_eq a.team b.team && bytes_eq a.key b.key

-- those whose pair is new, in order: the first one, and of the others those of other pairs
abbrev pub first_arrivals : List Answered → List Answered
first_arrivals [] = []
first_arrivals (a ∷ h) = a ∷ filter (λ b. not (same_pair a b)) (first_arrivals h)

-- the one that came first of the arrival's pair
abbrev pub first_of : List Answered → Answered → Option Answered
first_of h a = find (λ b. same_pair b a) h

-- what a content is answered whose pair came first as this one
abbrev pub answer_again : Answered → List ℕ → Answer
answer_again first content = if bytes_eq first.content content then first.answer else KeyReused

abbrev pub IsAnsweredAs : Answered → Answered → Type 0
IsAnsweredAs a first = a.answer ≡ answer_again first a.content

abbrev pub request_of : Answered → TeamCommand
request_of a = (a.profile, a.team, a.command)

abbrev pub answer_of : Answered → Answer
answer_of a = a.answer

-- A history is legal, and leaves the office so: its first arrivals are answered by a run of the office from its
-- opening, and each arrival as the first one of its pair, where the contents are equal byte for byte.
pub record IsLegal (h : List Answered) (office : Office) : Type 0 where
  pub replies : List Reply
  pub replied : map answer_of (first_arrivals h) ≡ map answer.Reply replies
  pub run : Run opening (map request_of (first_arrivals h)) replies office
  pub again : All (λ a. IfSome (first_of h a) (IsAnsweredAs a)) h

-- some office is left by the history: so each answer in it is the office's
abbrev pub IsLegalHistory : List Answered → Type 0
IsLegalHistory h = (office : Office) × IsLegal h office
