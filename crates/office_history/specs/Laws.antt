-- How legal histories go on, and what they leave.
use Rattle.std.specs.Prelude.{◌≡◌, ◌≢◌, ℕ, Bool, true, false, if◌then◌else◌, List, [], ◌∷◌, ◌++◌, map, filter, All}
use Rattle.std.specs.Prelude.{AllPairs, Contains, None, Some, is_none}
use Rattle.std.specs.List.{flat_map}
use Rattle.std.specs.Str.{bytes_eq}
use Rattle.dbc_sheet.specs.Messages.{number_of}
use Rattle.dbc_sheet.specs.declared.message.Message.{Message}
use Rattle.dbc_sheet.specs.declared.sheet.Sheet.{Sheet}
use Rattle.office_types.specs.Command.{IsCommand}
use Rattle.office_types.specs.PlainName.{IsPlainName}
use Rattle.office_types.specs.Reply.{whole_reply}
use Rattle.office_types.specs.declared.command.Action.{Action}
use Rattle.office_types.specs.declared.command.Action.TheVariants as act
use Rattle.office_types.specs.declared.command.Task.{Task}
use Rattle.office_types.specs.declared.command.Task.TheVariants.{Act, Bundle}
use Rattle.office_types.specs.declared.reply.Reply.{Reply}
use Rattle.office_types.specs.declared.reply.PartReply.{PartReply}
use Rattle.office_types.specs.declared.reply.Reply.TheVariants.{Number, Bundle as Bundled}
use Rattle.office_types.specs.declared.state.Net.{Net}
use Rattle.office_types.specs.declared.state.Office.{Office}
use Rattle.office_rules.specs.Kept.{IsOffice}
use Rattle.office_rules.specs.Step.{Step, net_named, opening}
use Rattle.office_law.specs.Apart.{needs_book}
use Rattle.office_history.specs.declared.arrival.Answer.{Answer}
use Rattle.office_history.specs.declared.arrival.Answer.TheVariants as answer
use Rattle.office_history.specs.declared.arrival.Answer.TheVariants.{KeyReused}
use Rattle.office_history.specs.History.{Answered, IsAnsweredAs, IsLegal, IsLegalHistory, first_arrivals, first_of}
use Rattle.office_history.specs.History.{request_of, same_pair}

-- One more arrival leaves a history legal: a first one, by a step of the office, and a repeat, by the answer of the
-- first one.
pub record HistoriesGrow : Type 0 where
  pub begins : IsLegal [] opening
  pub first : (h : List Answered) (before after : Office) (a : Answered) (reply : Reply) → IsLegal h before
      → first_of h a ≡ None
      → a.answer ≡ answer.Reply reply → Step a.profile before a.team a.command reply after → IsLegal (h ++ a ∷ []) after
  pub again : (h : List Answered) (office : Office) (a first : Answered) → IsLegal h office → first_of h a ≡ Some first
      → IsAnsweredAs a first → IsLegal (h ++ a ∷ []) office

-- the team and the command, as the types of both keep them
abbrev pub IsInRange : Answered → Type 0
IsInRange a = IsPlainName a.team × IsCommand a.command

-- What a legal history leaves is as every office is; and what was requested first, of whatever answers, leaves one
-- office.
pub record HistoriesLeaveOffices : Type 0 where
  pub kept : (h : List Answered) (office : Office) → All IsInRange h → IsLegal h office → IsOffice office
  pub one : (h g : List Answered) (a b : Office) → map request_of (first_arrivals h) ≡ map request_of (first_arrivals g)
      → IsLegal h a → IsLegal g b → a ≡ b

-- However a legal history goes on, the networks that it left are there, and their releases are the first ones of those
-- that they have after: no release changes, and none goes.
abbrev pub ReleasesStay : Type 0
ReleasesStay = (h more : List Answered) (before after : Office) (name : List ℕ) (net : Net) → IsLegal h before
    → IsLegal (h ++ more) after
    → net_named before name ≡ Some net → (last : Net) × (net_named after name ≡ Some last) × (new : List Sheet)
    × (last.releases ≡ net.releases ++ new)

-- Two releases of a network that have one message number give it one name.
abbrev pub NumbersKeepTheirNames : Type 0
NumbersKeepTheirNames = (h : List Answered) (office : Office) (net : Net) (s t : Sheet) (m n : Message)
    → All IsInRange h → IsLegal h office
    → Contains office.nets net → Contains net.releases s → Contains net.releases t → Contains s.messages m
    → Contains t.messages n → number_of m ≡ number_of n → m.name ≡ n.name

-- whether an action requests a suspect parameter number of its own, and not one to share
abbrev pub wants_new_spn : Action → Bool
wants_new_spn (act.TakeSpn c) = is_none c.same
wants_new_spn a = false

-- the number that an action was given so
abbrev pub action_spns : Action → Reply → List ℕ
action_spns a (Number n) = if wants_new_spn a then n ∷ [] else []
action_spns a r = []

-- those that the parts of a bundle were
abbrev pub part_spns : List Action → List PartReply → List ℕ
part_spns [] reported = []
part_spns (a ∷ parts) [] = []
part_spns (a ∷ parts) (p ∷ reported) = action_spns a (whole_reply p) ++ part_spns parts reported

abbrev pub task_spns : Task → Reply → List ℕ
task_spns (Act a) r = action_spns a r
task_spns (Bundle parts) (Bundled reported) = part_spns parts reported
task_spns task r = []

-- those that an arrival was
abbrev pub answer_spns : Task → Answer → List ℕ
answer_spns task (answer.Reply r) = task_spns task r
answer_spns task KeyReused = []

abbrev pub spns_given : Answered → List ℕ
spns_given a = answer_spns a.command.task a.answer

-- those that first arrivals were given so, in order
abbrev pub new_spns : List Answered → List ℕ
new_spns h = flat_map spns_given (first_arrivals h)

-- No suspect parameter number is given twice to first arrivals, or to parts of them, that request one of their own.
abbrev pub SpnsAreGivenOnce : Type 0
SpnsAreGivenOnce = (h : List Answered) (office : Office) → IsLegal h office → AllPairs (λ m n. m ≢ n) (new_spns h)

-- the arrival is on the network of this name
abbrev pub is_on : List ℕ → Answered → Bool
is_on name a = bytes_eq a.command.net name

-- two arrivals of one pair of team and key are on one network
abbrev pub NamesOneNetwork : Answered → Answered → Type 0
NamesOneNetwork a b = same_pair a b ≡ true → a.command.net ≡ b.command.net

-- No pair of team and key names two networks.
abbrev pub HaveOneNetwork : List Answered → Type 0
HaveOneNetwork h = AllPairs NamesOneNetwork h

-- What an arrival is answered after one legal history it may be answered after any other that has the same arrivals,
-- with the same answers, on its network, whatever else each of the two has: if the command doesn't read the book, and
-- with this arrival no pair of team and key names two networks in either.
abbrev pub AnswersAreApart : Type 0
AnswersAreApart = (h g : List Answered) (a : Answered) → needs_book a.command.task ≡ false
    → HaveOneNetwork (h ++ a ∷ []) → HaveOneNetwork (g ++ a ∷ [])
    → filter (is_on a.command.net) h ≡ filter (is_on a.command.net) g → IsLegalHistory (h ++ a ∷ []) → IsLegalHistory g
    → IsLegalHistory (g ++ a ∷ [])
