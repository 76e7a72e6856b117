-- An office that keeps what came first under each pair of team and key.
use Rattle.std.specs.Prelude.{◌≡◌, ℕ, Bool, ◌&&◌, List, map}
use Rattle.std.specs.Str.{bytes_eq}
use Rattle.office_types.specs.declared.state.Office.{Office}
use Rattle.office_history.specs.declared.arrival.Answer.{Answer}
use Rattle.office_history.specs.declared.arrival.Answer.TheVariants as answer
use Rattle.office_history.specs.History.{Answered, IsLegal, first_arrivals}
use Rattle.office.specs.declared.first.First.{First}
use Rattle.office.specs.declared.first.Pair.{Pair}

-- what came first under a pair: its content, and what it was answered
pub record Kept : Type 0 where
  pub team : List ℕ
  pub key : List ℕ
  pub content : List ℕ
  pub answer : Answer

pub record Keyed : Type 0 where
  pub office : Office
  pub kept : List Kept

abbrev pub kept_of : Answered → Kept
kept_of a = record { team = a.team; key = a.key; content = a.content; answer = a.answer }

-- The history is legal and leaves the office, and what is kept is that of its first arrivals, in order.
pub record HoldsHistory (h : List Answered) (o : Keyed) : Type 0 where
  pub legal : IsLegal h o.office
  pub kept : o.kept ≡ map kept_of (first_arrivals h)

-- ---- how the office keeps them

abbrev pub pair_eq : Pair → Pair → Bool
pair_eq p q = bytes_eq p.team q.team && bytes_eq p.key q.key

abbrev pub entry_kept : Pair × First → Kept
entry_kept e = record { team = e.0.team; key = e.0.key; content = e.1.content.items; answer = answer.Reply e.1.reply }
