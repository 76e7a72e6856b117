-- Why commands of a script were refused, as the lines that `--explain` prints.
use Rattle.std.specs.Prelude.{◌≡◌, ◌⊎◌, ℕ, Bool, List, [], ◌∷◌, ◌++◌, map, Option, Some, None, codes, IsFalse, IsTrue}
use Rattle.std.specs.List.{flat_map}
use Rattle.std.specs.Str.{bytes_eq}
use Rattle.dbc_advice.specs.ReportedLine.{reported_line}
use Rattle.office_history.specs.declared.arrival.Answer.{Answer}
use Rattle.office_history.specs.declared.arrival.Answer.TheVariants.{KeyReused, Reply}
use Rattle.office_types.specs.Reply.{reply_text}
use Rattle.office_types.specs.declared.refusal.Refusal.{Refusal}
use Rattle.office_types.specs.declared.reply.Reply.TheVariants.{Refused}
use Rattle.sqlite.specs.Held.{state}
use Rattle.sqlite_trees.specs.declared.store.Store.{Ghosts}
use Rattle.store.specs.Calls.{KeepsDoubt, KeepsStatistics, OnHistory}
use Rattle.store.specs.Holding.{Holding}
use Rattle.store.specs.Office.{OfficeView}
use Rattle.office_types.specs.declared.state.Net.{Net}
use Rattle.canoffice_cli.specs.Numbers.{script_numbers}
use Rattle.canoffice_cli.specs.declared.reasons.Reasons.{Reasons}
use Rattle.canoffice_cli.specs.declared.refused_line.RefusedLine.{RefusedLine}

-- the network has the name
abbrev pub has_net_name : List ℕ → Net → Bool
has_net_name name net = bytes_eq net.name name

-- the answer to a line that was refused so, or whose key was used for another request
abbrev pub refused_label : Option Refusal → List ℕ
refused_label None = codes "refused 70 KeyReused"
refused_label (Some r) = reply_text (Refused r)

-- `SCRIPT:3:1: refused 50 NameTaken: SENTENCE`: a refusal is one of the whole line
abbrev pub reason_line : List ℕ → RefusedLine → List ℕ
reason_line name l =
    reported_line name (record { line = l.number; column = 1 }) (refused_label l.refusal) l.sentence.items

-- ---- which lines were refused

-- the refusal, or that the key was used for another request; nothing of an answer that is no refusal
abbrev pub refusal_of : Answer → Option (Option Refusal)
refusal_of (Reply (Refused r)) = Some (Some r)
refusal_of (Reply r) = None
refusal_of KeyReused = Some None

-- the number of a line with its refusal, if it was refused
abbrev pub refused_line : ℕ → Option (Option Refusal) → List (ℕ × Option Refusal)
refused_line number None = []
refused_line number (Some refusal) = (number, refusal) ∷ []

-- the refused lines among those that have these numbers and were answered so, in order
abbrev pub refused_lines : List Answer → List ℕ → List (ℕ × Option Refusal)
refused_lines [] numbers = []
refused_lines (answer ∷ answers) [] = []
refused_lines (answer ∷ answers) (number ∷ numbers) =
    refused_line number (refusal_of answer) ++ refused_lines answers numbers

-- what a reason is of
abbrev pub told_of : RefusedLine → ℕ × Option Refusal
told_of l = (l.number, l.refusal)

-- some of the items, in their order
abbrev pub AreSomeOf : {A : Type 0} → List A → List A → Type 0
AreSomeOf {A = A} xs [] = xs ≡ []
AreSomeOf {A = A} xs (y ∷ ys) = AreSomeOf xs ys ⊎ ((rest : List A) × (xs ≡ y ∷ rest) × AreSomeOf rest ys)

-- The new reasons are the old ones, and then one for each of some of these refused lines, in their order. The others
-- are left out.
pub record Tells (refused : List (ℕ × Option Refusal)) (old new : Reasons) : Type 0 where
  pub added : List RefusedLine
  pub after : new.lines.items ≡ old.lines.items ++ added
  pub some : AreSomeOf (map told_of added) refused

-- the same of the lines of the script that were answered so
abbrev pub TellsOf : List ℕ → List Answer → Reasons → Reasons → Type 0
TellsOf script answers old new = Tells (refused_lines answers (script_numbers script)) old new

-- A line for each of some of the lines of the script that were refused by these answers, in their order: with its
-- number and its refusal. Each sentence is one line of printable ASCII, by its type.
pub record AreReasons (name script : List ℕ) (answers : List Answer) (text : List ℕ) : Type 0 where
  pub lines : List RefusedLine
  pub some : AreSomeOf (map told_of lines) (refused_lines answers (script_numbers script))
  pub is : text ≡ flat_map (reason_line name) lines

-- what is stated of a script, and then why its commands were refused
abbrev pub HasReasons : List ℕ → List ℕ → List ℕ → List Answer → List ℕ → Type 0
HasReasons name script stated answers text =
    (reasons : List ℕ) × AreReasons name script answers reasons × (text ≡ stated ++ reasons)

-- ---- the office

-- An office on tables was read, and is still that office: it holds each history that it held while it hasn't failed, or
-- its connection is open. One that had failed before stays as it was. No statistics come or go.
pub record StaysAnOffice {S : Type 0} (g : Ghosts S) (old new : OfficeView S) : Type 0 where
  pub clean : KeepsDoubt g old.conn new.conn
  pub refused : IsTrue old.failed → new ≡ old
  pub held : OnHistory g old.conn new.conn (λ h. IsFalse new.failed → Holding h (state g new.conn))
  pub held_open : OnHistory g old.conn new.conn (λ h. IsTrue (state g new.conn).is_open
      → Holding h (state g new.conn))
  pub statistics : KeepsStatistics g old.conn new.conn
