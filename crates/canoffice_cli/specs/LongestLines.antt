-- How long the lines can be that answer the requests of a script: room for them is taken before the first one arrives.
use Rattle.std.specs.Prelude.{◌≡◌, ℕ, ◌+◌, ◌-◌, ◌*◌, ◌≤◌, ⊤, max, List, codes, length, take}
use Rattle.std.specs.List.{All, AllZip, sum_by}
use Rattle.office_types.specs.Refusal.{fault_of}
use Rattle.office_types.specs.declared.command.Task.{Task}
use Rattle.office_types.specs.declared.command.Task.TheVariants.{Act, Import, Bundle}
use Rattle.office_types.specs.declared.refusal.FileFault.{FileFault}
use Rattle.office_types.specs.declared.refusal.Refusal.TheVariants as no
use Rattle.office_types.specs.declared.reply.PartReply.{PartReply}
use Rattle.office_types.specs.declared.reply.PartReply.TheVariants as part
use Rattle.office_types.specs.declared.command.Command.{Command}
use Rattle.office_types.specs.declared.reply.Reply.{Reply}
use Rattle.office_types.specs.declared.reply.Reply.TheVariants as reply
use Rattle.office_types.specs.declared.state.Office.{Office}
use Rattle.office_rules.specs.Profile.{Profile}
use Rattle.office_rules.specs.Step.{Step}
use Rattle.office_history.specs.declared.arrival.Answer.{Answer}
use Rattle.office_history.specs.declared.arrival.Answer.TheVariants as answer
use Rattle.office_history.specs.declared.arrival.Arrival.{Arrival}
use Rattle.office_script.specs.Echoes.{answer_line, echoes, longest_echoes}
use Rattle.canoffice_cli.specs.Answered.{answer_lines}

-- The longest lines, with their newlines. A fault has 8 bits, and a number, a count and a release have 32.

-- of a command alone
abbrev pub longest_single : ℕ
longest_single = length (codes "refused 58 FileFault 255 4294967295\n")

-- of a bundle that is refused
abbrev pub longest_refused_bundle : ℕ
longest_refused_bundle = length (codes "refused 62 BundleRefused 255 4294967295\n")

-- of a bundle of so many parts that is carried out: that of one part, and for each later part a semicolon and its
-- answer
abbrev pub longest_bundle : ℕ → ℕ
longest_bundle count = length (codes "bundle release 4294967295\n") + (count - 1) * length
    (codes "; release 4294967295")

-- of what can answer a task
abbrev pub longest_line : Task → ℕ
longest_line (Act a) = longest_single
longest_line (Import file) = longest_single
longest_line (Bundle parts) = max (longest_bundle (length parts)) longest_refused_bundle

-- of a loss
abbrev pub longest_loss : ℕ
longest_loss = length (codes "lost 71\n")

-- room for the longest line of each arrival
abbrev pub room_for : List Arrival → ℕ
room_for arrivals = sum_by (λ a. longest_line a.request.command.task) arrivals

-- Only a bundle is answered by the answers of its parts, one for each, or refused with one of them.

abbrev pub CanAnswerBundle : ℕ → Answer → Type 0
CanAnswerBundle count (answer.Reply (reply.Bundle reported)) = length reported ≡ count
CanAnswerBundle count a = ⊤

abbrev pub CanAnswerSingle : Answer → Type 0
CanAnswerSingle (answer.Reply (reply.Bundle reported)) = ⊥
CanAnswerSingle (answer.Reply (reply.Refused (no.BundleRefused f))) = ⊥
CanAnswerSingle a = ⊤

abbrev pub CanAnswer : Task → Answer → Type 0
CanAnswer (Act a) answer = CanAnswerSingle answer
CanAnswer (Import file) answer = CanAnswerSingle answer
CanAnswer (Bundle parts) answer = CanAnswerBundle (length parts) answer

-- Every value of the types `PartReply`, `FileFault` and `Answer` is so.

abbrev pub Has32Bits : ℕ → Type 0
Has32Bits n = n ≤ 4294967295

abbrev pub IsPartValue : PartReply → Type 0
IsPartValue part.Done = ⊤
IsPartValue (part.Number n) = Has32Bits n
IsPartValue (part.Start n) = n ≤ 65535
IsPartValue (part.Release n) = Has32Bits n

abbrev pub IsFaultValue : FileFault → Type 0
IsFaultValue f = (f.fault ≤ 255) × Has32Bits f.at

abbrev pub IsAnswerValue : Answer → Type 0
IsAnswerValue (answer.Reply reply.Done) = ⊤
IsAnswerValue (answer.Reply (reply.Number n)) = Has32Bits n
IsAnswerValue (answer.Reply (reply.Start n)) = n ≤ 65535
IsAnswerValue (answer.Reply (reply.Counts new same)) = Has32Bits new × Has32Bits same
IsAnswerValue (answer.Reply (reply.Release n)) = Has32Bits n
IsAnswerValue (answer.Reply (reply.Refused r)) = IsFaultValue (fault_of r)
IsAnswerValue (answer.Reply (reply.Bundle parts)) = All IsPartValue parts
IsAnswerValue answer.KeyReused = ⊤

-- Whatever the office answers to a command can answer its task, and the lines of such answers to the first arrivals are
-- no longer than the room for all of them; nor are their echoes.
pub record AnswersFit : Type 0 where
  pub can : (profile : Profile) (before after : Office) (team : List ℕ) (c : Command) (r : Reply)
      → Step profile before team c r after
      → CanAnswer c.task (answer.Reply r)
  pub line : (task : Task) (answer : Answer) → IsAnswerValue answer → CanAnswer task answer
      → length (answer_line answer) ≤ longest_line task
  pub lines : (arrivals : List Arrival) (answers : List Answer) → All IsAnswerValue answers
      → AllZip (λ a answer. CanAnswer a.request.command.task answer) (take (length answers) arrivals) answers
      → length (answer_lines answers) ≤ room_for arrivals
  pub echoes : (arrivals : List Arrival) (answers : List Answer) → All IsAnswerValue answers
      → AllZip (λ a answer. CanAnswer a.request.command.task answer) (take (length answers) arrivals) answers
      → length (echoes arrivals answers) ≤ length (longest_echoes arrivals)
