-- The lines that answers are printed as: alone, or as echoes of what was requested.
use Rattle.std.specs.Prelude.{ℕ, Bool, true, false, List, [], ◌∷◌, ◌++◌, codes}
use Rattle.std.specs.List.{flat_map}
use Rattle.office_types.specs.Reply.{part_text, reply_text}
use Rattle.office_types.specs.declared.command.Action.{Action}
use Rattle.office_types.specs.declared.command.Action.TheVariants as act
use Rattle.office_types.specs.declared.command.Command.{Command}
use Rattle.office_types.specs.declared.command.SignalPath.{SignalPath}
use Rattle.office_types.specs.declared.command.Task.{Task}
use Rattle.office_types.specs.declared.command.Task.TheVariants.{Act, Import, Bundle}
use Rattle.office_types.specs.declared.reply.PartReply.{PartReply}
use Rattle.office_types.specs.declared.reply.Reply.TheVariants as reply
use Rattle.office_fields.specs.Kind.{action_word, kind_of, word_of}
use Rattle.office_fields.specs.declared.kind.CommandKind.TheVariants as kind
use Rattle.office_history.specs.declared.arrival.Answer.{Answer}
use Rattle.office_history.specs.declared.arrival.Answer.TheVariants.{Reply, KeyReused}
use Rattle.office_history.specs.declared.arrival.Arrival.{Arrival}

-- ---- answers

abbrev pub answer_text : Answer → List ℕ
answer_text (Reply r) = reply_text r
answer_text KeyReused = codes "refused 70 KeyReused"

abbrev pub answer_line : Answer → List ℕ
answer_line answer = answer_text answer ++ codes "\n"

-- the office refused it, now or when it came first, or its key was used
abbrev pub is_refused : Answer → Bool
is_refused (Reply (reply.Refused why)) = true
is_refused (Reply r) = false
is_refused KeyReused = true

-- ---- what was requested

abbrev pub path_text : SignalPath → List ℕ
path_text path = path.message ++ (codes "." ++ path.signal)

-- what an action on the network names: a team, a node, a message or a signal, and else the network
abbrev pub subject_of : List ℕ → Action → List ℕ
subject_of net (act.OpenNet opening) = net
subject_of net (act.Grant grant) = grant.team
subject_of net (act.AddNode name) = name
subject_of net (act.TakeIdent take) = take.message.name
subject_of net (act.TakePgn take) = take.message.name
subject_of net (act.TakeSpn take) = path_text take.path
subject_of net (act.TakeBits take) = path_text take.path
subject_of net (act.SetValues set) = path_text set.path
subject_of net (act.RemoveSignal path) = path_text path
subject_of net (act.Retire name) = name
subject_of net act.Submit = net
subject_of net act.Approve = net
subject_of net act.Reject = net
subject_of net act.Release = net

-- a key, a command's word and what the command names
abbrev pub heading : List ℕ → List ℕ → List ℕ → List ℕ
heading key word subject = key ++ (codes " " ++ (word ++ (codes " " ++ (subject ++ codes ": "))))

abbrev pub action_heading : List ℕ → List ℕ → Action → List ℕ
action_heading key net a = heading key (action_word (kind_of a)) (subject_of net a)

abbrev pub task_heading : List ℕ → List ℕ → Task → List ℕ
task_heading key net (Act a) = action_heading key net a
task_heading key net (Import file) = heading key (word_of kind.Import) net
task_heading key net (Bundle parts) = heading key (word_of kind.Bundle) net

-- ---- echoes

-- each part of a bundle with what it was answered
abbrev pub part_lines : List ℕ → List ℕ → List Action → List PartReply → List ℕ
part_lines key net [] replies = []
part_lines key net (part ∷ parts) [] = []
part_lines key net (part ∷ parts) (r ∷ replies) =
    action_heading key net part ++ (part_text r ++ (codes "\n" ++ part_lines key net parts replies))

-- a request with its answer, of whatever kind
abbrev pub whole_echo : List ℕ → Command → Answer → List ℕ
whole_echo key c answer = task_heading key c.net c.task ++ answer_line answer

-- the parts of a bundle that was carried out
abbrev pub bundle_echo : List ℕ → Command → Task → List PartReply → List ℕ
bundle_echo key c (Bundle parts) replies = part_lines key c.net parts replies
bundle_echo key c task replies = whole_echo key c (Reply (reply.Bundle replies))

-- a request with its answer; a bundle that was carried out has a line for each part
abbrev pub echo_of : List ℕ → Command → Answer → List ℕ
echo_of key c (Reply (reply.Bundle replies)) = bundle_echo key c c.task replies
echo_of key c answer = whole_echo key c answer

abbrev pub echo_lines : Arrival → Answer → List ℕ
echo_lines a answer = echo_of a.key a.request.command answer

-- the first arrivals, as many as there are answers, each with its own
abbrev pub echoes : List Arrival → List Answer → List ℕ
echoes [] answers = []
echoes (a ∷ arrivals) [] = []
echoes (a ∷ arrivals) (answer ∷ answers) = echo_lines a answer ++ echoes arrivals answers

-- ---- room for echoes: lines that are at least as long, whatever is answered. A fault has 8 bits, and a number, a
-- count and a release have 32.

abbrev pub longest_refusal : List ℕ
longest_refusal = codes "refused 62 BundleRefused 255 4294967295\n"

abbrev pub longest_part : List ℕ → List ℕ → Action → List ℕ
longest_part key net part = action_heading key net part ++ codes "release 4294967295\n"

abbrev pub longest_parts : List ℕ → List ℕ → List Action → List ℕ
longest_parts key net parts = flat_map (λ part. longest_part key net part) parts

abbrev pub parts_of : Task → List Action
parts_of (Bundle parts) = parts
parts_of task = []

abbrev pub longest_echo : List ℕ → Command → List ℕ
longest_echo key c = longest_parts key c.net (parts_of c.task) ++ (task_heading key c.net c.task ++ longest_refusal)

abbrev pub longest_echoes : List Arrival → List ℕ
longest_echoes arrivals = flat_map (λ a. longest_echo a.key a.request.command) arrivals
