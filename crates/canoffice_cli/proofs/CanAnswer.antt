-- What the office answers to a task is what can answer it.
use Rattle.canoffice_cli.proofs.Common.{◌≡◌, ◌+◌, ℕ, List, [], ◌∷◌, ◌++◌, length, Option, Some, None, Bool, true, false}
use Rattle.canoffice_cli.proofs.Common.{refl, sym, ap, suc, subst, flat_map, IfSome, Action, Command, Task, Act, Import}
use Rattle.canoffice_cli.proofs.Common.{Bundle, Refusal, Office, Profile}
use Rattle.base.specs.Refusing.{Test, first_refusal}
use Rattle.dbc_sheet.specs.declared.message.Message.{Message}
use Rattle.bitlayout.specs.Clash.{first_clash_of}
use Rattle.dbc_sheet.specs.Signals.{places_of}
use Rattle.office_types.specs.Reply.{part_reply, whole_reply}
use Rattle.office_types.specs.declared.book.SpnBook.{SpnBook}
use Rattle.office_types.specs.declared.refusal.Refusal.TheVariants as no
use Rattle.office_types.specs.declared.reply.Reply.{Reply}
use Rattle.office_types.specs.declared.reply.Reply.TheVariants as reply
use Rattle.office_types.specs.declared.state.Net.{Net}
use Rattle.office_rules.specs.Bundling.{bundle_outcome}
use Rattle.office_rules.specs.Commands.{acted, action_tests, done_task, parts_done}
use Rattle.office_rules.specs.Facts.{is_live}
use Rattle.office_rules.specs.Importing.{FileReading, Reading, Unreadable, clear_tests, file_imported, file_tests}
use Rattle.office_rules.specs.Importing.{import_tests, is_too_large, message_import_tests}
use Rattle.office_rules.specs.Outcome.{Entries, Outcome, Refusing, Changing, entered, reply_of, when}
use Rattle.office_rules.specs.Step.{Step}
use Rattle.office_law.specs.Deciding.{IsDecidedBy}
use Rattle.office_law.proofs.DecidedByTests.{tests_decide}
use Rattle.office_law.proofs.EachAction.{laws_of}
use Rattle.office_law.proofs.EachLeavesNameAndReleases.{left_act}
use Rattle.office_law.proofs.NameAndReleasesStay.{left_net}
use Rattle.office_law.proofs.Parts.{LeavesAll, leaves_all_weaker, leaves_bundle, leaves_then, leaves_with}
use Rattle.office_law.proofs.NoTestHolds.{Leaves}
use Rattle.office_law.proofs.Singles.{AreSingle, IsSingle, append_single, each_single, either_single, net_single}
use Rattle.office_law.proofs.Singles.{wanted_single}
use Rattle.office_history.specs.declared.arrival.Answer.TheVariants as answer
use Rattle.canoffice_cli.specs.LongestLines.{CanAnswer, CanAnswerBundle, CanAnswerSingle}

-- ---- the refusals of a command alone

single_refusal : (why : Refusal) → IsSingle why → CanAnswerSingle (answer.Reply (reply.Refused why))
single_refusal (no.BundleRefused f) single = absurd single
single_refusal why single = tt

either_first : (holds : Bool) (here why : Refusal) (later : Option Refusal) → IsSingle here
    → (later ≡ Some why → IsSingle why)
    → ◌≡◌ {A = Option Refusal} (elim holds [ true ↦ Some here | false ↦ later ]) (Some why) → IsSingle why
either_first true here why later is after same = let e : here ≡ why = cc in subst IsSingle e is
either_first false here why later is after same = after same

first_is_single : (ts : List (Test Refusal)) (why : Refusal) → AreSingle ts → first_refusal ts ≡ Some why → IsSingle why
first_is_single [] why are same = cc
first_is_single (t ∷ ts) why are same =
    either_first t.holds t.refusal why (first_refusal ts) are.0 (first_is_single ts why are.1) same

module _ (team name : List ℕ) (book : SpnBook) where
  clear_single : (m : Message) → AreSingle (clear_tests m)
  clear_single m = wanted_single (first_clash_of (places_of m.signals) m.length) _ _ (λ clash. (tt, tt)) tt

  message_import_single : (n : Net) (m : Message) → AreSingle (message_import_tests team n m)
  message_import_single n m = either_single (is_live n m.ident) _ _ (tt, tt) (tt, (tt, (tt, tt)))

  file_single : (n : Net) (reading : FileReading) → AreSingle (file_tests team n reading)
  file_single n (Reading s) =
      let unclear = flat_map clear_tests s.messages in
      let refused = flat_map (message_import_tests team n) s.messages in
      append_single (unclear ++ refused) (when (is_too_large n s) no.TooMany ∷ [])
      (append_single unclear refused (each_single clear_tests s.messages clear_single)
      (each_single (message_import_tests team n) s.messages (message_import_single n))) (tt, tt)
  file_single n (Unreadable f) = (tt, tt)

  import_single : (net : Option Net) (reading : FileReading) → AreSingle (import_tests team net reading)
  import_single net reading = net_single net _ (λ n. (tt, file_single n reading))

-- ---- the answers of a command alone

-- an action is answered as a part can be
part_is_single : (r : Reply) → whole_reply (part_reply r) ≡ r → CanAnswerSingle (answer.Reply r)
part_is_single (reply.Refused why) is = cc
part_is_single (reply.Bundle ps) is = cc
part_is_single r is = tt

single_reply : (ts : List (Test Refusal)) (out : Outcome) → AreSingle ts → IsDecidedBy (first_refusal ts) out
    → Leaves (λ r n e. CanAnswerSingle (answer.Reply r)) out → CanAnswerSingle (answer.Reply (reply_of out))
single_reply ts (Refusing why) are decided left = single_refusal why (first_is_single ts why are decided)
single_reply ts (Changing r n e) are decided left = left

leaves_weaker : (P Q : Reply → Net → Entries → Type 0) → ((r : Reply) (n : Net) (e : Entries) → P r n e → Q r n e)
    → (out : Outcome) → Leaves P out → Leaves Q out
leaves_weaker P Q h (Refusing why) left = tt
leaves_weaker P Q h (Changing r n e) left = h r n e left

file_reply : (team : List ℕ) (reading : FileReading) (n : Net)
    → Leaves (λ r m e. CanAnswerSingle (answer.Reply r)) (file_imported team n reading)
file_reply team (Reading s) n = tt
file_reply team (Unreadable f) n = tt

-- ---- the answers of a bundle

leaves_any : (out : Outcome) → Leaves (λ r n e. Unit {0}) out
leaves_any (Refusing why) = tt
leaves_any (Changing r n e) = tt

where_some : (m : Option Net) (P : Type 0) → P → IfSome m (λ n. P)
where_some None P holds = tt
where_some (Some n) P holds = holds

-- one for each part
parts_reply : (team name : List ℕ) (number : ℕ) (net : Option Net) (book : SpnBook) (parts : List Action)
    → LeavesAll (λ rs m e. length rs ≡ length parts) (parts_done team name number net book parts)
parts_reply team name number net book [] = refl
parts_reply team name number net book (a ∷ parts) =
    leaves_then (λ r n e. Unit {0}) (λ rs m e. length rs ≡ length (a ∷ parts)) number (acted team name net book a)
    (λ n e. parts_done team name (number + 1) (Some n) (entered book e) parts) (leaves_any (acted team name net book a))
    (λ r n e any.
    leaves_with r e (λ rs m f. length rs ≡ length parts) (λ rs m f. length rs ≡ length (a ∷ parts))
    (λ rs m f same. ap suc same)
    (parts_done team name (number + 1) (Some n) (entered book e) parts)
    (parts_reply team name (number + 1) (Some n) (entered book e) parts))

bundle_reply : (count : ℕ) (out : Outcome) → Leaves (λ r n e. CanAnswerBundle count (answer.Reply r)) out
    → CanAnswerBundle count (answer.Reply (reply_of out))
bundle_reply count (Refusing why) left = tt
bundle_reply count (Changing r n e) left = left

-- ---- any command

task_reply : (team name : List ℕ) (book : SpnBook) (reading : FileReading) (net : Option Net) (t : Task)
    → CanAnswer t (answer.Reply (reply_of (done_task team name reading net book t)))
task_reply team name book reading net (Act a) =
    single_reply (action_tests team name net book a) (acted team name net book a)
    ((laws_of team name a).single book net)
    (tests_decide team reading net book (record { net = name; task = Act a }))
    (leaves_weaker _ _ (λ r n e left. part_is_single r left.part) (acted team name net book a)
    (left_act team name book net a))
task_reply team name book reading net (Import file) =
    single_reply (import_tests team net reading) (done_task team name reading net book (Import file))
    (import_single team name book net reading)
    (tests_decide team reading net book (record { net = name; task = Import file }))
    (left_net (λ m r n e. CanAnswerSingle (answer.Reply r)) (import_tests team net reading) net
    (λ n. file_imported team n reading) (file_reply team reading))
task_reply team name book reading net (Bundle parts) =
    let out = parts_done team name 1 net book parts in
    let count = length parts in
    bundle_reply count (bundle_outcome out)
    (leaves_bundle (λ r n e. CanAnswerBundle count (answer.Reply r)) out
    (leaves_all_weaker _ _ (λ rs m e same. where_some m (length rs ≡ count) same) out
    (parts_reply team name 1 net book parts)))

pub step_can_answer : (profile : Profile) (before after : Office) (team : List ℕ) (c : Command) (r : Reply)
    → Step profile before team c r after → CanAnswer c.task (answer.Reply r)
step_can_answer profile before after team c r step =
    subst (λ k. CanAnswer c.task (answer.Reply k)) (sym step.answered)
    (task_reply team c.net before.book step.reading _ c.task)
