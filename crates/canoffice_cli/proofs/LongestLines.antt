-- The lines of answers fit in the room for them.
use Rattle.canoffice_cli.proofs.Common.{◌≤◌, ◌+◌, ℕ, List, [], ◌∷◌, ◌++◌, length, take, codes, arith, ◌≡◌}
use Rattle.canoffice_cli.proofs.Common.{length-append, refl, subst, AllZip, Task, Act, Import, Bundle, Refusal, Answer}
use Rattle.canoffice_cli.proofs.Common.{Arrival, Action, Command}
use Rattle.std.proofs.Common.{◌*◌, max, decimal}
use Rattle.std.specs.List.{All}
use Rattle.std.proofs.Math.Nat.{le-max_left, le-max_right}
use Rattle.std.proofs.lemmas.Fmt.{length-decimal-le}
use Rattle.std.proofs.lemmas.List.Concat.{length-flat_map}
use Rattle.std.proofs.lemmas.List.Elements.{All-head, All-tail, All-weaker}
use Rattle.std.proofs.lemmas.List.Sums.{sum_by-cons, sum_by-le}
use Rattle.office_types.specs.Refusal.{fault_of}
use Rattle.office_types.specs.Reply.{later_text, part_text, refusal_text, reply_text}
use Rattle.office_types.specs.declared.refusal.FileFault.{FileFault}
use Rattle.office_types.specs.declared.refusal.Refusal.TheVariants as no
use Rattle.office_types.specs.declared.reply.PartReply.{PartReply}
use Rattle.office_types.specs.declared.reply.PartReply.TheVariants as part
use Rattle.office_types.specs.declared.reply.Reply.TheVariants as reply
use Rattle.office_history.specs.declared.arrival.Answer.TheVariants.{Reply, KeyReused}
use Rattle.office_script.specs.Echoes.{action_heading, answer_line, answer_text, bundle_echo, echo_lines, echoes}
use Rattle.office_script.specs.Echoes.{longest_echo, longest_echoes, longest_part, longest_parts, longest_refusal}
use Rattle.office_script.specs.Echoes.{part_lines, parts_of, task_heading, whole_echo}
use Rattle.canoffice_cli.specs.Answered.{answer_lines}
use Rattle.canoffice_cli.proofs.CanAnswer.{step_can_answer}
use Rattle.canoffice_cli.specs.LongestLines.{AnswersFit, CanAnswer, CanAnswerBundle, CanAnswerSingle, Has32Bits}
use Rattle.canoffice_cli.specs.LongestLines.{IsAnswerValue, IsFaultValue, IsPartValue, longest_line, longest_bundle}
use Rattle.canoffice_cli.specs.LongestLines.{longest_refused_bundle, longest_single, room_for}

digits_of_32_bits : (n : ℕ) → Has32Bits n → length (decimal n) ≤ 10
digits_of_32_bits n small = length-decimal-le 10 n (omega arith) (omega (arith, small)) (omega (arith, small))

digits_of_16_bits : (n : ℕ) → n ≤ 65535 → length (decimal n) ≤ 5
digits_of_16_bits n small = length-decimal-le 5 n (omega arith) (omega (arith, small)) (omega (arith, small))

digits_of_8_bits : (n : ℕ) → n ≤ 255 → length (decimal n) ≤ 3
digits_of_8_bits n small = length-decimal-le 3 n (omega arith) (omega (arith, small)) (omega (arith, small))

-- a word and a number after it
word_and_number : (word : List ℕ) (n digits : ℕ) → length (decimal n) ≤ digits
    → length (word ++ decimal n) ≤ length word + digits
word_and_number word n digits few = let both = length-append word (decimal n) in omega (arith, both, few)

-- a word, and two numbers with a space in between
word_and_numbers : (word : List ℕ) (n m digits more : ℕ) → length (decimal n) ≤ digits → length (decimal m) ≤ more
    → length (word ++ (decimal n ++ (codes " " ++ decimal m))) ≤ length word + (digits + 1 + more)
word_and_numbers word n m digits more few fewer =
    let whole = length-append word (decimal n ++ (codes " " ++ decimal m)) in
    let numbers = length-append (decimal n) (codes " " ++ decimal m) in
    let last = length-append (codes " ") (decimal m) in
    omega (arith, whole, numbers, last, few, fewer)

-- ---- refusals

-- A refusal without a fault has at most 19 bytes, a file's 27, and a bundle's 31.
abbrev FitsRefusal : Refusal → Type 0
FitsRefusal why = (length (refusal_text why) ≤ 31)
    × (CanAnswerSingle (Reply (reply.Refused why)) → length (refusal_text why) ≤ 27)

plain_refusal : (n : ℕ) (name : List ℕ) → n ≤ 255 → length name ≤ 15
    → (length (decimal n ++ (codes " " ++ name)) ≤ 31) × (Unit {0} → length (decimal n ++ (codes " " ++ name)) ≤ 27)
plain_refusal n name small short =
    let few = digits_of_8_bits n small in
    let whole = length-append (decimal n) (codes " " ++ name) in
    let rest = length-append (codes " ") name in
    (omega (arith, few, whole, rest, short), λ _. omega (arith, few, whole, rest, short))

fault_fits : (word : List ℕ) (f : FileFault) → IsFaultValue f
    → length (word ++ (decimal f.fault ++ (codes " " ++ decimal f.at))) ≤ length word + 14
fault_fits word f is = word_and_numbers word f.fault f.at 3 10 (digits_of_8_bits f.fault is.0)
    (digits_of_32_bits f.at is.1)

refusal_fits : (why : Refusal) → IsFaultValue (fault_of why) → FitsRefusal why
refusal_fits no.OutsidePayload is = plain_refusal 22 (codes "OutsidePayload") (omega arith) (omega arith)
refusal_fits no.Clash is = plain_refusal 23 (codes "Clash") (omega arith) (omega arith)
refusal_fits no.NoMultiplexor is = plain_refusal 24 (codes "NoMultiplexor") (omega arith) (omega arith)
refusal_fits no.TwoMultiplexors is = plain_refusal 25 (codes "TwoMultiplexors") (omega arith) (omega arith)
refusal_fits no.TooMany is = plain_refusal 26 (codes "TooMany") (omega arith) (omega arith)
refusal_fits no.NoNet is = plain_refusal 40 (codes "NoNet") (omega arith) (omega arith)
refusal_fits no.NetThere is = plain_refusal 41 (codes "NetThere") (omega arith) (omega arith)
refusal_fits no.NotOffice is = plain_refusal 42 (codes "NotOffice") (omega arith) (omega arith)
refusal_fits no.NoNode is = plain_refusal 43 (codes "NoNode") (omega arith) (omega arith)
refusal_fits no.NoMessage is = plain_refusal 44 (codes "NoMessage") (omega arith) (omega arith)
refusal_fits no.NoSignal is = plain_refusal 45 (codes "NoSignal") (omega arith) (omega arith)
refusal_fits no.BlockTaken is = plain_refusal 46 (codes "BlockTaken") (omega arith) (omega arith)
refusal_fits no.NoBlock is = plain_refusal 47 (codes "NoBlock") (omega arith) (omega arith)
refusal_fits no.BlockFull is = plain_refusal 48 (codes "BlockFull") (omega arith) (omega arith)
refusal_fits no.OutsideBlock is = plain_refusal 49 (codes "OutsideBlock") (omega arith) (omega arith)
refusal_fits no.NameTaken is = plain_refusal 50 (codes "NameTaken") (omega arith) (omega arith)
refusal_fits no.IdentTaken is = plain_refusal 51 (codes "IdentTaken") (omega arith) (omega arith)
refusal_fits no.Held is = plain_refusal 52 (codes "Held") (omega arith) (omega arith)
refusal_fits no.NotOwner is = plain_refusal 53 (codes "NotOwner") (omega arith) (omega arith)
refusal_fits no.InReview is = plain_refusal 54 (codes "InReview") (omega arith) (omega arith)
refusal_fits no.NotInReview is = plain_refusal 55 (codes "NotInReview") (omega arith) (omega arith)
refusal_fits no.OwnReview is = plain_refusal 56 (codes "OwnReview") (omega arith) (omega arith)
refusal_fits no.NeedsMore is = plain_refusal 57 (codes "NeedsMore") (omega arith) (omega arith)
refusal_fits (no.FileFault f) is = let fits = fault_fits (codes "58 FileFault ") f is in
    (omega (arith, fits), λ _. omega (arith, fits))
refusal_fits no.NoSpn is = plain_refusal 59 (codes "NoSpn") (omega arith) (omega arith)
refusal_fits no.NoRoom is = plain_refusal 60 (codes "NoRoom") (omega arith) (omega arith)
refusal_fits no.NotJ1939 is = plain_refusal 61 (codes "NotJ1939") (omega arith) (omega arith)
refusal_fits (no.BundleRefused f) is = let fits = fault_fits (codes "62 BundleRefused ") f is in
    (omega (arith, fits), λ never. absurd never)

-- ---- bundles

part_fits : (p : PartReply) → IsPartValue p → length (part_text p) ≤ 18
part_fits part.Done is = omega arith
part_fits (part.Number n) is = let fits = word_and_number (codes "number ") n 10 (digits_of_32_bits n is) in
    omega (arith, fits)
part_fits (part.Start n) is = let fits = word_and_number (codes "start ") n 5 (digits_of_16_bits n is) in
    omega (arith, fits)
part_fits (part.Release n) is = let fits = word_and_number (codes "release ") n 10 (digits_of_32_bits n is) in
    omega (arith, fits)

later_part_fits : (p : PartReply) → IsPartValue p → length (codes "; " ++ part_text p) ≤ 20
later_part_fits p is = let fits = part_fits p is in let both = length-append (codes "; ") (part_text p) in
    omega (arith, fits, both)

later_fit : (ps : List PartReply) → All IsPartValue ps → length (later_text ps) ≤ length ps * 20
later_fit ps are =
    let each = All-weaker IsPartValue (λ p. length (codes "; " ++ part_text p) ≤ 20) later_part_fits ps are in
    let sum = length-flat_map (λ p. codes "; " ++ part_text p) ps in
    let fits = sum_by-le (λ p. length (codes "; " ++ part_text p)) 20 ps each in
    omega (arith, sum, fits)

bundle_fits : (ps : List PartReply) → All IsPartValue ps
    → length (reply_text (reply.Bundle ps)) + 1 ≤ longest_bundle (length ps)
bundle_fits [] are = omega arith
bundle_fits (p ∷ ps) are =
    let first = part_fits p (All-head IsPartValue p ps are) in
    let later = later_fit ps (All-tail IsPartValue p ps are) in
    let whole = length-append (codes "bundle") (codes " " ++ (part_text p ++ later_text ps)) in
    let parts = length-append (codes " ") (part_text p ++ later_text ps) in
    let both = length-append (part_text p) (later_text ps) in
    omega (arith, first, later, whole, parts, both)

-- ---- answers

-- those of a command alone
single_fits : (answer : Answer) → IsAnswerValue answer → CanAnswerSingle answer
    → length (answer_text answer) + 1 ≤ longest_single
single_fits (Reply reply.Done) is can = omega arith
single_fits (Reply (reply.Number n)) is can = let fits =
    word_and_number (codes "number ") n 10 (digits_of_32_bits n is) in omega (arith, fits)
single_fits (Reply (reply.Start n)) is can = let fits = word_and_number (codes "start ") n 5 (digits_of_16_bits n is) in
    omega (arith, fits)
single_fits (Reply (reply.Counts new same)) is can =
    let fits = word_and_numbers (codes "counts ") new same 10 10 (digits_of_32_bits new is.0)
    (digits_of_32_bits same is.1) in
    omega (arith, fits)
single_fits (Reply (reply.Release n)) is can = let fits =
    word_and_number (codes "release ") n 10 (digits_of_32_bits n is) in omega (arith, fits)
single_fits (Reply (reply.Refused why)) is can =
    let fits = (refusal_fits why is).1 can in let both = length-append (codes "refused ") (refusal_text why) in
    omega (arith, fits, both)
single_fits (Reply (reply.Bundle ps)) is can = absurd can
single_fits KeyReused is can = omega arith

abbrev longest_of_bundle : ℕ → ℕ
longest_of_bundle count = max (longest_bundle count) longest_refused_bundle

-- those that are no longer than the refusal of a bundle
short_fits : (count bytes : ℕ) → bytes ≤ longest_refused_bundle → bytes ≤ longest_of_bundle count
short_fits count bytes short = let fits = le-max_right (longest_bundle count) longest_refused_bundle in
    omega (arith, short, fits)

bundle_line_fits : (count : ℕ) (answer : Answer) → IsAnswerValue answer → CanAnswerBundle count answer
    → length (answer_text answer) + 1 ≤ longest_of_bundle count
bundle_line_fits count (Reply (reply.Bundle ps)) is can =
    let fits = bundle_fits ps is in let longest = le-max_left (longest_bundle (length ps)) longest_refused_bundle in
    subst (λ k. length (reply_text (reply.Bundle ps)) + 1 ≤ longest_of_bundle k) can (omega (arith, fits, longest))
bundle_line_fits count (Reply (reply.Refused why)) is can =
    let fits = (refusal_fits why is).0 in let both = length-append (codes "refused ") (refusal_text why) in
    short_fits count _ (omega (arith, fits, both))
bundle_line_fits count (Reply reply.Done) is can = short_fits count _ (omega arith)
bundle_line_fits count (Reply (reply.Number n)) is can = let fits = single_fits (Reply (reply.Number n)) is tt in
    short_fits count _ (omega (arith, fits))
bundle_line_fits count (Reply (reply.Start n)) is can = let fits = single_fits (Reply (reply.Start n)) is tt in
    short_fits count _ (omega (arith, fits))
bundle_line_fits count (Reply (reply.Counts new same)) is can = let fits =
    single_fits (Reply (reply.Counts new same)) is tt in short_fits count _ (omega (arith, fits))
bundle_line_fits count (Reply (reply.Release n)) is can = let fits = single_fits (Reply (reply.Release n)) is tt in
    short_fits count _ (omega (arith, fits))
bundle_line_fits count KeyReused is can = short_fits count _ (omega arith)

with_newline : (text : List ℕ) (bytes : ℕ) → length text + 1 ≤ bytes → length (text ++ codes "\n") ≤ bytes
with_newline text bytes fits = let both = length-append text (codes "\n") in omega (arith, both, fits)

line_fits : (task : Task) (answer : Answer) → IsAnswerValue answer → CanAnswer task answer
    → length (answer_line answer) ≤ longest_line task
line_fits (Act a) answer is can = with_newline _ _ (single_fits answer is can)
line_fits (Import file) answer is can = with_newline _ _ (single_fits answer is can)
line_fits (Bundle parts) answer is can = with_newline _ _ (bundle_line_fits (length parts) answer is can)

lines_fit : (arrivals : List Arrival) (answers : List Answer) → All IsAnswerValue answers
    → AllZip (λ a answer. CanAnswer a.request.command.task answer) (take (length answers) arrivals) answers
    → length (answer_lines answers) ≤ room_for arrivals
lines_fit arrivals [] are can = omega arith
lines_fit [] (y ∷ ys) are can = absurd can
lines_fit (x ∷ xs) (y ∷ ys) are can =
    let here = line_fits x.request.command.task y (All-head IsAnswerValue y ys are) can.0 in
    let rest = lines_fit xs ys (All-tail IsAnswerValue y ys are) can.1 in
    let both = length-append (answer_line y) (answer_lines ys) in
    let room = sum_by-cons (λ (a : Arrival). longest_line a.request.command.task) x xs in
    omega (arith, here, rest, both, room)

-- ---- echoes

parts_fit : (key net : List ℕ) (parts : List Action) (rs : List PartReply) → All IsPartValue rs
    → length (part_lines key net parts rs) ≤ length (longest_parts key net parts)
parts_fit key net [] rs are = omega arith
parts_fit key net (p ∷ ps) [] are = omega arith
parts_fit key net (p ∷ ps) (r ∷ rs) are =
    let head = action_heading key net p in
    let here = part_fits r (All-head IsPartValue r rs are) in
    let rest = parts_fit key net ps rs (All-tail IsPartValue r rs are) in
    let line = length-append head (part_text r ++ (codes "\n" ++ part_lines key net ps rs)) in
    let answer = length-append (part_text r) (codes "\n" ++ part_lines key net ps rs) in
    let end = length-append (codes "\n") (part_lines key net ps rs) in
    let room = length-append (longest_part key net p) (longest_parts key net ps) in
    let longest = length-append head (codes "release 4294967295\n") in
    omega (arith, here, rest, line, answer, end, room, longest)

-- a line that is no longer than the longest refusal, after a heading
headed : (key : List ℕ) (c : Command) (answer : Answer) → length (answer_line answer) ≤ longest_refused_bundle
    → length (whole_echo key c answer) ≤ length (longest_echo key c)
headed key c answer fits =
    let head = task_heading key c.net c.task in
    let line = length-append head (answer_line answer) in
    let room = length-append head longest_refusal in
    let whole = length-append (longest_parts key c.net (parts_of c.task)) (head ++ longest_refusal) in
    omega (arith, fits, line, room, whole)

short : (answer : Answer) → length (answer_text answer) + 1 ≤ longest_refused_bundle
    → length (answer_line answer) ≤ longest_refused_bundle
short answer fits = with_newline (answer_text answer) longest_refused_bundle fits

bundle_echo_fits : (key : List ℕ) (c : Command) (task : Task) (rs : List PartReply) → task ≡ c.task
    → All IsPartValue rs → CanAnswer task (Reply (reply.Bundle rs))
    → length (bundle_echo key c task rs) ≤ length (longest_echo key c)
bundle_echo_fits key c (Act a) rs same are can = absurd can
bundle_echo_fits key c (Import file) rs same are can = absurd can
bundle_echo_fits key c (Bundle parts) rs same are can =
    let fits = parts_fit key c.net parts rs are in
    let room = length-append (longest_parts key c.net parts)
    (task_heading key c.net (Bundle parts) ++ longest_refusal) in
    let longer : length (part_lines key c.net parts rs)
    ≤ length (longest_parts key c.net (parts_of (Bundle parts))
    ++ (task_heading key c.net (Bundle parts) ++ longest_refusal)) = omega (arith, fits, room) in
    subst (λ t. length (part_lines key c.net parts rs)
    ≤ length (longest_parts key c.net (parts_of t) ++ (task_heading key c.net t ++ longest_refusal))) same longer

echo_fits : (a : Arrival) (answer : Answer) → IsAnswerValue answer → CanAnswer a.request.command.task answer
    → length (echo_lines a answer) ≤ length (longest_echo a.key a.request.command)
echo_fits a (Reply (reply.Bundle rs)) are can =
    bundle_echo_fits a.key a.request.command a.request.command.task rs refl are can
echo_fits a (Reply (reply.Refused why)) is can =
    let fits = (refusal_fits why is).0 in
    let both = length-append (codes "refused ") (refusal_text why) in
    headed a.key a.request.command (Reply (reply.Refused why))
    (short (Reply (reply.Refused why)) (omega (arith, fits, both)))
echo_fits a (Reply reply.Done) is can = headed a.key a.request.command (Reply reply.Done) (omega arith)
echo_fits a (Reply (reply.Number n)) is can = let fits = single_fits (Reply (reply.Number n)) is tt in
    headed a.key a.request.command (Reply (reply.Number n)) (short (Reply (reply.Number n)) (omega (arith, fits)))
echo_fits a (Reply (reply.Start n)) is can = let fits = single_fits (Reply (reply.Start n)) is tt in
    headed a.key a.request.command (Reply (reply.Start n)) (short (Reply (reply.Start n)) (omega (arith, fits)))
echo_fits a (Reply (reply.Counts new same)) is can = let fits = single_fits (Reply (reply.Counts new same)) is tt in
    headed a.key a.request.command (Reply (reply.Counts new same))
    (short (Reply (reply.Counts new same)) (omega (arith, fits)))
echo_fits a (Reply (reply.Release n)) is can = let fits = single_fits (Reply (reply.Release n)) is tt in
    headed a.key a.request.command (Reply (reply.Release n)) (short (Reply (reply.Release n)) (omega (arith, fits)))
echo_fits a KeyReused is can = headed a.key a.request.command KeyReused (omega arith)

echoes_fit : (arrivals : List Arrival) (answers : List Answer) → All IsAnswerValue answers
    → AllZip (λ a answer. CanAnswer a.request.command.task answer) (take (length answers) arrivals) answers
    → length (echoes arrivals answers) ≤ length (longest_echoes arrivals)
echoes_fit [] answers are can = omega arith
echoes_fit (x ∷ xs) [] are can = omega arith
echoes_fit (x ∷ xs) (y ∷ ys) are can =
    let here = echo_fits x y (All-head IsAnswerValue y ys are) can.0 in
    let rest = echoes_fit xs ys (All-tail IsAnswerValue y ys are) can.1 in
    let both = length-append (echo_lines x y) (echoes xs ys) in
    let room = length-append (longest_echo x.key x.request.command) (longest_echoes xs) in
    omega (arith, here, rest, both, room)

pub answers_fit : AnswersFit
answers_fit = record { can = step_can_answer; line = line_fits; lines = lines_fit; echoes = echoes_fit }
