-- Worked examples, computed from the definitions: repeats after the office has moved on, a file under both profiles,
-- releases that stay, suspect parameter numbers that are given, and arrivals on two networks.
use Rattle.office_history.proofs.Common.{◌≡◌, ℕ, true, false, List, [], ◌∷◌, ◌++◌, filter, map, Some, None, IfSome}
use Rattle.office_history.proofs.Common.{arith, refl, false≢true, bytes_eq-Decides, Import, Done, Number, Refused}
use Rattle.office_history.proofs.Common.{Office, reply_of, FileReading, Profile, IsRead, Step, file_wanted, net_named}
use Rattle.office_history.proofs.Common.{office_after, opening, step_outcome, needs_book}
use Rattle.std.proofs.Common.{take}
use Rattle.std.specs.Prelude.{codes}
use Rattle.std.proofs.lemmas.List.Elements.{All-from_recursion}
use Rattle.bitlayout.specs.Bits.{walk, shares_bit, is_inside}
use Rattle.bitlayout.specs.Clash.{clash_after}
use Rattle.bitlayout.specs.First.{first_answer}
use Rattle.dbc_sheet.specs.Messages.{number_of}
use Rattle.office_types.specs.declared.block.BlockForm.TheVariants as block
use Rattle.office_types.specs.declared.command.Action.TheVariants as act
use Rattle.office_types.specs.declared.command.NetKind.TheVariants.{Can}
use Rattle.office_types.specs.declared.refusal.Refusal.TheVariants.{BlockFull, FileFault}
use Rattle.office_types.specs.declared.reply.Reply.TheVariants.{Counts}
use Rattle.office_rules.specs.Importing.{Reading, Unreadable}
use Rattle.office_rules.specs.Profile.{One, Two}
use Rattle.office_rules.proofs.ProfileRows.{long_file, of_length, read_today, unread_before}
use Rattle.office_rules.proofs.TeamCommand.{Requested, requests, bus, engine, grants, left_by, office, on_bus, opens}
use Rattle.office_rules.proofs.TeamCommand.{takes, takes_spn, truck}
use Rattle.office_history.specs.declared.arrival.Answer.{Answer}
use Rattle.office_history.specs.declared.arrival.Answer.TheVariants as answer
use Rattle.office_history.specs.declared.arrival.Answer.TheVariants.{KeyReused}
use Rattle.office_history.specs.History.{Answered, IsAnsweredAs, IsLegal, IsLegalHistory, first_arrivals, first_of}
use Rattle.office_history.specs.Laws.{HaveOneNetwork, is_on, new_spns}

abbrev answered_under : Profile → Requested → List ℕ → List ℕ → Answer → Answered
answered_under profile q key content answer =
    record { profile = profile; team = q.team; key = key; content = content; command = q.command; answer = answer }

abbrev answered : Requested → List ℕ → List ℕ → Answer → Answered
answered q key content answer = answered_under Two q key content answer

abbrev take_1 : Requested
take_1 = takes engine (codes "E1") None

abbrev retire_1 : Requested
retire_1 = requests engine (act.Retire (codes "E1"))

abbrev take_2 : Requested
take_2 = takes engine (codes "E2") None

-- the number that was given out is free again when the request for it is repeated; then its key is used for another one
abbrev pub moved_on : List Answered
moved_on =
    answered (opens Can 0) (codes "o1") (codes "open_net") (answer.Reply Done)
    ∷ answered (grants engine block.Std 256 258) (codes "o2") (codes "grant") (answer.Reply Done)
    ∷ answered take_1 (codes "a1") (codes "take E1") (answer.Reply (Number 256))
    ∷ answered retire_1 (codes "a2") (codes "retire E1") (answer.Reply Done)
    ∷ answered take_2 (codes "a3") (codes "take E2") (answer.Reply (Number 256))
    ∷ answered take_1 (codes "a1") (codes "take E1") (answer.Reply (Number 256))
    ∷ answered take_2 (codes "a1") (codes "take E2") KeyReused ∷ []

abbrev requested_first : List Requested
requested_first = opens Can 0 ∷ grants engine block.Std 256 258 ∷ take_1 ∷ retire_1 ∷ take_2 ∷ []

the_first : first_arrivals moved_on ≡ take 5 moved_on
the_first = refl

step_under : (profile : Profile) (o : Office) (q : Requested)
    → IsRead profile (file_wanted (net_named o q.command.net) q.command.task) q.reading
    → Step profile o q.team q.command (reply_of (step_outcome o q.team q.reading q.command))
    (office_after o (step_outcome o q.team q.reading q.command))
step_under profile o q read = record { reading = q.reading; read = read; answered = refl; left = refl }

step_of : (o : Office) (q : Requested) → IsRead Two (file_wanted (net_named o q.command.net) q.command.task) q.reading
    → Step Two o q.team q.command (reply_of (step_outcome o q.team q.reading q.command))
    (office_after o (step_outcome o q.team q.reading q.command))
step_of o q read = step_under Two o q read

abbrev pub after : ℕ → Office
after n = left_by opening (take n requested_first)

pub it_is_legal : IsLegal moved_on (after 5)
it_is_legal = record {
  replies = Done ∷ Done ∷ Number 256 ∷ Done ∷ Number 256 ∷ [];
  replied = refl;
  run = (
    after 1,
    step_of opening (opens Can 0) (tt {0}),
    (
      after 2,
      step_of (after 1) (grants engine block.Std 256 258) (tt {0}),
      (
        after 3,
        step_of (after 2) take_1 (tt {0}),
        (after 4, step_of (after 3) retire_1 (tt {0}), (after 5, step_of (after 4) take_2 (tt {0}), refl)),
      ),
    ),
  );
  again = All-from_recursion (λ a. IfSome (first_of moved_on a) (IsAnsweredAs a)) moved_on
      (refl, (refl, (refl, (refl, (refl, (refl, (refl, tt {0})))))));
}

-- A file with a message of 100 bytes is refused under the first profile. Its request is answered so again when it is
-- repeated under the second one, where another request for the same file is carried out.

abbrev brings : FileReading → Requested
brings reading = record { team = office; reading = reading; command = record { net = truck; task = Import long_file } }

abbrev brings_before : Requested
brings_before = brings (Unreadable (record { fault = 38; at = 11 }))

abbrev brings_today : Requested
brings_today = brings (Reading (of_length 100))

abbrev too_long : Answer
too_long = answer.Reply (Refused (FileFault (record { fault = 38; at = 11 })))

abbrev under_both : List Answered
under_both =
    answered_under One (opens Can 0) (codes "o1") (codes "open_net") (answer.Reply Done)
    ∷ answered_under One brings_before (codes "g1") (codes "import") too_long
    ∷ answered_under Two brings_today (codes "g1") (codes "import") too_long
    ∷ answered_under Two brings_today (codes "g2") (codes "import") (answer.Reply (Counts 1 0)) ∷ []

abbrev opened : Office
opened = left_by opening (opens Can 0 ∷ [])

abbrev imported : Office
imported = left_by opened (brings_today ∷ [])

it_is_legal_under_both : IsLegal under_both imported
unfolding walk shares_bit is_inside clash_after first_answer
it_is_legal_under_both = record {
  replies = Done ∷ Refused (FileFault (record { fault = 38; at = 11 })) ∷ Counts 1 0 ∷ [];
  replied = refl;
  run = (
    opened,
    step_under One opening (opens Can 0) (tt {0}),
    (
      opened,
      step_under One opened brings_before unread_before,
      (imported, step_under Two opened brings_today read_today, refl),
    ),
  );
  again = All-from_recursion (λ a. IfSome (first_of under_both a) (IsAnsweredAs a)) under_both
      (refl, (refl, (refl, (refl, tt {0}))));
}

-- A second release comes after the first one, which still has the message that is retired by then.

abbrev released : List Requested
released = opens Can 0 ∷ grants engine block.Std 256 258 ∷ take_1 ∷ requests engine act.Submit
    ∷ requests office act.Release ∷ []

abbrev released_again : List Requested
released_again = released ++ retire_1 ∷ take_2 ∷ requests engine act.Submit ∷ requests office act.Release ∷ []

-- the names of the messages in each release
abbrev names_released : List Requested → List (List (List ℕ))
names_released qs = elim (net_named (left_by opening qs) truck)
    [ None ↦ [] | Some net ↦ map (λ s. map (λ m. m.name) s.messages) net.releases ]

it_stays : (names_released released ≡ (codes "E1" ∷ []) ∷ [])
    × (names_released released_again ≡ (codes "E1" ∷ []) ∷ (codes "E2" ∷ []) ∷ [])
it_stays = (refl, refl)

-- the number that was released with one name isn't given to a message of another one, though it is retired
abbrev numbers_released : List Requested → List (List ℕ)
numbers_released qs = elim (net_named (left_by opening qs) truck)
    [ None ↦ [] | Some net ↦ map (λ s. map number_of s.messages) net.releases ]

its_number_stays : numbers_released released_again ≡ (256 ∷ []) ∷ (257 ∷ []) ∷ []
its_number_stays = refl

-- Two numbers are given; what is shared, refused or repeated gives none.

abbrev spns_requested : List Answered
spns_requested =
    answered (grants engine block.Spn 500 501) (codes "s1") (codes "grant") (answer.Reply Done)
    ∷ answered (takes_spn (codes "P") None) (codes "s2") (codes "P") (answer.Reply (Number 500))
    ∷ answered (takes_spn (codes "Q") None) (codes "s3") (codes "Q") (answer.Reply (Number 501))
    ∷ answered (takes_spn (codes "R") None) (codes "s4") (codes "R") (answer.Reply (Refused BlockFull))
    ∷ answered (takes_spn (codes "R") (Some 500)) (codes "s5") (codes "R 500") (answer.Reply (Number 500))
    ∷ answered (takes_spn (codes "P") None) (codes "s2") (codes "P") (answer.Reply (Number 500)) ∷ []

each_number_once : new_spns spns_requested ≡ 500 ∷ 501 ∷ []
each_number_once = refl

-- Arrivals on another network don't count on this one.

abbrev on_other : Answered
on_other = answered (on_bus (opens Can 0)) (codes "o9") (codes "open_net bus") (answer.Reply Done)

on_this_network : filter (is_on truck) (on_other ∷ moved_on) ≡ moved_on
on_this_network = refl

spns_ask_the_book : (needs_book (takes_spn (codes "P") None).command.task ≡ true)
    × (needs_book (grants engine block.Std 256 258).command.task ≡ false)
spns_ask_the_book = (refl, refl)

-- The law that networks are apart wants that no pair of team and key names two networks: without that it would be
-- false. Under the key that opened the other network no answer opens this one.

abbrev AnswersAreApartUnderAnyKeys : Type 0
AnswersAreApartUnderAnyKeys = (h g : List Answered) (a : Answered) → needs_book a.command.task ≡ false
    → filter (is_on a.command.net) h ≡ filter (is_on a.command.net) g → IsLegalHistory (h ++ a ∷ []) → IsLegalHistory g
    → IsLegalHistory (g ++ a ∷ [])

abbrev first_this : Answered
first_this = answered (opens Can 0) (codes "o1") (codes "open_net truck") (answer.Reply Done)

abbrev first_other : Answered
first_other = answered (on_bus (opens Can 0)) (codes "o1") (codes "open_net bus") (answer.Reply Done)

one_key_for_both : HaveOneNetwork (first_this ∷ first_other ∷ []) → ⊥
one_key_for_both one = false≢true ((bytes_eq-Decides truck bus).1 (one 0 1 first_this (omega arith) (omega arith) refl))

opens_this : IsLegalHistory (first_this ∷ [])
opens_this = (
  left_by opening (opens Can 0 ∷ []),
  record {
    replies = Done ∷ [];
    replied = refl;
    run = (left_by opening (opens Can 0 ∷ []), step_of opening (opens Can 0) (tt {0}), refl);
    again = All-from_recursion (λ a. IfSome (first_of (first_this ∷ []) a) (IsAnsweredAs a)) (first_this ∷ [])
        (refl, tt {0});
  },
)

opens_other : IsLegalHistory (first_other ∷ [])
opens_other = (
  left_by opening (on_bus (opens Can 0) ∷ []),
  record {
    replies = Done ∷ [];
    replied = refl;
    run = (left_by opening (on_bus (opens Can 0) ∷ []), step_of opening (on_bus (opens Can 0)) (tt {0}), refl);
    again = All-from_recursion (λ a. IfSome (first_of (first_other ∷ []) a) (IsAnsweredAs a)) (first_other ∷ [])
        (refl, tt {0});
  },
)

keys_matter : AnswersAreApartUnderAnyKeys → ⊥
keys_matter law =
    let both = law [] (first_other ∷ []) first_this refl refl opens_this opens_other in
    let repeated : ◌≡◌ {A = Answer} (answer.Reply Done) KeyReused = both.1.again 1 first_this (omega arith) in
    cc
