-- The lists of requests computed.
use Rattle.office_looks.proofs.Common.{◌≡◌, ℕ, List, [], ◌∷◌, ◌++◌, codes, map, refl, arith, flat_map, Lines}
use Rattle.office_looks.proofs.Common.{table_text}
use Rattle.std.specs.Fmt.{digits}
use Rattle.std.specs.List.Sorted.{IsStrictlySortedBy}
use Rattle.std.proofs.lemmas.List.Elements.{All-from_recursion}
use Rattle.std.proofs.lemmas.List.Sorted.{IsPermutation-refl}
use Rattle.office_types.specs.declared.command.Action.TheVariants as act
use Rattle.office_types.specs.declared.command.Command.{Command}
use Rattle.office_types.specs.declared.command.Task.TheVariants.{Act}
use Rattle.office_types.specs.declared.refusal.Refusal.TheVariants as no
use Rattle.office_types.specs.declared.reply.PartReply.TheVariants as part
use Rattle.office_types.specs.declared.reply.Reply.{Reply}
use Rattle.office_types.specs.declared.reply.Reply.TheVariants.{Done, Refused, Bundle}
use Rattle.office_rules.specs.Profile.{Two}
use Rattle.office_history.specs.declared.arrival.Answer.{Answer}
use Rattle.office_history.specs.declared.arrival.Answer.TheVariants as answer
use Rattle.office_history.specs.History.{Answered}
use Rattle.office_looks.specs.Requests.{IsReplied, IsRequestsText, asked, asked_of, content_front, has_more}
use Rattle.office_looks.specs.Requests.{requests_table}
use Rattle.rows.specs.Fact.{of_front}
use Rattle.rows.specs.Lines.{fact_text}

-- the lines of one request, and the last one
abbrev lines_of : List ℕ → List ℕ → Reply → List ℕ
lines_of key content reply = table_text (requests_table (asked key content reply ∷ []))

bundle : lines_of (codes "drivercard")
    (codes "bundle net=truck file=examples/truck/tachograph/DriverCard.txt\ntake_pgn name=DriverCard")
    (Bundle (part.Number 65330 ∷ part.Start 0 ∷ part.Done ∷ []))
    ≡ codes "drivercard               bundle 3                 <- bundle net=truck file=examples/truck/tachograph/DriverCard.txt ..\n"
    ++ (codes "drivercard               number 65330             <- command 1\n"
    ++ (codes "drivercard               start 0                  <- command 2\n"
    ++ (codes "drivercard               done                     <- command 3\n"
    ++ codes "requests 1 refused 0\n")))
unfolding digits
bundle = refl

refused : lines_of (codes "x5") (codes "take_bits net=coach message=ECM_Oil signal=OilX start=60") (Refused no.OutsidePayload)
    ≡ codes "x5                       refused 22 OutsidePayload <- take_bits net=coach message=ECM_Oil signal=OilX start=60\n"
    ++ codes "requests 1 refused 1\n"
unfolding digits
refused = refl

-- a key with a comma, and one that is wider than its columns
keys : map (λ key. lines_of key (codes "submit net=coach") Done)
    (codes "a,b" ∷ codes "0123456789-123456789-123456789-1" ∷ [])
    ≡ codes "a%2cb                    done                     <- submit net=coach\nrequests 1 refused 0\n"
    ∷ codes "0123456789-123456789-123456789-1 done                     <- submit net=coach\nrequests 1 refused 0\n" ∷ []
unfolding digits
keys = refl

-- nothing, a first line of nothing, bytes that are not shown as they are
contents : map (λ content. fact_text (of_front (content_front content) (has_more content)))
    ([] ∷ codes "\nsubmit" ∷ codes "-" ∷ (65 ∷ 0 ∷ 176 ∷ codes " %, ") ∷ codes "submit\n" ∷ [])
    ≡ codes "-" ∷ codes "- .." ∷ codes "%2d" ∷ codes "A%00%b0 %25, " ∷ codes "submit .." ∷ []
unfolding digits
contents = refl

-- ---- the requests of a team

abbrev asks : Command
asks = record { net = codes "bus"; task = Act act.Submit }

abbrev answered : List ℕ → List ℕ → Answer → Answered
answered team key answer =
    record { profile = Two; team = team; key = key; content = codes "submit net=bus"; command = asks; answer = answer }

abbrev done : Answered
done = answered (codes "engine") (codes "s2") (answer.Reply Done)

abbrev not_done : Answered
not_done = answered (codes "engine") (codes "s10") (answer.Reply (Refused no.InReview))

-- one of another team, and a repeat
abbrev history : List Answered
history = done ∷ answered (codes "brakes") (codes "s1") (answer.Reply (Refused no.InReview)) ∷ not_done ∷ done ∷ []

of_engine : IsRequestsText (codes "engine") history Lines
    (codes "s10                      refused 54 InReview      <- submit net=bus\n"
    ++ codes "s2                       done                     <- submit net=bus\n"
    ++ codes "requests 2 refused 1\n")
unfolding digits IsStrictlySortedBy
of_engine = (
  flat_map asked_of (not_done ∷ done ∷ []),
  record {
    listed = not_done ∷ done ∷ [];
    same = record { moves = (0, 1) ∷ []; below = (omega arith, omega arith, tt); is = refl };
    ascending = ((refl, tt), (tt, tt));
    replied = All-from_recursion IsReplied (not_done ∷ done ∷ []) ((Refused no.InReview, refl), ((Done, refl), tt));
    are = refl;
  },
  refl,
)

of_nobody : IsRequestsText (codes "lights") history Lines (codes "requests 0 refused 0\n")
unfolding digits IsStrictlySortedBy
of_nobody = (
  [],
  record {
    listed = [];
    same = IsPermutation-refl [];
    ascending = tt;
    replied = All-from_recursion IsReplied [] tt;
    are = refl;
  },
  refl,
)
