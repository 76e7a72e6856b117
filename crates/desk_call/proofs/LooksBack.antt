-- What is read at the target of a look is that look.
use Rattle.desk_call.proofs.Common.{◌≡◌, ◌≤◌, ◌<◌, ◌^◌, ◌&&◌, ℕ, true, List, ◌∷◌, ◌++◌, length, Some, ◌∙◌, Bool, false}
use Rattle.desk_call.proofs.Common.{map, ap, codes, refl, arith, nat_le, decimal, list_all, nat_tests, RequestHead}
use Rattle.desk_call.proofs.Common.{name_and_value, Lines, word_of}
use Rattle.office_types.specs.Overview.{of_all_teams, overview_word}
use Rattle.office_types.specs.PlainName.{IsPlainName}
use Rattle.office_types.specs.declared.look.Look.{Look}
use Rattle.office_types.specs.declared.look.Look.TheVariants as look
use Rattle.office_types.specs.Look.{formed}
use Rattle.office_types.specs.declared.look.NetLook.{NetLook}
use Rattle.office_types.specs.declared.look.NetLook.TheVariants as of_net
use Rattle.office_rules.specs.Reviewing.{release_limit}
use Rattle.desk_head.specs.Asked.{IsLook, IsNetLook, net_showing, net_target, part_of, showing_of, target_of}
use Rattle.desk_head.specs.Demand.{demand_of}
use Rattle.desk_head.specs.Target.{second_parameter, third_parameter}
use Rattle.desk_head.proofs.Leading.{targets_lead_there}
use Rattle.desk_head.proofs.Parameters.{first_alone, first_before, second_alone, second_before, third_alone}
use Rattle.desk_head.proofs.TargetParts.{IsPart, decimal_part, is_part_byte, name_part, plain_part, word_part}
use Rattle.desk_call.specs.Asked.{AreOfForm, CanBeAsked, CanBeAskedOfNet, LooksComeBack}
use Rattle.desk_call.specs.Call.{call_of, look_of, net_in, release_number, shows, wants_json}
use Rattle.desk_call.proofs.SoughtBack.{whole_decimal, word_back}

-- ---- parameters

-- a word of a route
a_word : (word : List ℕ) → 0 < length word → length word ≤ 128 → list_all is_part_byte word ≡ true → IsPart word
a_word word some short seen = record { some = some; short = short; seen = seen }

nets : IsPart (codes "nets")
nets = a_word (codes "nets") (omega arith) (omega arith) refl

-- the network, before what follows it
net_before : (net rest : List ℕ) → IsPlainName net → net_in (net_target net (47 ∷ rest)) ≡ Some net
net_before net rest is = rw (first_before (codes "nets") net rest nets (plain_part net is), is) refl

net_alone : (net : List ℕ) → IsPlainName net → net_in (codes "/nets/" ++ net) ≡ Some net
net_alone net is = rw (first_alone (codes "nets") net nets (plain_part net is), is) refl

-- the second parameter, after a word
after_word : (net word part : List ℕ) → IsPlainName net → IsPart word → IsPart part
    → second_parameter (net_target net (47 ∷ (word ++ (47 ∷ part)))) ≡ part
after_word net word part is word_is part_is =
    second_alone (codes "nets") net word part nets (plain_part net is) word_is part_is

between_words : (net word part rest : List ℕ) → IsPlainName net → IsPart word → IsPart part
    → second_parameter (net_target net (47 ∷ (word ++ (47 ∷ (part ++ (47 ∷ rest)))))) ≡ part
between_words net word part rest is word_is part_is =
    second_before (codes "nets") net word part rest nets (plain_part net is) word_is part_is

-- the third parameter, after a word and the second one
after_both : (net word part last : List ℕ) → IsPlainName net → IsPart word → IsPart part → IsPart last
    → third_parameter (net_target net (47 ∷ (word ++ (47 ∷ (part ++ (47 ∷ last)))))) ≡ last
after_both net word part last is word_is part_is last_is =
    third_alone (codes "nets") net word part last nets (plain_part net is) word_is part_is last_is

teams : IsPart (codes "teams")
teams = a_word (codes "teams") (omega arith) (omega arith) refl

messages : IsPart (codes "messages")
messages = a_word (codes "messages") (omega arith) (omega arith) refl

nodes : IsPart (codes "nodes")
nodes = a_word (codes "nodes") (omega arith) (omega arith) refl

who : IsPart (codes "who")
who = a_word (codes "who") (omega arith) (omega arith) refl

releases : IsPart (codes "releases")
releases = a_word (codes "releases") (omega arith) (omega arith) refl

compare : IsPart (codes "compare")
compare = a_word (codes "compare") (omega arith) (omega arith) refl

requests : IsPart (codes "requests")
requests = a_word (codes "requests") (omega arith) (omega arith) refl

-- ---- looks

release_back : (n : ℕ) → n < 2 ^ 32 → (1 ≤ n) × (n ≤ release_limit) → release_number (decimal n) ≡ Some n
release_back n small h =
    let fits : (nat_le 1 n && nat_le n release_limit) ≡ true = grind (arith, nat_tests, h.0, h.1) in
    rw (whole_decimal n small, fits) refl

net_back : (net : List ℕ) → IsPlainName net → (l : NetLook) → IsNetLook l → CanBeAskedOfNet l
    → look_of (net_showing l) (net_target net (part_of l)) ≡ Some (look.Net net l Lines)
net_back net is (of_net.Overview o) h can = rw (net_before net (overview_word o) is) refl
net_back net is (of_net.OfTeam o team) h can =
    rw (
      between_words net (codes "teams") team (overview_word (of_all_teams o)) is teams (plain_part team h),
      h,
      net_before net (codes "teams/" ++ (team ++ (codes "/" ++ overview_word (of_all_teams o)))) is,
    )
    refl
net_back net is (of_net.Message name) h can =
    rw (
      between_words net (codes "messages") name (codes "signals") is messages (name_part name h),
      h,
      net_before net (codes "messages/" ++ (name ++ codes "/signals")) is,
    )
    refl
net_back net is (of_net.Node name) h can =
    rw (
      after_word net (codes "nodes") name is nodes (name_part name h),
      h,
      net_before net (codes "nodes/" ++ name) is,
    )
    refl
net_back net is (of_net.Who wanted) h can =
    rw (
      after_word net (codes "who") (word_of wanted) is who (word_part wanted h),
      word_back wanted h can,
      net_before net (codes "who/" ++ word_of wanted) is,
    )
    refl
net_back net is (of_net.Compare old new) h can =
    rw (
      between_words net (codes "compare") (decimal old) (decimal new) is compare (decimal_part old h.0),
      whole_decimal old h.0,
      after_both net (codes "compare") (decimal old) (decimal new) is compare (decimal_part old h.0)
          (decimal_part new h.1),
      whole_decimal new h.1,
      net_before net (codes "compare/" ++ (decimal old ++ (codes "/" ++ decimal new))) is,
    )
    refl

reads_back : (l : Look) → IsLook l → CanBeAsked l → look_of (showing_of l) (target_of l) ≡ Some (formed false l)
reads_back look.Nets is can = refl
reads_back (look.Table net) is can = rw (net_alone net is) refl
reads_back (look.Live net) is can = rw (net_before net (codes "live") is) refl
reads_back (look.Release net n) is can =
    rw (
      net_before net (codes "releases/" ++ decimal n) is.0,
      after_word net (codes "releases") (decimal n) is.0 releases (decimal_part n is.1),
      release_back n is.1 can,
    )
    refl
reads_back (look.Chart net message) is can =
    rw (
      net_before net (codes "messages/" ++ message) is.0,
      after_word net (codes "messages") message is.0 messages (name_part message is.1),
      is.1,
    )
    refl
reads_back (look.Net net l form) is can = net_back net is.0 l is.1 can
reads_back (look.Page net) is can = rw (net_before net (codes "page") is) refl
reads_back (look.ReleasePage net n) is can =
    rw (
      net_before net (codes "releases/" ++ (decimal n ++ codes "/page")) is.0,
      between_words net (codes "releases") (decimal n) (codes "page") is.0 releases (decimal_part n is.1),
      release_back n is.1 can,
    )
    refl
reads_back (look.Requests team form) is can =
    rw (first_alone (codes "requests") team requests (plain_part team is), is) refl

-- whether JSON is wanted is said once
formed_twice : (json : Bool) (l : Look) → formed json (formed false l) ≡ formed json l
formed_twice json (look.Net net l form) = refl
formed_twice json (look.Requests team form) = refl
formed_twice json l = refl

gets_back : (h : RequestHead) (rest : List ℕ) (l : Look) → h.method ≡ codes "GET" → h.target ≡ target_of l
    → AreOfForm h l → IsLook l → CanBeAsked l → call_of h rest ≡ shows l
unfolding call_of demand_of
gets_back h rest l method target form is can =
    rw (target, targets_lead_there l is, method, reads_back l is can)
    (ap shows (formed_twice (wants_json (map name_and_value h.fields)) l ∙ form))

pub looks_come_back : LooksComeBack
looks_come_back = record { reads = reads_back; gets = gets_back }
