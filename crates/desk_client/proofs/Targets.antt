-- The target of a look can be asked for.
use Rattle.std.proofs.Common.{◌≡◌, ◌≤◌, ◌<◌, ◌^◌, ◌+◌, ℕ, true, List, ◌∷◌, ◌++◌, length, IsTrue, codes}
use Rattle.std.proofs.Common.{refl, arith, length-append}
use Rattle.std.specs.Char.{is_ascii_graphic}
use Rattle.std.specs.Fmt.{decimal}
use Rattle.std.specs.List.{list_all}
use Rattle.std.proofs.lemmas.Bool.Decides.{nat_tests}
use Rattle.std.proofs.lemmas.Fmt.{length-decimal-le}
use Rattle.std.proofs.lemmas.List.Folds.{list_all-append}
use Rattle.office_types.specs.Overview.{of_all_teams, overview_word}
use Rattle.office_types.specs.PlainName.{IsPlainName}
use Rattle.office_types.specs.declared.overview.Overview.{Overview}
use Rattle.office_types.specs.declared.overview.Overview.TheVariants as overview
use Rattle.office_types.specs.declared.look.Look.{Look}
use Rattle.office_types.specs.declared.look.Look.TheVariants as look
use Rattle.office_types.specs.declared.look.NetLook.{NetLook}
use Rattle.office_types.specs.declared.look.NetLook.TheVariants as of_net
use Rattle.desk_head.specs.Asked.{IsLook, IsNetLook, net_target, part_of, target_of, word_of}
use Rattle.desk_head.proofs.TargetParts.{IsPart, all_weaker, decimal_part, is_part_byte}
use Rattle.desk_head.proofs.TargetParts.{name_part, plain_part, word_part}
use Rattle.desk_client.specs.Request.{is_target}

-- visible ASCII, of at most so many bytes
record Fits (most : ℕ) (bytes : List ℕ) : Type 0 where
  few : length bytes ≤ most
  visible : list_all is_ascii_graphic bytes ≡ true

joined : (most m n : ℕ) (a b : List ℕ) → Fits m a → Fits n b → m + n ≤ most → Fits most (a ++ b)
joined most m n a b a_fits b_fits h = record {
  few = omega (arith, length-append a b, a_fits.few, b_fits.few, h);
  visible = rw (list_all-append is_ascii_graphic a b, a_fits.visible) b_fits.visible;
}

part_byte : (b : ℕ) → is_part_byte b ≡ true → is_ascii_graphic b ≡ true
part_byte b h = grind (arith, nat_tests, h)

of_part : (bytes : List ℕ) → IsPart bytes → Fits 128 bytes
of_part bytes is = record {
  few = is.short;
  visible = all_weaker is_part_byte is_ascii_graphic part_byte bytes is.seen;
}

asked : (bytes : List ℕ) → Fits 8000 (47 ∷ bytes) → IsTrue (is_target (47 ∷ bytes))
asked bytes fits = grind (arith, nat_tests, fits.few, fits.visible)

-- ---- words of targets, and parts after or between them

a_word : (word : List ℕ) → length word ≤ 20 → list_all is_ascii_graphic word ≡ true → Fits 20 word
a_word word few visible = record { few = few; visible = visible }

alone : (word : List ℕ) → length word ≤ 20 → list_all is_ascii_graphic word ≡ true → Fits 200 word
alone word few visible = record { few = omega (arith, few); visible = visible }

after : (word part : List ℕ) → Fits 20 word → IsPart part → Fits 200 (word ++ part)
after word part word_fits is = joined 200 20 128 word part word_fits (of_part part is) (omega arith)

between : (word part rest : List ℕ) → Fits 20 word → IsPart part → Fits 20 rest → Fits 200 (word ++ (part ++ rest))
between word part rest word_fits is rest_fits =
    joined 200 20 148 word (part ++ rest) word_fits
    (joined 148 128 20 part rest (of_part part is) rest_fits (omega arith)) (omega arith)

-- a number after a slash
slash_number : (n : ℕ) → n < 2 ^ 32 → Fits 20 (codes "/" ++ decimal n)
slash_number n h = record {
  few = omega (arith, length-decimal-le 10 n (omega arith) (omega (arith, h)));
  visible = (of_part (decimal n) (decimal_part n h)).visible;
}

teams : Fits 20 (codes "/teams/")
teams = a_word (codes "/teams/") (omega arith) refl

messages : Fits 20 (codes "/messages/")
messages = a_word (codes "/messages/") (omega arith) refl

overview_fits : (o : Overview) → Fits 20 (codes "/" ++ overview_word o)
overview_fits overview.State = a_word (codes "/state") (omega arith) refl
overview_fits o = a_word (codes "/" ++ overview_word o) (omega arith) refl

part_fits : (l : NetLook) → IsNetLook l → Fits 200 (part_of l)
part_fits (of_net.Overview o) h =
    record { few = omega (arith, (overview_fits o).few); visible = (overview_fits o).visible }
part_fits (of_net.OfTeam o team) h =
    between (codes "/teams/") team (codes "/" ++ overview_word (of_all_teams o)) teams (plain_part team h)
    (overview_fits (of_all_teams o))
part_fits (of_net.Message name) h =
    between (codes "/messages/") name (codes "/signals") messages (name_part name h)
    (a_word (codes "/signals") (omega arith) refl)
part_fits (of_net.Node name) h =
    after (codes "/nodes/") name (a_word (codes "/nodes/") (omega arith) refl) (name_part name h)
part_fits (of_net.Who wanted) h =
    after (codes "/who/") (word_of wanted) (a_word (codes "/who/") (omega arith) refl) (word_part wanted h)
part_fits (of_net.Compare old new) h =
    between (codes "/compare/") (decimal old) (codes "/" ++ decimal new) (a_word (codes "/compare/") (omega arith) refl)
    (decimal_part old h.0) (slash_number new h.1)

-- ---- targets

in_a_net : (net part : List ℕ) → IsPlainName net → Fits 200 part → IsTrue (is_target (net_target net part))
in_a_net net part is fits =
    asked (codes "nets/" ++ (net ++ part))
    (joined 8000 20 328 (codes "/nets/") (net ++ part) (a_word (codes "/nets/") (omega arith) refl)
    (joined 328 128 200 net part (of_part net (plain_part net is)) fits (omega arith)) (omega arith))

of_one : (word part : List ℕ) → Fits 20 (47 ∷ word) → IsPart part → IsTrue (is_target ((47 ∷ word) ++ part))
of_one word part word_fits is =
    asked (word ++ part) (joined 8000 20 128 (47 ∷ word) part word_fits (of_part part is) (omega arith))

pub can_be_asked : (l : Look) → IsLook l → IsTrue (is_target (target_of l))
can_be_asked look.Nets is = refl
can_be_asked (look.Table net) is =
    of_one (codes "nets/") net (a_word (codes "/nets/") (omega arith) refl) (plain_part net is)
can_be_asked (look.Live net) is = in_a_net net (codes "/live") is (alone (codes "/live") (omega arith) refl)
can_be_asked (look.Release net n) is =
    in_a_net net (codes "/releases/" ++ decimal n) is.0
    (after (codes "/releases/") (decimal n) (a_word (codes "/releases/") (omega arith) refl) (decimal_part n is.1))
can_be_asked (look.Chart net message) is =
    in_a_net net (codes "/messages/" ++ message) is.0
    (after (codes "/messages/") message messages (name_part message is.1))
can_be_asked (look.Net net l form) is = in_a_net net (part_of l) is.0 (part_fits l is.1)
can_be_asked (look.Page net) is = in_a_net net (codes "/page") is (alone (codes "/page") (omega arith) refl)
can_be_asked (look.ReleasePage net n) is =
    in_a_net net (codes "/releases/" ++ (decimal n ++ codes "/page")) is.0
    (between (codes "/releases/") (decimal n) (codes "/page") (a_word (codes "/releases/") (omega arith) refl)
    (decimal_part n is.1) (a_word (codes "/page") (omega arith) refl))
can_be_asked (look.Requests team form) is =
    of_one (codes "requests/") team (a_word (codes "/requests/") (omega arith) refl) (plain_part team is)
