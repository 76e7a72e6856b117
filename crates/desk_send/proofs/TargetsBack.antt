-- What is at the target of a command does it.
use Rattle.desk_send.proofs.Common.{◌≡◌, ◌<◌, ◌≤◌, ℕ, List, [], ◌∷◌, ◌++◌, length, length-append, Some, true, codes}
use Rattle.desk_send.proofs.Common.{refl, arith, option_map, list_all, nat_tests, list_all-append, IsPlainName, Task}
use Rattle.desk_send.proofs.Common.{Act, Import, Bundle, is_key_byte, action_word, kind_of, IsPart, all_weaker}
use Rattle.desk_send.proofs.Common.{plain_part}
use Rattle.matchit.specs.Router.{RouteOf}
use Rattle.matchit.specs.Rows.{RowsOf, param_token}
use Rattle.matchit.specs.Seek.{own, step}
use Rattle.matchit.proofs.OnLiterals.{matchit_on_literals}
use Rattle.office_fields.specs.Kind.{kind_of_word}
use Rattle.office_fields.specs.declared.kind.ActionKind.{ActionKind}
use Rattle.office_fields.specs.declared.kind.ActionKind.TheVariants as kind
use Rattle.office_fields.specs.declared.kind.CommandKind.TheVariants as command
use Rattle.desk_head.specs.Target.{endpoint_of, route_of, the_routes, with_route}
use Rattle.desk_head.specs.declared.endpoint.Endpoint.TheVariants.{Does}
use Rattle.desk_head.specs.declared.routes.Route.{Route}
use Rattle.desk_head.specs.declared.routes.Route.TheVariants as route
use Rattle.desk_head.proofs.Matching.{Finds, all_end, all_parameters, at_part, past_bytes, steps}
use Rattle.desk_head.proofs.Parameters.{first_alone}
use Rattle.desk_head.proofs.TargetParts.{is_part_byte}
use Rattle.desk_call.specs.Call.{net_in}
use Rattle.desk_send.specs.Target.{PostsLeadThere, posting_of, task_target}

abbrev value_of : RouteOf Route → Route
value_of r = r.value

abbrev Rows : Type 0
Rows = RowsOf (RouteOf Route)

-- rows of one parameter, after which the target ends
record Branch (r : Route) (rows : Rows) : Type 0 where
  begin : all_parameters rows ≡ true
  ends : all_end (step param_token rows) ≡ true
  there : option_map value_of (own (step param_token rows)) ≡ Some r

ends_there : (r : Route) (rows : Rows) (part : List ℕ) → IsPart part → Branch r rows → Finds value_of r rows part
ends_there r rows [] is branch = absurd (omega (arith, is.some))
ends_there r rows (b ∷ part) is branch = at_part value_of r b part rows is.seen branch.begin branch.ends branch.there

-- a word and a parameter
finds : (r : Route) (word part : List ℕ) → IsPart part → Branch r (steps word the_routes)
    → route_of (word ++ part) ≡ Some r
finds r word part is branch =
    past_bytes value_of r word part the_routes (ends_there r (steps word the_routes) part is branch)

do_branch : Branch route.Do (steps (codes "/do/") the_routes)
unfolding the_routes with_route matchit_on_literals
do_branch = record { begin = refl; ends = refl; there = refl }

import_branch : Branch route.Import (steps (codes "/import/") the_routes)
unfolding the_routes with_route matchit_on_literals
import_branch = record { begin = refl; ends = refl; there = refl }

bundle_branch : Branch route.Bundle (steps (codes "/bundle/") the_routes)
unfolding the_routes with_route matchit_on_literals
bundle_branch = record { begin = refl; ends = refl; there = refl }

-- ---- words

a_part : (word : List ℕ) → 0 < length word → length word ≤ 128 → list_all is_part_byte word ≡ true → IsPart word
a_part word some short seen = record { some = some; short = short; seen = seen }

word_part : (k : ActionKind) → IsPart (action_word k)
word_part kind.OpenNet = a_part (codes "open_net") (omega arith) (omega arith) refl
word_part k = a_part (action_word k) (omega arith) (omega arith) refl

named_kind : (k : ActionKind) → kind_of_word (action_word k) ≡ Some (command.Act k)
named_kind kind.OpenNet = refl
named_kind k = refl

do_word : IsPart (codes "do")
do_word = a_part (codes "do") (omega arith) (omega arith) refl

import_word : IsPart (codes "import")
import_word = a_part (codes "import") (omega arith) (omega arith) refl

bundle_word : IsPart (codes "bundle")
bundle_word = a_part (codes "bundle") (omega arith) (omega arith) refl

-- ---- endpoints

leads : (net : List ℕ) (t : Task) → IsPlainName net → endpoint_of (task_target net t) ≡ Some (Does (posting_of t))
unfolding endpoint_of
leads net (Act a) is =
    let k = kind_of a in
    rw (
      finds route.Do (codes "/do/") (action_word k) (word_part k) do_branch,
      first_alone (codes "do") (action_word k) do_word (word_part k),
      named_kind k,
    )
    refl
leads net (Import file) is = rw (finds route.Import (codes "/import/") net (plain_part net is) import_branch) refl
leads net (Bundle parts) is = rw (finds route.Bundle (codes "/bundle/") net (plain_part net is) bundle_branch) refl

pub posts_lead_there : PostsLeadThere
posts_lead_there c is = leads c.net c.task is

-- ---- the network in a target

pub import_net : (net : List ℕ) → IsPlainName net → net_in (codes "/import/" ++ net) ≡ Some net
import_net net is = rw (first_alone (codes "import") net import_word (plain_part net is), is) refl

pub bundle_net : (net : List ℕ) → IsPlainName net → net_in (codes "/bundle/" ++ net) ≡ Some net
bundle_net net is = rw (first_alone (codes "bundle") net bundle_word (plain_part net is), is) refl

-- ---- the bytes of a target

-- visible ASCII, of at most so many bytes
pub record IsShown (bytes : List ℕ) : Type 0 where
  pub some : 0 < length bytes
  pub short : length bytes ≤ 140
  pub seen : list_all is_key_byte bytes ≡ true

part_byte : (b : ℕ) → is_part_byte b ≡ true → is_key_byte b ≡ true
part_byte b h = grind (arith, nat_tests, h)

pub part_seen : (part : List ℕ) → IsPart part → list_all is_key_byte part ≡ true
part_seen part is = all_weaker is_part_byte is_key_byte part_byte part is.seen

word_and_part : (word part : List ℕ) → 0 < length word → length word ≤ 12 → list_all is_key_byte word ≡ true
    → IsPart part → IsShown (word ++ part)
word_and_part word part some short seen is = record {
  some = omega (arith, length-append word part, some);
  short = omega (arith, length-append word part, short, is.short);
  seen = rw (list_all-append is_key_byte word part, seen) (part_seen part is);
}

pub target_shown : (net : List ℕ) (t : Task) → IsPlainName net → IsShown (task_target net t)
target_shown net (Act a) is =
    word_and_part (codes "/do/") (action_word (kind_of a)) (omega arith) (omega arith) refl (word_part (kind_of a))
target_shown net (Import file) is =
    word_and_part (codes "/import/") net (omega arith) (omega arith) refl (plain_part net is)
target_shown net (Bundle parts) is =
    word_and_part (codes "/bundle/") net (omega arith) (omega arith) refl (plain_part net is)
