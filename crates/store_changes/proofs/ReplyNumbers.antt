-- Numbers and parts are those of one reply at most.
use Rattle.store_changes.proofs.Common.{◌≡◌, ◌∙◌, ℕ, Bool, true, false, pos, List, Option, Some, None, sym, ap, Int}
use Rattle.store_changes.proofs.Common.{Row, column, reply_parts, Reply, Number, Counts, Refused, Bundle, PartReply}
use Rattle.std.proofs.Common.{if◌then◌else◌, option_map}
use Rattle.office_types.specs.Reply.{reply_at, reply_numbers}
use Rattle.office_types.specs.declared.reply.Reply.TheVariants.{Done, Start, Release}
use Rattle.office_types.proofs.Numbers.{refusal_back}
use Rattle.store_changes.specs.Kept.{ShowsReply}

same_some : (x r : Reply) → Some x ≡ Some r → x ≡ r
same_some x r e = cc

if_some : (t : Bool) (x r : Reply) → Some x ≡ (if t then Some r else None) → x ≡ r
if_some true x r e = cc
if_some false x r e = absurd (cc)

if_reported : (t : Bool) (x r : Reply) (o : Option Reply) → o ≡ Some r → Some x ≡ (if t then o else None) → x ≡ r
if_reported true x r o is e = same_some x r (e ∙ is)
if_reported false x r o is e = absurd (cc)

pub one_reply : (r x : Reply) → Some x ≡ reply_at (reply_numbers r) (reply_parts r) → x ≡ r
one_reply Done x e = same_some x Done e
one_reply (Number n) x e = same_some x (Number n) e
one_reply (Start n) x e = if_some _ x (Start n) e
one_reply (Counts new same) x e = same_some x (Counts new same) e
one_reply (Release n) x e = same_some x (Release n) e
one_reply (Refused r) x e = if_reported _ x (Refused r) _ (ap (option_map Refused) (refusal_back r)) e
one_reply (Bundle ps) x e = if_some _ x (Bundle ps) e

same_number : (m n : ℕ) → Int (pos m) ≡ Int (pos n) → m ≡ n
same_number m n e = cc

pub reported : (row : Row) (other reply : Reply) (k a b c : ℕ) (parts : List PartReply) → column row 1 ≡ Int (pos k)
    → column row 2 ≡ Int (pos a) → column row 3 ≡ Int (pos b) → column row 4 ≡ Int (pos c)
    → ShowsReply other row → parts ≡ reply_parts other
    → Some reply ≡ reply_at (record { kind = k; a = a; b = b; c = c }) parts → reply ≡ other
reported row other reply k a b c parts hk ha hb hc shows same e =
    let n = reply_numbers other in
    let is_k : k ≡ n.kind = same_number k n.kind (sym hk ∙ shows.0) in
    let is_a : a ≡ n.a = same_number a n.a (sym ha ∙ shows.1) in
    let is_b : b ≡ n.b = same_number b n.b (sym hb ∙ shows.2) in
    let is_c : c ≡ n.c = same_number c n.c (sym hc ∙ shows.3) in
    one_reply other reply (e ∙ (λ i. reply_at (record { kind = is_k i; a = is_a i; b = is_b i; c = is_c i }) (same i)))
