-- The bytes of a request are read as its arrival.
use Rattle.desk_send.proofs.Common.{◌≡◌, ◌<◌, ◌≤◌, ◌&&◌, ◌==◌, not, ℕ, Bool, true, false, zero, suc, List, [], ◌∷◌}
use Rattle.desk_send.proofs.Common.{◌++◌, length, map, Some, Ok, codes, decimal, nat_le, refl, arith, append_assoc}
use Rattle.desk_send.proofs.Common.{append-nil, length-append, take, ap, sym, subst, ◌∙◌, digit_value, is_ascii_digit}
use Rattle.desk_send.proofs.Common.{All, AllZip, list_all, AllDigits, and_parts, nat_tests, decimal_is_IsNumeral}
use Rattle.desk_send.proofs.Common.{All-head, IsPlainName, Command, Task, Act, Import, Bundle, is_key_byte, body_limit}
use Rattle.desk_send.proofs.Common.{all_weaker, plain_part, whole_decimal}
use Rattle.std.proofs.Common.{◌+◌, IsTrue, inr, reverse, get_or}
use Rattle.std.proofs.Math.Seq.{take-length}
use Rattle.std.proofs.lemmas.Bool.{cond-false}
use Rattle.std.proofs.lemmas.Fmt.{length-decimal-le}
use Rattle.std.proofs.lemmas.List.{take_more}
use Rattle.std.proofs.lemmas.Option.{slice_get_read}
use Rattle.std.proofs.lemmas.Slice.Zip.{AllZip-long}
use Rattle.std.proofs.lemmas.List.Elements.{All-cons, All-nil, All-weaker}
use Rattle.std.proofs.lemmas.List.Sums.{AllPass-from_list_all}
use Rattle.std.proofs.lemmas.Str.{IsUtf8-from_ascii}
use Rattle.httparse.specs.Grammar.{AllPass, IsField, IsRequestHead, is_ows, is_token_byte, is_uri_byte, is_value_byte}
use Rattle.httparse.specs.Grammar.{print_request, skip_ows, trim_ows}
use Rattle.httparse.specs.Spans.{name_and_value}
use Rattle.httparse.proofs.TrimLemmas.{AllPass-reverse, trim_ows_space}
use Rattle.office_history.specs.Key.{IsKey}
use Rattle.office_history.specs.declared.arrival.Arrival.{Arrival}
use Rattle.desk_head.specs.Demand.{demand_of}
use Rattle.desk_head.specs.Fields.{body_length, named}
use Rattle.desk_head.specs.Head.{HasHead, IsSmall}
use Rattle.desk_head.specs.declared.demand.Demand.TheVariants.{Does}
use Rattle.desk_call.specs.Call.{arrival_of, arrives, call_of, command_of, content_of}
use Rattle.desk_call.specs.Read.{IsRequest}
use Rattle.desk_send.specs.Body.{IsReadBack, body_of}
use Rattle.desk_send.specs.Request.{IsFirstUnsent, IsSentAs, IsUnsent, header, post_fields, post_head, request_bytes}
use Rattle.desk_send.specs.Request.{seen_with, sent_body}
use Rattle.desk_send.specs.Target.{posting_of, target_of}
use Rattle.desk_send.proofs.TargetsBack.{IsShown, bundle_net, import_net, part_seen, posts_lead_there, target_shown}

-- ---- visible bytes

abbrev Seen : List ℕ → Type 0
Seen bytes = list_all is_key_byte bytes ≡ true

abbrev SeenAll : List ℕ → Type 0
SeenAll bytes = AllPass is_key_byte bytes

seen_all : (bytes : List ℕ) → Seen bytes → SeenAll bytes
seen_all bytes h = AllPass-from_list_all is_key_byte bytes h

seen_value : (b : ℕ) → is_key_byte b ≡ true → is_value_byte b ≡ true
seen_value b h = grind (arith, nat_tests, h)

seen_uri : (b : ℕ) → is_key_byte b ≡ true → is_uri_byte b ≡ true
seen_uri b h = grind (arith, nat_tests, h)

seen_small : (b : ℕ) → is_key_byte b ≡ true → b < 128
seen_small b h = grind (arith, nat_tests, h)

seen_stays : (b : ℕ) → is_key_byte b ≡ true → is_ows b ≡ false
seen_stays b h = grind (arith, nat_tests, h)

skip_none : (bytes : List ℕ) → SeenAll bytes → skip_ows bytes ≡ bytes
skip_none [] all = refl
skip_none (b ∷ bytes) all =
    cond-false _ _ _ (seen_stays b (All-head (λ c. IsTrue (is_key_byte c)) b bytes all))

trimmed : (bytes : List ℕ) → Seen bytes → trim_ows (32 ∷ bytes) ≡ bytes
trimmed bytes h =
    let all = seen_all bytes h in
    trim_ows_space bytes (skip_none bytes all)
    (skip_none (reverse bytes) (AllPass-reverse is_key_byte bytes all))

values_pass : (bytes : List ℕ) → Seen bytes → AllPass is_value_byte (32 ∷ bytes)
values_pass bytes h =
    All-cons (λ b. IsTrue (is_value_byte b)) 32 bytes refl
    (All-weaker (λ b. IsTrue (is_key_byte b)) (λ b. IsTrue (is_value_byte b)) seen_value bytes (seen_all bytes h))

ascii_at : (bytes : List ℕ) → Seen bytes → (i : ℕ) → get_or bytes i 0 < 128
ascii_at [] h i = omega arith
ascii_at (b ∷ bytes) h zero = seen_small b (and_parts (is_key_byte b) (list_all is_key_byte bytes) h).0
ascii_at (b ∷ bytes) h (suc i) = ascii_at bytes (and_parts (is_key_byte b) (list_all is_key_byte bytes) h).1 i

-- ---- teams, keys and sizes

team_seen : (team : List ℕ) → IsPlainName team → Seen team
team_seen team is = part_seen team (plain_part team is)

record IsKeyPart (key : List ℕ) : Type 0 where
  short : length key ≤ 64
  seen : Seen key

key_part : (key : List ℕ) → IsKey key → IsKeyPart key
key_part key is = record { short = grind (arith, nat_tests, is); seen = grind (arith, nat_tests, is) }

team_short : (team : List ℕ) → IsPlainName team → length team ≤ 32
team_short team is = grind (arith, nat_tests, is)

digit_is : (b : ℕ) → digit_value b < 10 → is_ascii_digit b ≡ true
digit_is b h = grind (arith, nat_tests)

are_digits : (bytes : List ℕ) → AllDigits 10 bytes → list_all is_ascii_digit bytes ≡ true
are_digits [] h = refl
are_digits (b ∷ bytes) h = rw (digit_is b h.0) (are_digits bytes h.1)

digit_seen : (b : ℕ) → is_ascii_digit b ≡ true → is_key_byte b ≡ true
digit_seen b h = grind (arith, nat_tests, h)

-- what the size of a body is, part by part
record IsSize (n : ℕ) : Type 0 where
  some : 0 < length (decimal n)
  short : length (decimal n) ≤ 7
  digits : list_all is_ascii_digit (decimal n) ≡ true

size_is : (n : ℕ) → n ≤ body_limit → IsSize n
size_is n h =
    let is = (decimal_is_IsNumeral n (omega (arith, h))).0 in
    record {
      some = is.0;
      short = length-decimal-le 7 n (omega arith) (omega (arith, h)) (omega (arith, h));
      digits = are_digits (decimal n) is.1;
    }

size_seen : (n : ℕ) → IsSize n → Seen (decimal n)
size_seen n is = all_weaker is_ascii_digit is_key_byte digit_seen (decimal n) is.digits

-- ---- the head

-- what a request is made of
record AreParts (place name word : List ℕ) (n : ℕ) : Type 0 where
  target : IsShown place
  team : IsPlainName name
  key : IsKey word
  fits : n ≤ body_limit

passes : (test : ℕ → Bool) (bytes : List ℕ) → list_all test bytes ≡ true → AllPass test bytes
passes test bytes h = AllPass-from_list_all test bytes h

is_field : (name raw : List ℕ) → 0 < length name → AllPass is_token_byte name → AllPass is_value_byte raw
    → IsField (header name raw)
is_field name raw some token value = record { name = (some, token); raw = value }

host_field : IsField (header (codes "Host") (codes " 127.0.0.1"))
unfolding is_token_byte
host_field =
    is_field (codes "Host") (codes " 127.0.0.1") (omega arith) (passes is_token_byte (codes "Host") refl)
    (passes is_value_byte (codes " 127.0.0.1") refl)

team_field : (team : List ℕ) → Seen team → IsField (header (codes "Team") (32 ∷ team))
unfolding is_token_byte
team_field team h =
    is_field (codes "Team") (32 ∷ team) (omega arith) (passes is_token_byte (codes "Team") refl) (values_pass team h)

key_field : (key : List ℕ) → Seen key → IsField (header (codes "Request-Key") (32 ∷ key))
unfolding is_token_byte
key_field key h =
    is_field (codes "Request-Key") (32 ∷ key) (omega arith) (passes is_token_byte (codes "Request-Key") refl)
    (values_pass key h)

size_field : (size : List ℕ) → Seen size → IsField (header (codes "Content-Length") (32 ∷ size))
unfolding is_token_byte
size_field size h =
    is_field (codes "Content-Length") (32 ∷ size) (omega arith) (passes is_token_byte (codes "Content-Length") refl)
    (values_pass size h)

close_field : IsField (header (codes "Connection") (codes " close"))
unfolding is_token_byte
close_field =
    is_field (codes "Connection") (codes " close") (omega arith) (passes is_token_byte (codes "Connection") refl)
    (passes is_value_byte (codes " close") refl)

post_is_token : AllPass is_token_byte (codes "POST")
unfolding is_token_byte
post_is_token = passes is_token_byte (codes "POST") refl

fields_are : (target team key : List ℕ) (n : ℕ) → AreParts target team key n
    → All IsField (post_fields team key n)
fields_are target team key n are =
    let close = header (codes "Connection") (codes " close") in
    let size = header (codes "Content-Length") (32 ∷ decimal n) in
    let under = header (codes "Request-Key") (32 ∷ key) in
    let of = header (codes "Team") (32 ∷ team) in
    All-cons IsField (header (codes "Host") (codes " 127.0.0.1")) (of ∷ under ∷ size ∷ close ∷ []) host_field
    (All-cons IsField of (under ∷ size ∷ close ∷ []) (team_field team (team_seen team are.team))
    (All-cons IsField under (size ∷ close ∷ []) (key_field key (key_part key are.key).seen)
    (All-cons IsField size (close ∷ []) (size_field (decimal n) (size_seen n (size_is n are.fits)))
    (All-cons IsField close [] close_field (All-nil IsField)))))

is_head : (target team key : List ℕ) (n : ℕ) → AreParts target team key n
    → IsRequestHead (post_head target team key n)
is_head target team key n are = record {
  method = (omega arith, post_is_token);
  target = (
    are.target.some,
    All-weaker (λ b. IsTrue (is_key_byte b)) (λ b. IsTrue (is_uri_byte b)) seen_uri target
        (seen_all target are.target.seen),
  );
  target_text = IsUtf8-from_ascii target (ascii_at target are.target.seen);
  minor = omega arith;
  fields = fields_are target team key n are;
}

head_size : (target team key : List ℕ) (n : ℕ)
    → length (print_request (post_head target team key n))
    ≤ length target + (length team + (length key + (length (decimal n) + 200)))
unfolding print_request
head_size target team key n = simp length-append (omega arith)

regroup : (p t v h o team e r key l size c body : List ℕ)
    → ((((((((p ++ t) ++ (v ++ (e ++ (h ++ o)))) ++ team) ++ (e ++ r)) ++ key) ++ (e ++ l)) ++ size)
    ++ (e ++ (c ++ e))) ++ body
    ≡ ((((p ++ t) ++ v) ++ e)
    ++ ((h ++ (((o ++ team) ++ e) ++ (((r ++ key) ++ e) ++ (((l ++ size) ++ e) ++ (c ++ []))))) ++ e)) ++ body
regroup p t v h o team e r key l size c body = simp (append_assoc, append-nil)

text_is : (target team key body : List ℕ)
    → request_bytes target team key body ≡ print_request (post_head target team key (length body)) ++ body
unfolding request_bytes print_request
text_is target team key body =
    regroup (codes "POST ") target (codes " HTTP/1.1") (codes "Host: 127.0.0.1\r\n") (codes "Team: ") team
    (codes "\r\n") (codes "Request-Key: ") key (codes "Content-Length: ") (decimal (length body))
    (codes "Connection: close\r\n") body

has_head : (target team key body : List ℕ) → AreParts target team key (length body)
    → HasHead (request_bytes target team key body) (post_head target team key (length body)) body
has_head target team key body are =
    let small : IsSmall (post_head target team key (length body)) = record {
      bytes = omega (
        arith,
        head_size target team key (length body),
        are.target.short,
        team_short team are.team,
        (key_part key are.key).short,
        (size_is (length body) are.fits).short,
      );
      fields = omega arith;
    } in
    ((is_head target team key (length body) are, text_is target team key body), small)

-- ---- what it demands

tests : (n : ℕ) → IsSize n
    → (not (length (decimal n) == 0) && nat_le (length (decimal n)) 19 && list_all is_ascii_digit (decimal n)) ≡ true
tests n is = grind (arith, nat_tests, is.some, is.short, is.digits)

within : (n : ℕ) → n ≤ body_limit → nat_le n body_limit ≡ true
within n h = grind (arith, nat_tests, h)

length_is : (team key : List ℕ) (n : ℕ) → n ≤ body_limit
    → body_length (map name_and_value (post_fields team key n)) ≡ Ok n
unfolding body_length named
length_is team key n h =
    let is = size_is n h in
    rw (
      trimmed (decimal n) (size_seen n is),
      tests n is,
      whole_decimal n (omega (arith, h)),
      within n h,
    )
    refl

command_read : (net : List ℕ) (t : Task) (body : List ℕ) → IsPlainName net
    → IsReadBack body (record { net = net; task = t })
    → command_of (posting_of t) (target_of (record { net = net; task = t })) body
    ≡ Some (record { net = net; task = t })
command_read net (Act a) body is back = back
command_read net (Import file) body is back = rw (import_net net is, back) refl
command_read net (Bundle parts) body is back = rw (bundle_net net is, back) refl

arrival_is : (c : Command) (team key body : List ℕ) → IsPlainName team → IsKey key → IsPlainName c.net
    → IsReadBack body c
    → arrival_of (posting_of c.task) (target_of c) (map name_and_value (post_fields team key (length body))) body
    ≡ Some (record { team = team; key = key; content = content_of (target_of c) body; command = c })
unfolding arrival_of named
arrival_is c team key body team_is key_is net_is back =
    rw (
      trimmed team (team_seen team team_is),
      team_is,
      trimmed key (key_part key key_is).seen,
      key_is,
      command_read c.net c.task body net_is back,
    )
    refl

demand_is : (c : Command) (team key : List ℕ) (n : ℕ) → IsPlainName c.net → n ≤ body_limit
    → demand_of (post_head (target_of c) team key n) ≡ Does (posting_of c.task) n
unfolding demand_of
demand_is c team key n is h = rw (posts_lead_there c is, length_is team key n h) refl

pub requests : (c : Command) (team key body : List ℕ) → IsPlainName team → IsKey key → IsPlainName c.net
    → IsReadBack body c → length body ≤ body_limit
    → IsRequest (request_bytes (target_of c) team key body)
    (arrives (record { team = team; key = key; content = content_of (target_of c) body; command = c }))
unfolding call_of
requests c team key body team_is key_is net_is back h =
    let n = length body in
    let shown = target_shown c.net c.task net_is in
    let are : AreParts (target_of c) team key n = record { target = shown; team = team_is; key = key_is; fits = h } in
    let all : nat_le n n ≡ true = grind (arith, nat_tests) in
    inr (
      post_head (target_of c) team key n,
      body,
      has_head (target_of c) team key body are,
      rw (
        demand_is c team key n net_is h,
        all,
        take-length body,
        arrival_is c team key body team_is key_is net_is back,
      )
          refl,
    )

-- ---- what is sent

body_is_sent : (c : Command) (body : List ℕ) → body_of c ≡ Some body → length body ≤ body_limit
    → sent_body c ≡ Some body
body_is_sent c body is fits = rw (is, within (length body) fits) refl

pub is_sent_as : (a : Arrival) (body bytes : List ℕ) → IsPlainName a.team → IsKey a.key
    → IsPlainName a.request.command.net → body_of a.request.command ≡ Some body
    → IsReadBack body a.request.command → length body ≤ body_limit
    → bytes ≡ request_bytes (target_of a.request.command) a.team a.key body → IsSentAs a bytes
is_sent_as a body bytes team_is key_is net_is is back fits text =
    let c = a.request.command in
    record {
      body = body;
      is = body_is_sent c body is fits;
      text = text;
      read = subst (λ b. IsRequest b (arrives (seen_with a body))) (sym text)
          (requests c a.team a.key body team_is key_is net_is back fits);
    }

-- the arrivals so far, and one more
zip_push : (arrivals : List Arrival) (requests : List (List ℕ)) (a : Arrival) (request : List ℕ)
    → AllZip IsSentAs arrivals requests → IsSentAs a request
    → AllZip IsSentAs (arrivals ++ a ∷ []) (requests ++ request ∷ [])
zip_push [] [] a request each one = (one, tt)
zip_push [] (r ∷ requests) a request each one = absurd each
zip_push (x ∷ arrivals) [] a request each one = absurd each
zip_push (x ∷ arrivals) (r ∷ requests) a request each one = (each.0, zip_push arrivals requests a request each.1 one)

pub sent_more : (arrivals : List Arrival) (at : ℕ) (requests more : List (List ℕ)) (a : Arrival) (request : List ℕ)
    → at < length arrivals → a ≡ get_or arrivals at a → AllZip IsSentAs (take at arrivals) requests
    → more ≡ requests ++ request ∷ [] → IsSentAs a request → AllZip IsSentAs (take (at + 1) arrivals) more
sent_more arrivals at requests more a request within is each added one =
    let next : take (at + 1) arrivals ≡ take at arrivals ++ a ∷ [] = rw (take_more arrivals at a within, ← is) refl in
    subst (λ xs. AllZip IsSentAs xs more) (sym next)
    (subst (λ rs. AllZip IsSentAs (take at arrivals ++ a ∷ []) rs) (sym added)
    (zip_push (take at arrivals) requests a request each one))

pub first_unsent : (arrivals : List Arrival) (at index : ℕ) (requests : List (List ℕ)) (a : Arrival)
    → at < length arrivals → a ≡ get_or arrivals at a → AllZip IsSentAs (take at arrivals) requests
    → index ≡ length requests → IsUnsent a → IsFirstUnsent arrivals index
first_unsent arrivals at index requests a within is each count unsent =
    let long : length requests ≡ length (take at arrivals) = AllZip-long IsSentAs (take at arrivals) requests each in
    let same : at ≡ index = sym (length_first at arrivals (omega (arith, within))) ∙ sym long ∙ sym count in
    subst (λ n. IsFirstUnsent arrivals n) same (record {
      requests = requests;
      sent = each;
      arrival = a;
      there = slice_get_read arrivals (length arrivals) at a refl within is;
      unsent = unsent;
    })
  where
    length_first : (k : ℕ) (xs : List Arrival) → k ≤ length xs → length (take k xs) ≡ k
    length_first zero xs within = refl
    length_first (suc k) [] within = absurd (omega (arith, within))
    length_first (suc k) (x ∷ xs) within = ap suc (length_first k xs (omega (arith, within)))
