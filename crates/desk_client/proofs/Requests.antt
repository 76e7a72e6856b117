-- The request that is sent is a head that a desk reads.
use Rattle.std.proofs.Common.{◌≡◌, ◌∙◌, ℕ, ◌+◌, ◌<◌, ◌≤◌, Bool, true, List, [], ◌∷◌, ◌++◌, length, codes}
use Rattle.std.proofs.Common.{refl, sym, ap, arith, zero, suc, append_assoc, append-nil, length-append, IsTrue, get_or}
use Rattle.std.proofs.lemmas.Bool.{and_parts}
use Rattle.std.proofs.lemmas.Bool.Decides.{nat_tests}
use Rattle.std.proofs.lemmas.List.Elements.{All-weaker, All-cons, All-nil}
use Rattle.std.proofs.lemmas.List.Sums.{AllPass-from_list_all}
use Rattle.std.proofs.lemmas.Str.{IsUtf8-from_ascii}
use Rattle.std.specs.Char.{is_ascii_graphic}
use Rattle.std.specs.List.{All, list_all}
use Rattle.httparse.specs.Grammar.{AllPass, IsField, IsRequestHead, print_request}
use Rattle.httparse.specs.Grammar.{is_token_byte, is_uri_byte, is_value_byte}
use Rattle.desk_head.specs.Head.{HasHead, IsSmall}
use Rattle.desk_head.specs.Limits.{header_limit}
use Rattle.desk_client.proofs.Heads.{is_field}
use Rattle.office_types.specs.declared.look.LookForm.{LookForm}
use Rattle.office_types.specs.declared.look.LookForm.TheVariants.{Json, Lines}
use Rattle.desk_client.specs.Limits.{target_limit}
use Rattle.desk_client.specs.Request.{get_head, head_end, header, is_target, request_bytes}

-- what a target is, part by part
record Parts (target : List ℕ) : Type 0 where
  some : 0 < length target
  fits : length target ≤ target_limit
  visible : list_all is_ascii_graphic target ≡ true

parts : (target : List ℕ) → IsTrue (is_target target) → Parts target
parts target is = record {
  some = grind (arith, nat_tests, is);
  fits = grind (arith, nat_tests, is);
  visible = grind (arith, nat_tests, is);
}

visible_uri : (b : ℕ) → is_ascii_graphic b ≡ true → is_uri_byte b ≡ true
visible_uri b h = grind (arith, nat_tests, h)

visible_ascii : (b : ℕ) → is_ascii_graphic b ≡ true → b < 128
visible_ascii b h = grind (arith, nat_tests, h)

regroup : (t a b c : List ℕ) → ((t ++ a) ++ b) ++ c ≡ t ++ (a ++ (b ++ c))
regroup t a b c = simp append_assoc

head_text : (target : List ℕ) (form : LookForm) → print_request (get_head target form) ≡ request_bytes target form
unfolding request_bytes print_request
head_text target Lines =
    ap (λ l. codes "GET " ++ l)
    (regroup target (codes " HTTP/1.1") (codes "\r\n") (codes "Host: 127.0.0.1\r\nConnection: close\r\n\r\n"))
head_text target Json =
    ap (λ l. codes "GET " ++ l)
    (regroup target (codes " HTTP/1.1") (codes "\r\n")
    (codes "Host: 127.0.0.1\r\nAccept: application/json\r\nConnection: close\r\n\r\n"))

request_size : (target : List ℕ) (form : LookForm) → length (request_bytes target form) ≤ length target + 79
unfolding request_bytes
request_size target Lines = omega (arith, length-append target (head_end Lines))
request_size target Json = omega (arith, length-append target (head_end Json))

passes : (test : ℕ → Bool) (bytes : List ℕ) → list_all test bytes ≡ true → AllPass test bytes
passes test bytes h = AllPass-from_list_all test bytes h

host_is : IsField (header (codes "Host") (codes " 127.0.0.1"))
unfolding is_token_byte
host_is =
    is_field (codes "Host") (codes " 127.0.0.1") (omega arith) (passes is_token_byte (codes "Host") refl)
    (passes is_value_byte (codes " 127.0.0.1") refl)

accept_is : IsField (header (codes "Accept") (codes " application/json"))
unfolding is_token_byte
accept_is =
    is_field (codes "Accept") (codes " application/json") (omega arith) (passes is_token_byte (codes "Accept") refl)
    (passes is_value_byte (codes " application/json") refl)

-- the last header
connection_is : All IsField (header (codes "Connection") (codes " close") ∷ [])
unfolding is_token_byte
connection_is =
    All-cons IsField (header (codes "Connection") (codes " close")) []
    (is_field (codes "Connection") (codes " close") (omega arith) (passes is_token_byte (codes "Connection") refl)
    (passes is_value_byte (codes " close") refl)) (All-nil IsField)

fields_are : (target : List ℕ) (form : LookForm) → All IsField (get_head target form).fields
fields_are target Lines =
    All-cons IsField (header (codes "Host") (codes " 127.0.0.1")) (header (codes "Connection") (codes " close") ∷ [])
    host_is connection_is
fields_are target Json =
    All-cons IsField (header (codes "Host") (codes " 127.0.0.1"))
    (header (codes "Accept") (codes " application/json") ∷ header (codes "Connection") (codes " close") ∷ []) host_is
    (All-cons IsField (header (codes "Accept") (codes " application/json"))
    (header (codes "Connection") (codes " close") ∷ []) accept_is connection_is)

few_fields : (target : List ℕ) (form : LookForm) → length (get_head target form).fields ≤ header_limit
few_fields target Lines = omega arith
few_fields target Json = omega arith

get_is_token : AllPass is_token_byte (codes "GET")
unfolding is_token_byte
get_is_token = passes is_token_byte (codes "GET") refl

ascii_at : (bytes : List ℕ) → list_all is_ascii_graphic bytes ≡ true → (i : ℕ) → get_or bytes i 0 < 128
ascii_at [] h i = omega arith
ascii_at (b ∷ bytes) h zero = visible_ascii b (and_parts (is_ascii_graphic b) (list_all is_ascii_graphic bytes) h).0
ascii_at (b ∷ bytes) h (suc i) =
    ascii_at bytes (and_parts (is_ascii_graphic b) (list_all is_ascii_graphic bytes) h).1 i

is_head : (target : List ℕ) (form : LookForm) → Parts target → IsRequestHead (get_head target form)
is_head target form p = record {
  method = (omega arith, get_is_token);
  target = (
    p.some,
    All-weaker (λ b. is_ascii_graphic b ≡ true) (λ b. IsTrue (is_uri_byte b)) visible_uri target
        (AllPass-from_list_all is_ascii_graphic target p.visible),
  );
  target_text = IsUtf8-from_ascii target (ascii_at target p.visible);
  minor = omega arith;
  fields = fields_are target form;
}

pub asks : (target : List ℕ) (form : LookForm) → IsTrue (is_target target)
    → HasHead (request_bytes target form) (get_head target form) []
asks target form is =
    let p = parts target is in
    let small : IsSmall (get_head target form) = record {
      bytes = omega (arith, p.fits, ap length (head_text target form), request_size target form);
      fields = few_fields target form;
    } in (
      (is_head target form p, sym (head_text target form) ∙ sym (append-nil (print_request (get_head target form)))),
      small,
    )
