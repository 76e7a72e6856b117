-- The responses of a desk, as heads of the grammar.
use Rattle.std.proofs.Common.{◌≡◌, ◌∙◌, ℕ, ◌<◌, ◌≤◌, ◌^◌, nat_le, List, [], ◌∷◌, ◌++◌, length, map}
use Rattle.std.proofs.Common.{Some, Bool, true, false, IsTrue, codes, decimal, refl, sym, ap, arith, inl, inr}
use Rattle.std.proofs.Common.{append_assoc, append-nil, length-append, reverse}
use Rattle.std.proofs.lemmas.Bool.{cond-false}
use Rattle.std.proofs.lemmas.Bool.Decides.{nat_tests}
use Rattle.std.proofs.lemmas.Fmt.{decimal_is_IsNumeral}
use Rattle.std.proofs.lemmas.List.Elements.{All-cons, All-head, All-nil, All-weaker}
use Rattle.std.proofs.lemmas.List.Sums.{AllPass-from_list_all}
use Rattle.std.proofs.Math.Seq.{take-length}
use Rattle.std.specs.Char.{digit_value, is_ascii_digit}
use Rattle.std.specs.List.{All, list_all}
use Rattle.std.specs.Str.Parse.{AllDigits, digits_value}
use Rattle.httparse.specs.Grammar.{AllPass, Field, IsField, IsResponseHead, ResponseHead, crlf, is_ows, is_token_byte}
use Rattle.httparse.specs.Grammar.{is_value_byte, print_response, skip_ows, trim_ows}
use Rattle.httparse.specs.Spans.{name_and_value}
use Rattle.httparse.proofs.TrimLemmas.{AllPass-reverse, trim_ows_space}
use Rattle.base.specs.WholeNumber.{whole_of}
use Rattle.base.proofs.WholeNumbers.{whole_of-is}
use Rattle.desk_head.specs.Fields.{named}
use Rattle.desk_reply.specs.Response.{content_type, header_lines, phrase_of, policy_line, response, status_line}
use Rattle.desk_reply.specs.declared.responses.BodyKind.{BodyKind}
use Rattle.desk_reply.specs.declared.responses.BodyKind.TheVariants.{Json, Plain, Bytes, Html}
use Rattle.desk_client.specs.Limits.{response_limit}
use Rattle.desk_client.specs.Received.{body_length, received_by, received_of, status_of, whole}
use Rattle.desk_client.specs.Replies.{ComesBack}
use Rattle.desk_client.specs.Request.{header}
use Rattle.desk_client.proofs.Heads.{is_field}

-- ---- a number after a space

digit_is : (c : ℕ) → digit_value c < 10 → is_ascii_digit c ≡ true
digit_is c h = grind (arith, nat_tests)

digits_are : (ds : List ℕ) → AllDigits 10 ds → AllPass is_ascii_digit ds
digits_are [] all = All-nil (λ b. IsTrue (is_ascii_digit b))
digits_are (c ∷ ds) all =
    All-cons (λ b. IsTrue (is_ascii_digit b)) c ds (digit_is c all.0) (digits_are ds all.1)

digit_value_byte : (b : ℕ) → is_ascii_digit b ≡ true → is_value_byte b ≡ true
digit_value_byte b h = grind (arith, nat_tests)

digit_stays : (b : ℕ) → is_ascii_digit b ≡ true → is_ows b ≡ false
digit_stays b h = grind (arith, nat_tests)

skip_none : (ds : List ℕ) → AllPass is_ascii_digit ds → skip_ows ds ≡ ds
skip_none [] all = refl
skip_none (b ∷ ds) all =
    cond-false _ _ _ (digit_stays b (All-head (λ c. IsTrue (is_ascii_digit c)) b ds all))

-- what a decimal number is, part by part
record Number (n : ℕ) : Type 0 where
  digits : AllPass is_ascii_digit (decimal n)
  value : whole_of (decimal n) ≡ Some n
  trimmed : trim_ows (32 ∷ decimal n) ≡ decimal n

number : (n : ℕ) → n < 2 ^ 32 → Number n
number n small =
    let is = decimal_is_IsNumeral n (omega arith) in
    let all : AllPass is_ascii_digit (decimal n) = digits_are (decimal n) is.0.1 in
    let fits : digits_value 10 (decimal n) < 2 ^ 32 = omega (arith, is.1) in
    record {
      digits = all;
      value = sym (whole_of-is (decimal n) (Some n) ((is.0, fits), sym is.1));
      trimmed = trim_ows_space (decimal n) (skip_none (decimal n) all)
          (skip_none (reverse (decimal n)) (AllPass-reverse is_ascii_digit (decimal n) all));
    }

-- ---- the head

-- the fields after the kind of the body, and after its policy if it has one
abbrev last_fields : ℕ → List Field
last_fields size =
    header (codes "Content-Length") (32 ∷ decimal size) ∷ header (codes "Connection") (codes " close") ∷ []

abbrev policy : List ℕ
policy = codes " default-src 'none';style-src 'unsafe-inline'"

abbrev later_fields : BodyKind → ℕ → List Field
later_fields Html size = header (codes "Content-Security-Policy") policy ∷ last_fields size
later_fields kind size = last_fields size

abbrev reply_fields : BodyKind → ℕ → List Field
reply_fields kind size = header (codes "Content-Type") (32 ∷ content_type kind) ∷ later_fields kind size

abbrev reply_head : ℕ → List ℕ → BodyKind → ℕ → ResponseHead
reply_head status phrase kind size = record {
  blank = [];
  minor = 1;
  digits = decimal status;
  reason = Some phrase;
  line_end = crlf;
  fields = reply_fields kind size;
  last = crlf;
}

regroup : (v d s p e t k l z n body : List ℕ)
    → ((v ++ (d ++ (s ++ (p ++ e)))) ++ (t ++ (k ++ (e ++ (l ++ (z ++ (e ++ (n ++ (e ++ e))))))))) ++ body
    ≡ ((((v ++ d) ++ (s ++ p)) ++ e) ++ ((((t ++ k) ++ e) ++ (((l ++ z) ++ e) ++ ((n ++ e) ++ []))) ++ e)) ++ body
regroup v d s p e t k l z n body = simp (append_assoc, append-nil)

-- the same with a policy
regroup_page : (v d s p e t k q l z n body : List ℕ)
    → ((v ++ (d ++ (s ++ (p ++ e)))) ++ (t ++ (k ++ (e ++ ((q ++ e) ++ (l ++ (z ++ (e ++ (n ++ (e ++ e)))))))))) ++ body
    ≡ ((((v ++ d) ++ (s ++ p)) ++ e)
    ++ ((((t ++ k) ++ e) ++ ((q ++ e) ++ (((l ++ z) ++ e) ++ ((n ++ e) ++ [])))) ++ e)) ++ body
regroup_page v d s p e t k q l z n body = simp (append_assoc, append-nil)

text_with : (status : ℕ) (kind : BodyKind) (body : List ℕ) → policy_line kind ≡ [] → later_fields kind (length body)
    ≡ last_fields (length body)
    → response status kind body ≡ print_response (reply_head status (phrase_of status) kind (length body)) ++ body
unfolding status_line header_lines print_response
text_with status kind body none last = rw (none, last)
    (regroup (codes "HTTP/1.1 ") (decimal status) (codes " ") (phrase_of status) (codes "\r\n") (codes "Content-Type: ")
    (content_type kind) (codes "Content-Length: ") (decimal (length body)) (codes "Connection: close") body)

text_is : (status : ℕ) (kind : BodyKind) (body : List ℕ)
    → response status kind body ≡ print_response (reply_head status (phrase_of status) kind (length body)) ++ body
unfolding status_line header_lines print_response
text_is status Json body = text_with status Json body refl refl
text_is status Plain body = text_with status Plain body refl refl
text_is status Bytes body = text_with status Bytes body refl refl
text_is status Html body =
    regroup_page (codes "HTTP/1.1 ") (decimal status) (codes " ") (phrase_of status) (codes "\r\n")
    (codes "Content-Type: ") (content_type Html)
    (codes "Content-Security-Policy: default-src 'none';style-src 'unsafe-inline'") (codes "Content-Length: ")
    (decimal (length body)) (codes "Connection: close") body

passes : (test : ℕ → Bool) (bytes : List ℕ) → list_all test bytes ≡ true → AllPass test bytes
passes test bytes h = AllPass-from_list_all test bytes h

kind_passes : (kind : BodyKind) → AllPass is_value_byte (32 ∷ content_type kind)
kind_passes Json = passes is_value_byte (codes " application/json") refl
kind_passes Plain = passes is_value_byte (codes " text/plain") refl
kind_passes Bytes = passes is_value_byte (codes " application/octet-stream") refl
kind_passes Html = passes is_value_byte (codes " text/html; charset=us-ascii") refl

kind_field : (kind : BodyKind) → IsField (header (codes "Content-Type") (32 ∷ content_type kind))
unfolding is_token_byte
kind_field kind =
    is_field (codes "Content-Type") (32 ∷ content_type kind) (omega arith)
    (passes is_token_byte (codes "Content-Type") refl) (kind_passes kind)

policy_field : IsField (header (codes "Content-Security-Policy") policy)
unfolding is_token_byte
policy_field =
    is_field (codes "Content-Security-Policy") policy (omega arith)
    (passes is_token_byte (codes "Content-Security-Policy") refl) (passes is_value_byte policy refl)

size_field : (n : ℕ) → Number n → IsField (header (codes "Content-Length") (32 ∷ decimal n))
unfolding is_token_byte
size_field n of =
    is_field (codes "Content-Length") (32 ∷ decimal n) (omega arith)
    (passes is_token_byte (codes "Content-Length") refl)
    (All-cons (λ b. IsTrue (is_value_byte b)) 32 (decimal n) refl
    (All-weaker (λ b. IsTrue (is_ascii_digit b)) (λ b. IsTrue (is_value_byte b)) digit_value_byte
    (decimal n) of.digits))

close_field : IsField (header (codes "Connection") (codes " close"))
unfolding is_token_byte
close_field =
    is_field (codes "Connection") (codes " close") (omega arith) (passes is_token_byte (codes "Connection") refl)
    (passes is_value_byte (codes " close") refl)

-- a status that a desk gives
pub record IsReplyStatus (status : ℕ) : Type 0 where
  pub three : length (decimal status) ≡ 3
  pub small : status < 2 ^ 32
  pub code : digits_value 10 (decimal status) ≡ status
  pub phrase : AllPass is_value_byte (phrase_of status)

last_are : (n : ℕ) → Number n → All IsField (last_fields n)
last_are n size =
    All-cons IsField (header (codes "Content-Length") (32 ∷ decimal n))
    (header (codes "Connection") (codes " close") ∷ []) (size_field n size)
    (All-cons IsField (header (codes "Connection") (codes " close")) [] close_field (All-nil IsField))

later_are : (kind : BodyKind) (n : ℕ) → Number n → All IsField (later_fields kind n)
later_are Html n size =
    All-cons IsField (header (codes "Content-Security-Policy") policy) (last_fields n) policy_field (last_are n size)
later_are it n size = last_are n size

head_is : (status : ℕ) (kind : BodyKind) (n : ℕ) → IsReplyStatus status → Number n
    → IsResponseHead (reply_head status (phrase_of status) kind n)
head_is status kind n of size = record {
  minor = omega arith;
  digits = (of.three, (number status of.small).digits);
  reason = of.phrase;
  fields = All-cons IsField (header (codes "Content-Type") (32 ∷ content_type kind)) (later_fields kind n)
      (kind_field kind) (later_are kind n size);
}

-- ---- what is received

length_is : (kind : BodyKind) (n : ℕ) → Number n → body_length (map name_and_value (reply_fields kind n)) ≡ Some n
unfolding body_length named
length_is Json n of = ap whole_of of.trimmed ∙ of.value
length_is it n of = ap whole_of of.trimmed ∙ of.value

whole_body : (code : ℕ) (body : List ℕ) → received_by (Some (length body)) code body ≡ whole (status_of code) body
whole_body code body =
    let all : nat_le (length body) (length body) ≡ true = grind (arith, nat_tests) in
    rw (all, take-length body) refl

received_is : (status : ℕ) (kind : BodyKind) (body : List ℕ) → IsReplyStatus status → Number (length body)
    → received_of (reply_head status (phrase_of status) kind (length body)) body ≡ whole (status_of status) body
received_is status kind body of size =
    ap (λ o. received_by o (digits_value 10 (decimal status)) body) (length_is kind (length body) size)
    ∙ whole_body (digits_value 10 (decimal status)) body ∙ ap (λ c. whole (status_of c) body) of.code

few_fields : (kind : BodyKind) (n : ℕ) → length (later_fields kind n) ≤ 3
few_fields Html n = omega arith
few_fields it n = omega arith

body_fits : (front body : List ℕ) → length (front ++ body) ≤ response_limit → length body < 2 ^ 32
body_fits front body fits = omega (arith, length-append front body)

pub comes_back : (status : ℕ) (kind : BodyKind) (body : List ℕ) → IsReplyStatus status
    → ComesBack (response status kind body) status body
comes_back status kind body of fits =
    let head = reply_head status (phrase_of status) kind (length body) in
    let size : Number (length body) =
    number (length body) (body_fits (status_line status (phrase_of status)
    ++ header_lines (content_type kind) (policy_line kind) (length body)) body fits) in
    let few = few_fields kind (length body) in
    inr (
      fits,
      inl (
        head,
        body,
        ((head_is status kind (length body) of size, text_is status kind body), omega (arith, few)),
        sym (received_is status kind body of size),
      ),
    )
