-- Worked examples, computed from the definitions.
use Rattle.std.proofs.Common.{◌≡◌, ℕ, List, [], ◌∷◌, ◌++◌, map, Some, None, Bool}
use Rattle.std.proofs.Common.{true, IsTrue, codes, refl, arith, inl, inr}
use Rattle.std.proofs.lemmas.List.Elements.{All-cons, All-nil}
use Rattle.std.proofs.lemmas.List.Sums.{AllPass-from_list_all}
use Rattle.std.specs.Char.{is_ascii_digit}
use Rattle.std.specs.List.{All, list_all}
use Rattle.httparse.specs.Grammar.{AllPass, Field, IsField, IsResponseHead, ResponseHead, crlf, lf, is_token_byte}
use Rattle.httparse.specs.Grammar.{is_value_byte, print_response, trim_ows}
use Rattle.desk_head.specs.Fields.{Headers, named}
use Rattle.desk_client.specs.Received.{IsReceived, body_length, received_of, whole, cut, not_http}
use Rattle.desk_client.specs.Request.{header, request_bytes}
use Rattle.office_types.specs.declared.look.LookForm.TheVariants.{Json, Lines}
use Rattle.desk_client.specs.declared.received.DeskStatus.TheVariants.{Success, NotFound, Other}
use Rattle.desk_client.proofs.Heads.{is_field, never_http, short_has_none}

-- ---- the request

request : request_bytes (codes "/nets/truck/live") Lines
    ≡ codes "GET /nets/truck/live HTTP/1.1\r\nHost: 127.0.0.1\r\nConnection: close\r\n\r\n"
unfolding request_bytes
request = refl

request_of_json : request_bytes (codes "/nets/truck/held") Json
    ≡ codes "GET /nets/truck/held HTTP/1.1\r\nHost: 127.0.0.1\r\nAccept: application/json\r\n"
    ++ codes "Connection: close\r\n\r\n"
unfolding request_bytes
request_of_json = refl

-- ---- the length of a body

abbrev of_length : List ℕ → Headers
of_length text = (codes "Content-Length", text) ∷ []

lengths : map (λ text. body_length (of_length text)) (codes "6" ∷ codes "0" ∷ codes "006" ∷ codes "4294967295" ∷ [])
    ≡ Some 6 ∷ Some 0 ∷ Some 6 ∷ Some 4294967295 ∷ []
unfolding body_length named
lengths = refl

no_lengths : map (λ text. body_length (of_length text)) ([] ∷ codes "+6" ∷ codes "6,6" ∷ codes "0x6"
    ∷ codes "4294967296" ∷ [])
    ≡ None ∷ None ∷ None ∷ None ∷ None ∷ []
unfolding body_length named
no_lengths = refl

other_headers : body_length [] ∷ body_length (of_length (codes "6") ++ of_length (codes "6"))
    ∷ body_length ((codes "CONTENT-length", codes "6") ∷ [])
    ∷ body_length ((codes "transfer-encoding", codes "chunked") ∷ of_length (codes "6")) ∷ []
    ≡ None ∷ None ∷ Some 6 ∷ None ∷ []
unfolding body_length named
other_headers = refl

-- ---- what is received, by a head and the rest

abbrev fields : List Field
fields = header (codes "Content-Type") (codes " text/plain") ∷ header (codes "Content-Length") (codes " 6") ∷ []

abbrev head : List ℕ → ResponseHead
head digits = record {
  blank = [];
  minor = 1;
  digits = digits;
  reason = Some (codes "OK");
  line_end = crlf;
  fields = fields;
  last = crlf;
}

bodies : map (received_of (head (codes "200"))) (codes "truck\n" ∷ codes "truck\nand more" ∷ codes "truck" ∷ [] ∷ [])
    ≡ whole Success (codes "truck\n") ∷ whole Success (codes "truck\n") ∷ cut ∷ cut ∷ []
unfolding body_length named trim_ows
bodies = refl

statuses : map (λ digits. received_of (head digits) (codes "truck\n")) (codes "200" ∷ codes "404" ∷ codes "503" ∷ [])
    ≡ whole Success (codes "truck\n") ∷ whole NotFound (codes "truck\n") ∷ whole (Other 503) (codes "truck\n") ∷ []
unfolding body_length named trim_ows
statuses = refl

-- ---- what bytes are received as

passes : (test : ℕ → Bool) (bytes : List ℕ) → list_all test bytes ≡ true → AllPass test bytes
passes test bytes h = AllPass-from_list_all test bytes h

fields_are : All IsField fields
unfolding is_token_byte
fields_are =
    let kind : IsField (header (codes "Content-Type") (codes " text/plain")) =
    is_field (codes "Content-Type") (codes " text/plain") (omega arith)
    (passes is_token_byte (codes "Content-Type") refl) (passes is_value_byte (codes " text/plain") refl) in
    let size : IsField (header (codes "Content-Length") (codes " 6")) =
    is_field (codes "Content-Length") (codes " 6") (omega arith)
    (passes is_token_byte (codes "Content-Length") refl) (passes is_value_byte (codes " 6") refl) in
    All-cons IsField (header (codes "Content-Type") (codes " text/plain"))
    (header (codes "Content-Length") (codes " 6") ∷ []) kind
    (All-cons IsField (header (codes "Content-Length") (codes " 6")) [] size (All-nil IsField))

head_is : IsResponseHead (head (codes "200"))
head_is = record {
  minor = omega arith;
  digits = (refl, passes is_ascii_digit (codes "200") refl);
  reason = passes is_value_byte (codes "OK") refl;
  fields = fields_are;
}

whole_response : IsReceived
    (codes "HTTP/1.1 200 OK\r\nContent-Type: text/plain\r\nContent-Length: 6\r\n\r\ntruck\n")
    (whole Success (codes "truck\n"))
unfolding print_response body_length named trim_ows
whole_response = inr (omega arith, inl (head (codes "200"), codes "truck\n", ((head_is, refl), omega arith), refl))

cut_body : IsReceived
    (codes "HTTP/1.1 200 OK\r\nContent-Type: text/plain\r\nContent-Length: 6\r\n\r\ntru") cut
unfolding print_response body_length named trim_ows
cut_body = inr (omega arith, inl (head (codes "200"), codes "tru", ((head_is, refl), omega arith), refl))

-- the least head that the bytes can become
abbrev least : ResponseHead
least = record {
  blank = [];
  minor = 1;
  digits = codes "200";
  reason = None;
  line_end = lf;
  fields = [];
  last = lf;
}

least_is : IsResponseHead least
least_is = record {
  minor = omega arith;
  digits = (refl, passes is_ascii_digit (codes "200") refl);
  reason = All-nil (λ b. IsTrue (is_value_byte b));
  fields = All-nil IsField;
}

cut_head : IsReceived (codes "HTTP/1.1 20") cut
unfolding print_response
cut_head =
    inr (
      omega arith,
      inr (inl (
        refl,
        (short_has_none (codes "HTTP/1.1 20") (omega arith), (codes "0\n\n", least, (least_is, refl))),
      )),
    )

garbage : IsReceived (codes "SSH-2.0-OpenSSH_9.2\r\n") not_http
garbage =
    inr (
      omega arith,
      inr (inr (
        refl,
        never_http 83 (codes "SH-2.0-OpenSSH_9.2\r\n") (omega arith) (omega arith) (omega arith),
      )),
    )
