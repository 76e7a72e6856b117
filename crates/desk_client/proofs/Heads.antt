-- Heads of responses, and bytes that have none.
use Rattle.std.proofs.Common.{◌≡◌, ◌≢◌, ℕ, ◌<◌, List, [], ◌∷◌, ◌++◌, length, ap, arith, append_assoc, length-append}
use Rattle.httparse.specs.Grammar.{AllPass, IsField, HasNoResponse, LineEnd, crlf, lf, is_token_byte, is_value_byte}
use Rattle.httparse.specs.Grammar.{print_blank, print_end, print_response, print_version, print_reason, print_section}
use Rattle.desk_client.specs.Received.{NeverHasHead}
use Rattle.desk_client.specs.Request.{header}

pub is_field : (name raw : List ℕ) → 0 < length name → AllPass is_token_byte name → AllPass is_value_byte raw
    → IsField (header name raw)
is_field name raw some token value = record { name = (some, token); raw = value }

-- ---- a head begins with an empty line or with the `H` of its version

starts : (b : ℕ) (bytes : List ℕ) → b ≢ 72 → b ≢ 13 → b ≢ 10 → (blank : List LineEnd) (minor : ℕ) (rest : List ℕ)
    → b ∷ bytes ≡ print_blank blank ++ (print_version minor ++ rest) → ⊥
starts b bytes h r n [] minor rest e = h cc
starts b bytes h r n (crlf ∷ ends) minor rest e = r cc
starts b bytes h r n (lf ∷ ends) minor rest e = n cc

pub never_http : (b : ℕ) (bytes : List ℕ) → b ≢ 72 → b ≢ 13 → b ≢ 10 → NeverHasHead (b ∷ bytes)
unfolding print_response
never_http b bytes not_h not_r not_n more h rest has =
    starts b (bytes ++ more) not_h not_r not_n h.blank h.minor _ (simp append_assoc at has.0.1)

-- ---- the shortest head has 14 bytes

some_end : (e : LineEnd) → 0 < length (print_end e)
some_end crlf = omega arith
some_end lf = omega arith

pub short_has_none : (bytes : List ℕ) → length bytes < 14 → HasNoResponse bytes
unfolding print_response
short_has_none bytes short h rest has =
    let blank = print_blank h.blank in
    let line = print_version h.minor in
    let reason = print_reason h.reason in
    let end = print_end h.line_end in
    let section = print_section h.fields h.last in
    omega (
      arith,
      short,
      ap length has.1,
      has.0.digits.0,
      some_end h.line_end,
      some_end h.last,
      length-append {A = ℕ},
    )
