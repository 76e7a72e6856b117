-- The fault of a text in which no token begins at some offset: that offset is one of the text.
use Rattle.dbc_read.proofs.Common.{◌≡◌, ◌≤◌, ◌+◌, ◌++◌, ◌∷◌, ℕ, Bool, true, false, List, [], Some, Err, length, refl}
use Rattle.dbc_read.proofs.Common.{ap, arith, LexFault, StrayByte, lexed, Token, fault_of, ReadFault}
use Rattle.std.proofs.Common.{min}
use Rattle.std.specs.Prelude.{if◌then◌else◌, Result}
use Rattle.std.proofs.lemmas.List.{length-append}
use Rattle.dbc_grammar.specs.Lexing.{UnclosedText}
use Rattle.dbc_grammar.specs.Spelling.{is_quote}
use Rattle.dbc_grammar.specs.TokenLaw.{StopsWith}
use Rattle.dbc_grammar.proofs.TokenExact.{fault_exact}

offset_is : (quote : Bool) (n : ℕ) → (fault_of (if quote then UnclosedText n else StrayByte n)).at ≡ n
offset_is true n = refl
offset_is false n = refl

stops_within : (offset : ℕ) (bytes : List ℕ) (tokens : List Token) (cause : LexFault)
    → StopsWith offset bytes tokens cause → (fault_of cause).at ≤ offset + length bytes
stops_within offset bytes [] cause h =
    let at = ap (λ (f : LexFault). (fault_of f).at) h.fault_is in
    let is = offset_is (is_quote h.first) (offset + length h.gap) in
    let parts = ap length h.parts in
    omega (arith, at, is, parts, length-append {A = ℕ})
stops_within offset bytes (t ∷ ts) cause (rest, first, more) =
    let later = stops_within t.end rest ts cause more in
    let parts = ap length first.parts in
    let sum = length-append first.gap (t.text ++ rest) in
    let inner = length-append t.text rest in
    let start = first.start in
    let end = first.end in
    omega (arith, later, parts, sum, inner, start, end)

pub fault_within : (bytes : List ℕ) (cause : LexFault) → (lexed 0 bytes).fault ≡ Some cause
    → (fault_of cause).at ≤ length bytes
fault_within bytes cause e =
    let read = (fault_exact 0 bytes (lexed 0 bytes).tokens cause).1
    (λ i. record { tokens = (lexed 0 bytes).tokens; fault = e i }) in
    let h = stops_within 0 bytes (lexed 0 bytes).tokens cause read in
    omega (arith, h)

-- what keeps offsets within the text leaves it as it is
pub fault_stays : {X : Type 0} (bytes : List ℕ) (cause : LexFault) (fault : ReadFault)
    → (lexed 0 bytes).fault ≡ Some cause → ◌≡◌ {A = Result X ReadFault} (Err fault) (Err (fault_of cause))
    → ◌≡◌ {A = Result X ReadFault} (Err (record { code = fault.code; at = min fault.at (length bytes) }))
    (Err (fault_of cause))
fault_stays {X} bytes cause fault e is =
    let same : fault ≡ fault_of cause = cc in
    let within = fault_within bytes cause e in
    let kept : min (fault_of cause).at (length bytes) ≡ (fault_of cause).at = omega (arith, within) in
    rw same (ap (λ n. Err (record { code = (fault_of cause).code; at = n })) kept)
