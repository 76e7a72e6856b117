-- Tokens are slices of the source that they are read of.
use Rattle.dbc_grammar.proofs.Common.{◌≡◌, ℕ, ◌+◌, ◌-◌, List, [], ◌∷◌, ◌++◌, length, take, drop, Option, refl, sym, ap}
use Rattle.dbc_grammar.proofs.Common.{◌∙◌, arith, append_assoc, length-append, drop_at, take_at}
use Rattle.dbc_grammar.specs.Lexing.{LexFault, lexed}
use Rattle.dbc_grammar.specs.Token.{Token}
use Rattle.dbc_grammar.specs.TokenLaw.{AreSlices}
use Rattle.dbc_grammar.proofs.TokenExact.{IsRead, first_of, read_is_there}

slices : (ts : List Token) (o : Option LexFault) (offset : ℕ) (source front bytes : List ℕ) → source ≡ front ++ bytes
    → length front ≡ offset
    → IsRead offset bytes ts o → AreSlices offset source ts
slices [] o offset source front bytes e at h = tt
slices (t ∷ ts) o offset source front bytes e at h =
    let (rest, f, more) = first_of offset bytes t ts o h in
    let whole : source ≡ (front ++ f.gap) ++ (t.text ++ rest) = e ∙ ap (λ v. front ++ v) f.parts
    ∙ sym (append_assoc front f.gap (t.text ++ rest)) in
    let start : length (front ++ f.gap) ≡ t.start = omega (arith, at, f.start, length-append front f.gap) in
    let long : length t.text ≡ t.end - t.start = omega (arith, f.end) in
    let here : drop t.start source ≡ t.text ++ rest = ap (drop t.start) whole
    ∙ drop_at (front ++ f.gap) (t.text ++ rest) t.start start in
    let text : take (t.end - t.start) (drop t.start source) ≡ t.text = ap (take (t.end - t.start)) here
    ∙ take_at t.text rest (t.end - t.start) long in
    let next : source ≡ ((front ++ f.gap) ++ t.text) ++ rest =
    whole ∙ sym (append_assoc (front ++ f.gap) t.text rest) in
    let end : length ((front ++ f.gap) ++ t.text) ≡ t.end =
    omega (arith, start, f.end, length-append (front ++ f.gap) t.text) in
    let all : length source ≡ length ((front ++ f.gap) ++ t.text) + length rest = ap length next
    ∙ length-append ((front ++ f.gap) ++ t.text) rest in
    let tail = slices ts o t.end source ((front ++ f.gap) ++ t.text) rest next end more in
    (omega (arith, f.start), omega (arith, f.end), omega (arith, all, end), sym text, tail)

pub are_slices : (source : List ℕ) → AreSlices 0 source (lexed 0 source).tokens
are_slices source = slices (lexed 0 source).tokens (lexed 0 source).fault 0 source [] source refl refl
    (read_is_there 0 source)
