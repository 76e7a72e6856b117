-- A text has at most one first token, and so at most one list of tokens.
use Rattle.dbc_grammar.proofs.Common.{◌≡◌, ℕ, ◌+◌, ◌<◌, List, [], ◌∷◌, ◌++◌, length, take, drop, refl, sym, ap, subst}
use Rattle.dbc_grammar.proofs.Common.{◌∙◌, arith, prefix_len, append-nil, length-append, take_at, drop_at, Stops}
use Rattle.dbc_grammar.proofs.Common.{prefix_exact}
use Rattle.dbc_grammar.specs.declared.token.TokenKind.{TokenKind}
use Rattle.dbc_grammar.specs.Spelling.{Spells, is_gap}
use Rattle.dbc_grammar.specs.Token.{Token}
use Rattle.dbc_grammar.specs.Tokens.{HasTokens, IsFirst, IsGap}
use Rattle.dbc_grammar.proofs.TokenBytes.{begins_further, kind_is_no_gap, one_kind, spelling_begins}

-- a gap ends where a token begins
pub gap_stops : (kind : TokenKind) (word rest : List ℕ) → Spells kind word → Stops is_gap (word ++ rest)
gap_stops kind word rest h =
    let b = begins_further kind word rest h in
    rw b.parts (kind_is_no_gap b.first kind b.kind_begins)

pub first_gap_len : (offset : ℕ) (bytes : List ℕ) (t : Token) (rest : List ℕ) → (f : IsFirst offset bytes t rest)
    → prefix_len is_gap bytes ≡ length f.gap
first_gap_len offset bytes t rest f =
    ap (prefix_len is_gap) f.parts
    ∙ prefix_exact is_gap f.gap (t.text ++ rest) f.gap_is (gap_stops t.kind t.text rest f.spelled)

pub after_first_gap : (offset : ℕ) (bytes : List ℕ) (t : Token) (rest : List ℕ) → IsFirst offset bytes t rest
    → drop (prefix_len is_gap bytes) bytes ≡ t.text ++ rest
after_first_gap offset bytes t rest f =
    ap (drop (prefix_len is_gap bytes)) f.parts
    ∙ drop_at f.gap (t.text ++ rest) (prefix_len is_gap bytes) (sym (first_gap_len offset bytes t rest f))

-- a spelling is not empty
pub spelling_some : (kind : TokenKind) (word : List ℕ) → Spells kind word → 0 < length word
spelling_some kind word h = let b = spelling_begins kind word h in rw b.parts (omega arith)

same_token : (t u : Token) → t.kind ≡ u.kind → t.start ≡ u.start → t.end ≡ u.end → t.text ≡ u.text → t ≡ u
same_token t u k s e w = λ i. record { kind = k i; start = s i; end = e i; text = w i }

pub first_once : (offset : ℕ) (bytes : List ℕ) (t u : Token) (rest more : List ℕ) → IsFirst offset bytes t rest
    → IsFirst offset bytes u more → (t ≡ u) × (rest ≡ more)
first_once offset bytes t u rest more f g =
    let here : t.text ++ rest ≡ u.text ++ more = sym (after_first_gap offset bytes t rest f)
    ∙ after_first_gap offset bytes u more g in
    let gaps : length f.gap ≡ length g.gap = sym (first_gap_len offset bytes t rest f)
    ∙ first_gap_len offset bytes u more g in
    let le = g.longest t.kind t.text rest f.spelled (sym here) in
    let ge = f.longest u.kind u.text more g.spelled here in
    let long : length t.text ≡ length u.text = omega arith in
    let text : t.text ≡ u.text = sym (take_at t.text rest (length t.text) refl) ∙ ap (take (length t.text)) here
    ∙ take_at u.text more (length t.text) (sym long) in
    let left : rest ≡ more = sym (drop_at t.text rest (length t.text) refl) ∙ ap (drop (length t.text)) here
    ∙ drop_at u.text more (length t.text) (sym long) in
    let kind : t.kind ≡ u.kind = one_kind t.kind u.kind _ _ (begins_further t.kind t.text rest f.spelled)
    (begins_further u.kind u.text more g.spelled) here in
    let start : t.start ≡ u.start = omega (arith, f.start, g.start) in
    (same_token t u kind start (omega (arith, f.end, g.end)) text, left)

-- a gap alone has no first token
pub gap_has_none : (offset : ℕ) (bytes : List ℕ) (t : Token) (rest : List ℕ) → IsGap bytes → IsFirst offset bytes t rest
    → ⊥
gap_has_none offset bytes t rest h f =
    let all : prefix_len is_gap bytes ≡ length bytes = ap (prefix_len is_gap) (sym (append-nil bytes))
    ∙ prefix_exact is_gap bytes [] h tt in
    let long : length bytes ≡ length f.gap + length (t.text ++ rest) = ap length f.parts
    ∙ length-append f.gap (t.text ++ rest) in
    omega (arith, first_gap_len offset bytes t rest f, length-append t.text rest, spelling_some t.kind t.text f.spelled)

pub tokens_once : (offset : ℕ) (bytes : List ℕ) (ts us : List Token) → HasTokens offset bytes ts
    → HasTokens offset bytes us → ts ≡ us
tokens_once offset bytes [] [] h k = refl
tokens_once offset bytes [] (u ∷ us) h (rest, f, more) = absurd (gap_has_none offset bytes u rest h f)
tokens_once offset bytes (t ∷ ts) [] (rest, f, more) k = absurd (gap_has_none offset bytes t rest k f)
tokens_once offset bytes (t ∷ ts) (u ∷ us) (rest, f, ft) (more, g, gu) =
    let (token, left) = first_once offset bytes t u rest more f g in
    let tail : HasTokens u.end more ts =
    subst (λ v. HasTokens v.end more ts) token (subst (λ v. HasTokens t.end v ts) left ft) in
    ap (λ v. v ∷ ts) token ∙ ap (λ v. u ∷ v) (tokens_once u.end more ts us tail gu)
