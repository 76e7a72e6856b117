-- Texts by their pieces, and by the test that computes them.
use Rattle.dbc_words.proofs.Common.{◌≡◌, ◌<◌, ◌+◌, ℕ, suc, Bool, true, false, List, [], ◌∷◌, ◌++◌, length, drop, get_or}
use Rattle.dbc_words.proofs.Common.{refl, sym, ap, ◌∙◌, AllByRecursion, false≢true}
use Rattle.std.proofs.Common.{◌≢◌, ◌==◌, drop-cons, add-one, Decides, if◌then◌else◌}
use Rattle.std.specs.List.{flat_map}
use Rattle.std.proofs.lemmas.Bool.Decides.{Decides-eqb}
use Rattle.dbc_words.specs.Text.{IsPiece, IsText, is_text, is_text_after}

with_piece : (piece bytes : List ℕ) → IsPiece piece → IsText bytes → IsText (piece ++ bytes)
with_piece piece bytes h text =
    record { pieces = piece ∷ text.pieces; each = (h, text.each); whole = ap (λ v. piece ++ v) text.whole }

differs : (b c : ℕ) → b == c ≡ false → b ≢ c
differs b c e same = false≢true (sym e ∙ (Decides-eqb b c).1 same)

are_apart : (b c : ℕ) → b ≢ c → b == c ≡ false
are_apart b c h = not_true (b == c) (λ e. h ((Decides-eqb b c).0 e))
  where
    not_true : (t : Bool) → (t ≡ true → ⊥) → t ≡ false
    not_true true f = absurd (f refl)
    not_true false f = refl

last_piece : (b : ℕ) (quote slash : Bool) → b == 34 ≡ quote → b == 92 ≡ slash
    → (if quote then false else is_text_after slash []) ≡ true → IsText (b ∷ [])
last_piece b true slash q s h = absurd (false≢true h)
last_piece b false true q s h = absurd (false≢true h)
last_piece b false false q s h =
    with_piece (b ∷ []) [] (differs b 34 q, differs b 92 s) (record { pieces = []; each = tt; whole = refl })

next_piece : (b c : ℕ) (bytes : List ℕ) (quote slash : Bool) → b == 34 ≡ quote → b == 92 ≡ slash
    → (is_text bytes ≡ true → IsText bytes) → (is_text (c ∷ bytes) ≡ true → IsText (c ∷ bytes))
    → (if quote then false else is_text_after slash (c ∷ bytes)) ≡ true → IsText (b ∷ c ∷ bytes)
next_piece b c bytes true slash q s rest more h = absurd (false≢true h)
next_piece b c bytes false true q s rest more h = with_piece (b ∷ c ∷ []) bytes ((Decides-eqb b 92).0 s) (rest h)
next_piece b c bytes false false q s rest more h =
    with_piece (b ∷ []) (c ∷ bytes) (differs b 34 q, differs b 92 s) (more h)

pieces_of : (bytes : List ℕ) → is_text bytes ≡ true → IsText bytes
pieces_of [] h = record { pieces = []; each = tt; whole = refl }
pieces_of (b ∷ []) h = last_piece b (b == 34) (b == 92) refl refl h
pieces_of (b ∷ c ∷ bytes) h =
    next_piece b c bytes (b == 34) (b == 92) refl refl (pieces_of bytes) (pieces_of (c ∷ bytes)) h

join_is_text : (pieces : List (List ℕ)) → AllByRecursion IsPiece pieces
    → is_text (flat_map (λ piece. piece) pieces) ≡ true
join_is_text [] h = refl
join_is_text ([] ∷ pieces) h = absurd h.0
join_is_text ((b ∷ []) ∷ pieces) h = rw (are_apart b 34 h.0.0, are_apart b 92 h.0.1) (join_is_text pieces h.1)
join_is_text ((b ∷ c ∷ []) ∷ pieces) h = rw h.0 (join_is_text pieces h.1)
join_is_text ((b ∷ c ∷ d ∷ more) ∷ pieces) h = absurd h.0

pub text-Decides : (bytes : List ℕ) → Decides (is_text bytes) (IsText bytes)
text-Decides bytes = (pieces_of bytes, λ text. ap is_text (sym text.whole) ∙ join_is_text text.pieces text.each)

-- the test at one byte more: one that is escaped, and one that means itself or escapes the next
pub after_escaped : (bytes : List ℕ) (i : ℕ) (escaped next r : Bool) → i < length bytes → escaped ≡ true → next ≡ false
    → is_text_after escaped (drop i bytes) ≡ r → is_text_after next (drop (i + 1) bytes) ≡ r
after_escaped bytes i escaped next r h t n e =
    let here : is_text_after true (get_or bytes i 0 ∷ drop (suc i) bytes) ≡ r = rw (t, drop-cons bytes i 0 h) at e in
    rw (n, add-one) here

pub after_plain : (bytes : List ℕ) (i : ℕ) (escaped next r : Bool) → i < length bytes → escaped ≡ false
    → get_or bytes i 0 ≢ 34
    → next ≡ (get_or bytes i 0 == 92) → is_text_after escaped (drop i bytes) ≡ r
    → is_text_after next (drop (i + 1) bytes) ≡ r
after_plain bytes i escaped next r h t q n e =
    let here : is_text_after false (get_or bytes i 0 ∷ drop (suc i) bytes) ≡ r = rw (t, drop-cons bytes i 0 h) at e in
    rw (n, add-one) (rw (are_apart (get_or bytes i 0) 34 q) at here)
