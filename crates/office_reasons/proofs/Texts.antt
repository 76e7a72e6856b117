-- Names as texts, and what every sentence is.
use Rattle.std.proofs.Common.{◌≡◌, ℕ, ◌*◌, ◌-◌, Bool, true, false, ◌&&◌, List, [], ◌∷◌, ◌++◌, map, refl, sym, ap, ◌∙◌}
use Rattle.std.proofs.lemmas.Bool.{false≢true, ne_eqb}
use Rattle.std.specs.Prelude.{◌==◌, codes, decimal, if◌then◌else◌}
use Rattle.std.specs.List.{list_all}
use Rattle.std.specs.Str.{IsUtf8, is_utf8}
use Rattle.std.proofs.lemmas.Str.{IsUtf8-from_is_utf8, is_utf8-from_IsUtf8}
use Rattle.dbc_advice.specs.Sentence.{visible}
use Rattle.office_reasons.specs.Bits.{bytes_text}
use Rattle.office_reasons.specs.Pieces.{IsSentence, is_printable, shown}

-- UTF-8 is shown as it is
pub shown_text : (bytes : List ℕ) → IsUtf8 bytes → bytes ≡ shown bytes
shown_text bytes h = rw (is_utf8-from_IsUtf8 bytes h) refl

chosen_else : {A : Type 0} (test : Bool) (a b : A) → (test ≡ true → ⊥) → b ≡ (if test then a else b)
chosen_else true a b h = absurd (h refl)
chosen_else false a b h = refl

-- other bytes, which no name has
pub shown_mark : (bytes : List ℕ) → ¬ (IsUtf8 bytes) → codes "?" ≡ shown bytes
shown_mark bytes h = chosen_else (is_utf8 bytes) bytes (codes "?") (λ e. h (IsUtf8-from_is_utf8 bytes e))

-- more bytes than one
pub many_bytes : (n : ℕ) → (n ≡ 0 → ⊥) → (n ≡ 1 → ⊥)
    → decimal n ++ (codes " bytes, bits 0 to " ++ decimal (8 * n - 1)) ≡ bytes_text n
many_bytes n some more =
    chosen_else (n == 1) (codes "1 byte, bits 0 to " ++ decimal (8 * n - 1)) _
    (λ e. false≢true (sym (ne_eqb n 1 more) ∙ e))
    ∙ chosen_else (n == 0) (codes "no bytes") _ (λ e. false≢true (sym (ne_eqb n 0 some) ∙ e))

-- a byte that isn't printable is shown as a question mark
picked : (b : ℕ) (test : Bool) → test ≡ is_printable b → is_printable (if test then b else 63) ≡ true
picked b true e = sym e
picked b false e = refl

all_visible : (bytes : List ℕ) → list_all is_printable (map visible bytes) ≡ true
all_visible [] = refl
all_visible (b ∷ bytes) =
    ap (λ t. t && list_all is_printable (map visible bytes)) (picked b (is_printable b) refl) ∙ all_visible bytes

-- bytes as they are shown are a sentence
pub visible_sentence : (bytes : List ℕ) → IsSentence (map visible bytes)
visible_sentence bytes = all_visible bytes
