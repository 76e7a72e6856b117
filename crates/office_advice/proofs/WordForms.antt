-- Words by their first `=`, and lines of few words.
use Rattle.std.proofs.Common.{◌≡◌, ◌==◌, ◌<◌, ℕ, Bool, true, false, List, ◌∷◌, Option, Some, None, length, refl, ap}
use Rattle.std.proofs.Common.{◌∙◌, arith}
use Rattle.std.specs.Prelude.{if◌then◌else◌, is_some}
use Rattle.std.specs.List.{after_first, before_first, list_any}
use Rattle.base.specs.Split.{split_once}
use Rattle.office_script.specs.Escapes.{unescaped}
use Rattle.office_script.specs.declared.keys.Dash.{Dash}
use Rattle.office_advice.specs.Cause.{form_cause, words_wrong, wrong_at}
use Rattle.office_advice.specs.declared.cause.Cause.{Cause}
use Rattle.office_advice.specs.declared.cause.Cause.TheVariants.{Escape, NoField, Short}

-- why a written value stands for no bytes
abbrev pub escape_cause : Option (List ℕ) → Option Cause
escape_cause value = if is_some value then None else Some Escape

none_step : (has : Bool) (parts : List ℕ × List ℕ) (cause : Option Cause) → None ≡ (if has then Some parts else None)
    → Some NoField ≡ (if has then cause else Some NoField)
none_step true parts cause e = cc
none_step false parts cause e = refl

-- a word with no `=`
pub no_split : (word : List ℕ) → None ≡ split_once 61 word → Some NoField ≡ form_cause word
no_split word e =
    none_step (list_any (λ b. b == 61) word) (before_first (λ b. b == 61) word, after_first (λ b. b == 61) word)
    (escape_cause (unescaped (after_first (λ b. b == 61) word))) e

some_step : (has : Bool) (a b : List ℕ × List ℕ) → Some a ≡ (if has then Some b else None)
    → escape_cause (unescaped a.1) ≡ (if has then escape_cause (unescaped b.1) else Some NoField)
some_step true a b e = let same : a ≡ b = cc in ap (λ (p : List ℕ × List ℕ). escape_cause (unescaped p.1)) same
some_step false a b e = cc

-- a word round its first `=`, whose value was read
pub value_split : (word name written : List ℕ) (value : Option (List ℕ)) → Some (name, written) ≡ split_once 61 word
    → value ≡ unescaped written → escape_cause value ≡ form_cause word
value_split word name written value e is =
    ap escape_cause is
    ∙ some_step (list_any (λ b. b == 61) word) (name, written)
    (before_first (λ b. b == 61) word, after_first (λ b. b == 61) word) e

-- fewer than three words
pub short_words : (dash : Dash) (number : ℕ) (words : List (List ℕ)) → length words < 3
    → Some (wrong_at 0 Short) ≡ words_wrong dash number words
short_words dash number (a ∷ b ∷ c ∷ words) lt = absurd (omega (arith, lt))
short_words dash number it lt = refl
