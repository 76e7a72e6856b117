-- Bytes as they are shown are printable.
use Rattle.std.proofs.Common.{◌≡◌, ℕ, Bool, true, false, ◌&&◌, List, [], ◌∷◌, map, refl, sym, ap, ◌∙◌}
use Rattle.std.specs.Prelude.{if◌then◌else◌}
use Rattle.std.specs.List.{list_all}
use Rattle.dbc_advice.specs.Sentence.{visible}
use Rattle.desk_advice.specs.Line.{IsLine, is_printable, line_text}

-- a byte that isn't printable is shown as a question mark
picked : (b : ℕ) (test : Bool) → test ≡ is_printable b → is_printable (if test then b else 63) ≡ true
picked b true e = sym e
picked b false e = refl

all_visible : (bytes : List ℕ) → list_all is_printable (map visible bytes) ≡ true
all_visible [] = refl
all_visible (b ∷ bytes) =
    ap (λ t. t && list_all is_printable (map visible bytes)) (picked b (is_printable b) refl) ∙ all_visible bytes

-- and a line feed after them makes a line
pub visible_line : (text line : List ℕ) → line ≡ line_text text → IsLine line
visible_line text line made = (map visible text, made, all_visible text)
