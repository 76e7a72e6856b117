-- What is well-formed is ASCII.
use Rattle.std.proofs.Common.{◌≡◌, ◌≤◌, ◌==◌, ◌&&◌, ◌||◌, ℕ, Bool, true, false, List, [], ◌∷◌, if◌then◌else◌, refl, ap}
use Rattle.std.proofs.Common.{◌∙◌, ◌++◌, arith, not, sym}
use Rattle.std.specs.Prelude.{codes, nat_le}
use Rattle.std.specs.List.{list_all}
use Rattle.std.proofs.lemmas.Bool.{and_from, and_parts, false≢true, leb-true, ne_eqb}
use Rattle.std.proofs.lemmas.Bool.Decides.{nat_tests}
use Rattle.html.specs.Characters.{is_between}
use Rattle.html.specs.Reading.{is_digit}
use Rattle.html.specs.Text.{is_mark, is_plain}
use Rattle.markup.specs.Reader.{AreAscii, Part, Place, Reader, after, ampersand, at, began, begins, content, digits, due}
use Rattle.markup.specs.Reader.{ended, ends, equals, hash, in_tag, in_text, in_value, is_ascii, is_letter, less, letters}
use Rattle.markup.specs.Reader.{may_be, named, number, only, part_after, passed, read, refused, slash, step, styled}
use Rattle.markup.specs.Reader.{tagged, titled, value, when_due, within}

-- ---- tests that no byte beyond ASCII passes

visible : (b : ℕ) → 32 ≤ b → b ≤ 126 → is_ascii b ≡ true
visible b low high =
    let shows : is_between 32 126 b ≡ true = grind (arith, nat_tests) in
    ap (λ t. t || (b == 9 || b == 10)) shows

range_ascii : (low high b : ℕ) → 32 ≤ low → high ≤ 126 → is_between low high b ≡ true → is_ascii b ≡ true
range_ascii low high b l k h =
    let parts = and_parts (nat_le low b) (nat_le b high) h in
    let above : low ≤ b = leb-true low b parts.0 in
    let below : b ≤ high = leb-true b high parts.1 in
    visible b (omega arith) (omega arith)

none : (t u : Bool) → (t ≡ true → u ≡ true) → u ≡ false → t ≡ false
none true u h off = absurd (false≢true (sym off ∙ h refl))
none false u h off = refl

neither : (t u : Bool) → t ≡ false → u ≡ false → (t || u) ≡ false
neither t u e h = ap (λ v. v || u) e ∙ h

point_off : (n b : ℕ) → is_ascii n ≡ true → is_ascii b ≡ false → (b == n) ≡ false
point_off n b on off = ne_eqb b n (λ e. false≢true (sym off ∙ ap is_ascii e ∙ on))

digit_off : (b : ℕ) → is_ascii b ≡ false → is_digit b ≡ false
digit_off b off = none (is_digit b) (is_ascii b) (range_ascii 48 57 b (omega arith) (omega arith)) off

letter_off : (b : ℕ) → is_ascii b ≡ false → is_letter b ≡ false
letter_off b off =
    neither (is_between 97 122 b) (is_digit b || b == 45)
    (none (is_between 97 122 b) (is_ascii b) (range_ascii 97 122 b (omega arith) (omega arith)) off)
    (neither (is_digit b) (b == 45) (digit_off b off) (point_off 45 b refl off))

plain_off : (b : ℕ) → is_ascii b ≡ false → is_plain b ≡ false
plain_off b off = ap (λ t. t && not (is_mark b)) off

part_off : (part : Part) (b : ℕ) → is_ascii b ≡ false → may_be part b ≡ false
part_off letters b off = neither (b == 38) (is_plain b) (point_off 38 b refl off) (plain_off b off)
part_off ampersand b off = point_off 35 b refl off
part_off hash b off = digit_off b off
part_off digits b off = neither (b == 59) (is_digit b) (point_off 59 b refl off) (digit_off b off)

-- ---- the reader refuses such a byte

only_off : (t : Bool) (r : Reader) → t ≡ false → only t r ≡ refused
only_off t r off = ap (λ u. only u r) off

-- a byte beside that one, and refused
else_off : (n b : ℕ) (r s : Reader) → is_ascii n ≡ true → is_ascii b ≡ false → s ≡ refused
    → (if b == n then r else s) ≡ refused
else_off n b r s on off h = ap (λ t. if t then r else s) (point_off n b on off) ∙ h

text_off : (end : ℕ) (next : Reader) (place : Part → Place) (part : Part) (opened : List (List ℕ)) (b : ℕ)
    → is_ascii end ≡ true → is_ascii b ≡ false → in_text end next place part opened b ≡ refused
text_off end next place letters opened b on off =
    else_off end b next (only (may_be letters b) (at (place (part_after letters b)) opened)) on off
    (only_off (may_be letters b) (at (place (part_after letters b)) opened) (part_off letters b off))
text_off end next place ampersand opened b on off =
    only_off (may_be ampersand b) (at (place (part_after ampersand b)) opened) (part_off ampersand b off)
text_off end next place hash opened b on off =
    only_off (may_be hash b) (at (place (part_after hash b)) opened) (part_off hash b off)
text_off end next place digits opened b on off =
    only_off (may_be digits b) (at (place (part_after digits b)) opened) (part_off digits b off)

tag_off : (opened : List (List ℕ)) (b : ℕ) → is_ascii b ≡ false → in_tag opened b ≡ refused
tag_off opened b off =
    else_off 32 b (at (named []) opened) (if b == 62 then began opened else only (b == 47) (at slash opened)) refl off
    (else_off 62 b (began opened) (only (b == 47) (at slash opened)) refl off
    (only_off (b == 47) (at slash opened) (point_off 47 b refl off)))

step_off : (place : Place) (opened : List (List ℕ)) (b : ℕ) → is_ascii b ≡ false → step place opened b ≡ refused
step_off (content part) opened b off = text_off 60 (at less opened) content part opened b refl off
step_off (titled part) opened b off =
    text_off 60 (at (due (codes "/") (ends [])) opened) titled part opened b refl off
step_off styled opened b off =
    else_off 60 b (at (due (codes "/") (ends [])) opened) (only (is_ascii b) (at styled opened)) refl off
    (only_off (is_ascii b) (at styled opened) off)
step_off less opened b off =
    let other = only (is_letter b) (at (begins (b ∷ [])) opened) in
    let doctype = at (due (codes "DOCTYPE html>") (content letters)) opened in
    else_off 47 b (at (ends []) opened) (if b == 33 then doctype else other) refl off
    (else_off 33 b doctype other refl off
    (only_off (is_letter b) (at (begins (b ∷ [])) opened) (letter_off b off)))
step_off (begins name) opened b off =
    ap (λ t. if t then at (begins (name ++ b ∷ [])) opened else in_tag (name ∷ opened) b) (letter_off b off)
    ∙ tag_off (name ∷ opened) b off
step_off (ends name) opened b off =
    let other = at (ends (name ++ b ∷ [])) opened in
    else_off 62 b (ended name opened) (only (is_letter b) other) refl off
    (only_off (is_letter b) other (letter_off b off))
step_off tagged opened b off = tag_off opened b off
step_off (named name) opened b off =
    let other = at (named (name ++ b ∷ [])) opened in
    else_off 61 b (at (equals name) opened) (only (is_letter b) other) refl off
    (only_off (is_letter b) other (letter_off b off))
step_off (equals name) opened b off = only_off (b == 34) (in_value name opened) (point_off 34 b refl off)
step_off (value part) opened b off = text_off 34 (at tagged opened) value part opened b refl off
step_off number opened b off =
    else_off 34 b (at tagged opened) (only (is_digit b) (at number opened)) refl off
    (only_off (is_digit b) (at number opened) (digit_off b off))
step_off slash opened b off = only_off (b == 62) (passed opened) (point_off 62 b refl off)
step_off (due [] next) opened b off = refl
step_off (due (d ∷ bytes) next) opened b off =
    ap (λ t. only (t && b == d) (at (when_due bytes next) opened)) off

after_off : (r : Reader) (b : ℕ) → is_ascii b ≡ false → after r b ≡ refused
after_off (at place opened) b off = step_off place opened b off
after_off refused b off = refl

-- ---- all

read_refused : (bs : List ℕ) → read refused bs ≡ refused
read_refused [] = refl
read_refused (b ∷ bs) = read_refused bs

not_refused : (r : Reader) (place : Place) (opened : List (List ℕ)) → r ≡ refused → r ≡ at place opened → ⊥
not_refused r place opened e h = cc

first_ascii : (r : Reader) (b : ℕ) (bs : List ℕ) (t : Bool) → is_ascii b ≡ t → read r (b ∷ bs) ≡ within []
    → is_ascii b ≡ true
first_ascii r b bs true is h = is
first_ascii r b bs false is h =
    let off : read r (b ∷ bs) ≡ refused = ap (λ q. read q bs) (after_off r b is) ∙ read_refused bs in
    absurd (not_refused (read r (b ∷ bs)) (content letters) [] off h)

all_ascii : (r : Reader) (bs : List ℕ) → read r bs ≡ within [] → list_all is_ascii bs ≡ true
all_ascii r [] h = refl
all_ascii r (b ∷ bs) h =
    and_from (is_ascii b) (list_all is_ascii bs) (first_ascii r b bs (is_ascii b) refl h) (all_ascii (after r b) bs h)

pub are_ascii : AreAscii
are_ascii bytes h = all_ascii (within []) bytes h
