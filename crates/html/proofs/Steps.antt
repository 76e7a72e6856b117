-- What is written of bytes, one byte after the other.
use Rattle.std.proofs.Common.{◌≡◌, ◌+◌, ◌-◌, ◌<◌, ◌≤◌, ◌++◌, ℕ, suc, List, ◌∷◌, Option, Some, None, length, drop}
use Rattle.std.proofs.Common.{get_or, arith, refl, sym, ap, ◌∙◌, append_assoc}
use Rattle.std.specs.List.{cons_option, flat_map}
use Rattle.std.proofs.lemmas.List.{drop_more}
use Rattle.html.specs.declared.characters.Character.{Character}
use Rattle.html.specs.Characters.{char_at}
use Rattle.html.specs.Text.{shown, shown_after, written, written_after, written_shown}

-- what is shown of a character, and what is written of the others
one_shown : (o : Option ℕ) (cs : List ℕ) → flat_map written (cons_option o cs) ≡ written_shown o ++ flat_map written cs
one_shown None cs = refl
one_shown (Some c) cs = refl

pub begun : (b : ℕ) (bs : List ℕ)
    → written_after 0 (b ∷ bs) ≡ written_shown (shown (char_at b bs).number) ++ written_after (char_at b bs).more bs
begun b bs = one_shown (shown (char_at b bs).number) (shown_after (char_at b bs).more bs)

-- a byte that belongs to a character before it
pub skipped : (start before bs : List ℕ) (i skip less : ℕ) → i < length bs → 0 < skip → less ≡ skip - 1
    → start ≡ before ++ written_after skip (drop i bs) → start ≡ before ++ written_after less (drop (i + 1) bs)
skipped start before bs i skip less within more is so =
    let e : skip ≡ suc less = omega arith in
    so ∙ ap (λ k. before ++ written_after k (drop i bs)) e
    ∙ ap (λ v. before ++ written_after (suc less) v) (drop_more bs i 0 within)

-- a byte that begins a character
pub stepped : (start before after bs later : List ℕ) (i b skip : ℕ) (x : Character) → i < length bs → skip ≤ 0
    → b ≡ get_or bs i 0 → later ≡ drop (i + 1) bs → x ≡ char_at b later
    → start ≡ before ++ written_after skip (drop i bs) → after ≡ before ++ written_shown (shown x.number)
    → start ≡ after ++ written_after x.more (drop (i + 1) bs)
stepped start before after bs later i b skip x within none is_b is_later is_x so more =
    let e : skip ≡ 0 = omega arith in
    let rest = drop (i + 1) bs in
    let same : x ≡ char_at b rest = is_x ∙ ap (char_at b) is_later in
    let piece = written_shown (shown x.number) in
    so ∙ ap (λ k. before ++ written_after k (drop i bs)) e
    ∙ ap (λ v. before ++ written_after 0 v) (drop_more bs i 0 within ∙ ap (λ y. y ∷ rest) (sym is_b))
    ∙ ap (λ v. before ++ v)
    (begun b rest ∙ ap (λ (y : Character). written_shown (shown y.number) ++ written_after y.more rest) (sym same))
    ∙ sym (append_assoc before piece (written_after x.more rest))
    ∙ ap (λ v. v ++ written_after x.more rest) (sym more)
