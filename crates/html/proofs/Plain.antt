-- A plain text is escaped to itself.
use Rattle.std.proofs.Common.{◌≡◌, ◌+◌, ◌%◌, ◌≤◌, ◌==◌, ◌++◌, ◌||◌, not, ℕ, true, false, cond, List, [], ◌∷◌, Some}
use Rattle.std.proofs.Common.{None, refl, sym, ap, ◌∙◌, arith, inl, inr, ◌⊎◌}
use Rattle.std.specs.Prelude.{nat_le, nat_lt, slice_index}
use Rattle.std.specs.List.{list_all}
use Rattle.std.proofs.lemmas.Bool.{and_from, and_parts, eqb-true, leb-true, or_cases}
use Rattle.std.proofs.lemmas.Bool.Decides.{nat_tests}
use Rattle.html.specs.declared.characters.Character.{Character}
use Rattle.html.specs.Characters.{char_at, is_between, longer, written_by}
use Rattle.html.specs.Text.{escaped, is_control, is_mark, is_plain, is_unshown, reference, shown, written}
use Rattle.html.specs.Text.{written_after, written_shown}
use Rattle.html.proofs.Steps.{begun}

-- ---- which bytes are plain

visible : (b : ℕ) → is_between 32 126 b ≡ true → (32 ≤ b) × (b ≤ 126)
visible b h =
    let ends = and_parts (nat_le 32 b) (nat_le b 126) h in
    (leb-true 32 b ends.0, leb-true b 126 ends.1)

blank : (b : ℕ) → (b == 9 || b == 10) ≡ true → (b ≡ 9) ⊎ (b ≡ 10)
blank b h =
    let either = or_cases (b == 9) (b == 10) h in
    elim either [ inl e ↦ inl (eqb-true b 9 e) | inr e ↦ inr (eqb-true b 10 e) ]

plain_cases : (b : ℕ) → is_plain b ≡ true → ((32 ≤ b) × (b ≤ 126)) ⊎ ((b ≡ 9) ⊎ (b ≡ 10))
plain_cases b h =
    let shows = and_parts (is_between 32 126 b || (b == 9 || b == 10)) (not (is_mark b)) h in
    let either = or_cases (is_between 32 126 b) (b == 9 || b == 10) shows.0 in
    elim either [ inl e ↦ inl (visible b e) | inr e ↦ inr (blank b e) ]

-- the bytes from `(` on but for `<` and `>` are plain
pub plain_from : (b : ℕ) → 40 ≤ b → b ≤ 126 → (b == 60) ≡ false → (b == 62) ≡ false → is_plain b ≡ true
plain_from b low high less greater =
    let shows : is_between 32 126 b ≡ true = grind (arith, nat_tests) in
    let marks : is_mark b ≡ false = grind (arith, nat_tests) in
    and_from (is_between 32 126 b || (b == 9 || b == 10)) (not (is_mark b))
    (ap (λ t. t || (b == 9 || b == 10)) shows) (ap not marks)

-- ---- one of them

ascii : (b : ℕ) → b ≤ 126 → nat_lt b 128 ≡ true
ascii b h = grind (arith, nat_tests)

is_ascii : (b : ℕ) → is_plain b ≡ true → nat_lt b 128 ≡ true
is_ascii b h =
    let cases = plain_cases b h in
    elim cases [ inl range ↦ ascii b range.1 | inr either ↦ blank_ascii either ]
  where
    blank_ascii : (b ≡ 9) ⊎ (b ≡ 10) → nat_lt b 128 ≡ true
    blank_ascii (inl e) = ap (λ n. nat_lt n 128) e
    blank_ascii (inr e) = ap (λ n. nat_lt n 128) e

one_byte : (b : ℕ) (bs : List ℕ) → is_plain b ≡ true → char_at b bs ≡ written_by 0 b
one_byte b bs h =
    ap (λ t. cond t (written_by 0 b) (longer b (slice_index bs 0) (slice_index bs 1) (slice_index bs 2))) (is_ascii b h)

itself : (b : ℕ) → 32 ≤ b → b ≤ 126 → shown b ≡ Some b
itself b low high =
    let returned : (b == 13) ≡ false = grind (arith, nat_tests) in
    let control : is_control b ≡ false = grind (arith, nat_tests) in
    let rest : b % 65536 ≡ b = omega arith in
    let later : is_between 127 159 b ≡ false = grind (arith, nat_tests) in
    let last : nat_le 65534 b ≡ false = grind (arith, nat_tests) in
    let apart : is_between 64976 65007 b ≡ false = grind (arith, nat_tests) in
    let unshown : is_unshown b ≡ false =
    ap (λ t. t || (nat_le 65534 (b % 65536) || is_between 64976 65007 b)) later
    ∙ ap (λ n. nat_le 65534 n || is_between 64976 65007 b) rest
    ∙ ap (λ t. t || is_between 64976 65007 b) last ∙ apart in
    ap (λ t. cond t None (cond (is_control b) (Some (9216 + b)) (cond (is_unshown b) (Some 65533) (Some b)))) returned
    ∙ ap (λ t. cond t (Some (9216 + b)) (cond (is_unshown b) (Some 65533) (Some b))) control
    ∙ ap (λ t. cond t (Some 65533) (Some b)) unshown

is_shown : (b : ℕ) → is_plain b ≡ true → shown b ≡ Some b
is_shown b h =
    let cases = plain_cases b h in
    elim cases [ inl range ↦ itself b range.0 range.1 | inr either ↦ blank_shown either ]
  where
    blank_shown : (b ≡ 9) ⊎ (b ≡ 10) → shown b ≡ Some b
    blank_shown (inl e) = ap shown e ∙ sym (ap Some e)
    blank_shown (inr e) = ap shown e ∙ sym (ap Some e)

written_itself : (b : ℕ) → is_plain b ≡ true → written b ≡ b ∷ []
written_itself b h = ap (λ t. cond t (b ∷ []) (reference b)) h

one_kept : (b : ℕ) (bs : List ℕ) → is_plain b ≡ true → escaped (b ∷ bs) ≡ b ∷ escaped bs
one_kept b bs h =
    begun b bs
    ∙ ap (λ (x : Character). written_shown (shown x.number) ++ written_after x.more bs) (one_byte b bs h)
    ∙ ap (λ o. written_shown o ++ written_after 0 bs) (is_shown b h)
    ∙ ap (λ v. v ++ written_after 0 bs) (written_itself b h)

-- ---- the law

pub kept : (bytes : List ℕ) → list_all is_plain bytes ≡ true → escaped bytes ≡ bytes
kept [] h = refl
kept (b ∷ bs) h =
    let parts = and_parts (is_plain b) (list_all is_plain bs) h in
    one_kept b bs parts.0 ∙ ap (λ v. b ∷ v) (kept bs parts.1)
