-- The parameters of a target, read from its parts.
use Rattle.std.proofs.Common.{◌≡◌, ℕ, true, false, not, ◌==◌, List, [], ◌∷◌, ◌++◌, length, Some, None, refl, arith}
use Rattle.std.specs.List.{list_all, list_any, position_or_len}
use Rattle.std.proofs.Math.Seq.{drop-append-add, take-append_seam}
use Rattle.std.proofs.lemmas.Bool.{and_parts}
use Rattle.std.proofs.lemmas.Bool.Decides.{nat_tests}
use Rattle.base.specs.Split.{split_once}
use Rattle.desk_head.specs.Target.{first_parameter, front_part, later_parts, second_parameter, third_parameter}
use Rattle.desk_head.proofs.TargetParts.{IsPart, all_weaker, is_part_byte}

-- no byte is the separator
abbrev pub Lacks : ℕ → List ℕ → Type 0
Lacks c bytes = list_all (λ b. not (b == c)) bytes ≡ true

differs : (c b : ℕ) → not (b == c) ≡ true → (b == c) ≡ false
differs c b h = grind (arith, nat_tests, h)

any_lacks : (c : ℕ) (bytes : List ℕ) → Lacks c bytes → list_any (λ b. b == c) bytes ≡ false
any_lacks c [] h = refl
any_lacks c (b ∷ bytes) h =
    let parts = and_parts (not (b == c)) (list_all (λ x. not (x == c)) bytes) h in
    rw (differs c b parts.0) (any_lacks c bytes parts.1)

itself : (c : ℕ) → (c == c) ≡ true
itself c = grind (arith, nat_tests)

any_found : (c : ℕ) (bytes rest : List ℕ) → Lacks c bytes → list_any (λ b. b == c) (bytes ++ (c ∷ rest)) ≡ true
any_found c [] rest h = rw (itself c) refl
any_found c (b ∷ bytes) rest h =
    let parts = and_parts (not (b == c)) (list_all (λ x. not (x == c)) bytes) h in
    rw (differs c b parts.0) (any_found c bytes rest parts.1)

position : (c : ℕ) (bytes rest : List ℕ) → Lacks c bytes
    → position_or_len (λ b. b == c) (bytes ++ (c ∷ rest)) ≡ length bytes
position c [] rest h = rw (itself c) refl
position c (b ∷ bytes) rest h =
    let parts = and_parts (not (b == c)) (list_all (λ x. not (x == c)) bytes) h in
    rw (differs c b parts.0) (omega (arith, position c bytes rest parts.1))

pub no_split : (c : ℕ) (bytes : List ℕ) → Lacks c bytes → split_once c bytes ≡ None
no_split c bytes h = rw (any_lacks c bytes h) refl

pub a_split : (c : ℕ) (bytes rest : List ℕ) → Lacks c bytes → split_once c (bytes ++ (c ∷ rest)) ≡ Some (bytes, rest)
a_split c bytes rest h =
    rw (
      any_found c bytes rest h,
      position c bytes rest h,
      take-append_seam bytes (c ∷ rest),
      drop-append-add bytes (c ∷ rest) 1,
    )
    refl

-- ---- parts

not_slash : (b : ℕ) → is_part_byte b ≡ true → not (b == 47) ≡ true
not_slash b h = grind (arith, nat_tests, h)

lacks : (part : List ℕ) → IsPart part → Lacks 47 part
lacks part is = all_weaker is_part_byte (λ b. not (b == 47)) not_slash part is.seen

front_before : (part rest : List ℕ) → IsPart part → front_part (part ++ (47 ∷ rest)) ≡ part
front_before part rest is = rw (a_split 47 part rest (lacks part is)) refl

front_alone : (part : List ℕ) → IsPart part → front_part part ≡ part
front_alone part is = rw (no_split 47 part (lacks part is)) refl

later_than : (part rest : List ℕ) → IsPart part → later_parts (part ++ (47 ∷ rest)) ≡ rest
later_than part rest is = rw (a_split 47 part rest (lacks part is)) refl

-- ---- targets, which begin with a slash and a word

pub first_before : (word part rest : List ℕ) → IsPart word → IsPart part
    → first_parameter (47 ∷ (word ++ (47 ∷ (part ++ (47 ∷ rest))))) ≡ part
first_before word part rest word_is is =
    rw (later_than word (part ++ (47 ∷ rest)) word_is) (front_before part rest is)

pub first_alone : (word part : List ℕ) → IsPart word → IsPart part
    → first_parameter (47 ∷ (word ++ (47 ∷ part))) ≡ part
first_alone word part word_is is = rw (later_than word part word_is) (front_alone part is)

pub second_before : (word first other part rest : List ℕ) → IsPart word → IsPart first → IsPart other → IsPart part
    → second_parameter (47 ∷ (word ++ (47 ∷ (first ++ (47 ∷ (other ++ (47 ∷ (part ++ (47 ∷ rest))))))))) ≡ part
second_before word first other part rest word_is first_is other_is is =
    rw (
      later_than word (first ++ (47 ∷ (other ++ (47 ∷ (part ++ (47 ∷ rest)))))) word_is,
      later_than first (other ++ (47 ∷ (part ++ (47 ∷ rest)))) first_is,
      later_than other (part ++ (47 ∷ rest)) other_is,
    )
    (front_before part rest is)

pub second_alone : (word first other part : List ℕ) → IsPart word → IsPart first → IsPart other → IsPart part
    → second_parameter (47 ∷ (word ++ (47 ∷ (first ++ (47 ∷ (other ++ (47 ∷ part))))))) ≡ part
second_alone word first other part word_is first_is other_is is =
    rw (
      later_than word (first ++ (47 ∷ (other ++ (47 ∷ part)))) word_is,
      later_than first (other ++ (47 ∷ part)) first_is,
      later_than other part other_is,
    )
    (front_alone part is)

pub third_alone : (word first other part last : List ℕ) → IsPart word → IsPart first → IsPart other → IsPart part
    → IsPart last
    → third_parameter (47 ∷ (word ++ (47 ∷ (first ++ (47 ∷ (other ++ (47 ∷ (part ++ (47 ∷ last))))))))) ≡ last
third_alone word first other part last word_is first_is other_is part_is is =
    rw (
      later_than word (first ++ (47 ∷ (other ++ (47 ∷ (part ++ (47 ∷ last)))))) word_is,
      later_than first (other ++ (47 ∷ (part ++ (47 ∷ last)))) first_is,
      later_than other (part ++ (47 ∷ last)) other_is,
      later_than part last part_is,
    )
    (front_alone last is)
