-- The release of a number, and the last one, in the list of all.
use Rattle.store_net.proofs.Common.{◌≡◌, ◌∙◌, ◌+◌, ◌<◌, ℕ, zero, suc, Bool, true, false, cond, List, [], ◌∷◌, ◌++◌}
use Rattle.store_net.proofs.Common.{length, take, take_all, Option, Some, None, slice_get, refl, sym, ap, arith, find}
use Rattle.store_net.proofs.Common.{option_map, nat_tests, take_more, Ident, Sheet, in_last, Net, numbered}
use Rattle.std.proofs.Common.{◌==◌, ◌-◌}
use Rattle.std.proofs.lemmas.Option.{get_or_from_slice_get, slice_get_within}
use Rattle.std.proofs.Math.Seq.{take-nil}
use Rattle.store_net.specs.NetParts.{HasLast}
use Rattle.store_net.specs.Parts.{releases_in}
use Rattle.store_net.specs.Texts.{release_at, release_has}

abbrev found_in : ℕ → List (ℕ × Sheet) → Option Sheet
found_in number releases = option_map (λ (r : ℕ × Sheet). r.1) (find (λ (r : ℕ × Sheet). r.0 == number) releases)

tested : (b : Bool) (number : ℕ) (s : Sheet) (rest : List (ℕ × Sheet))
    → option_map (λ (r : ℕ × Sheet). r.1) (cond b (Some (number, s)) (find (λ (r : ℕ × Sheet). r.0 == number) rest))
    ≡ cond b (Some s) (found_in number rest)
tested true number s rest = refl
tested false number s rest = refl

at_place : (first k : ℕ) (releases : List Sheet) → found_in (first + k) (numbered first releases) ≡ slice_get releases k
at_place first zero [] = refl
at_place first (suc k) [] = refl
at_place first zero (s ∷ releases) =
    let same : (first == first + 0) ≡ true = grind (arith, nat_tests) in
    ap (λ b. option_map (λ (r : ℕ × Sheet). r.1)
    (cond b (Some (first, s)) (find (λ (r : ℕ × Sheet). r.0 == first + 0) (numbered (first + 1) releases)))) same
at_place first (suc k) (s ∷ releases) =
    let other : (first == first + suc k) ≡ false = grind (arith, nat_tests) in
    let number : first + suc k ≡ first + 1 + k = omega arith in
    ap (λ b. option_map (λ (r : ℕ × Sheet). r.1)
    (cond b (Some (first, s)) (find (λ (r : ℕ × Sheet). r.0 == first + suc k) (numbered (first + 1) releases))))
    other
    ∙ ap (λ n. found_in n (numbered (first + 1) releases)) number ∙ at_place (first + 1) k releases

release_of : (net : Net) (k : ℕ) → release_at (Some net) (1 + k) ≡ slice_get net.releases k
release_of net k = at_place 1 k net.releases

-- ---- the last one

last_at : (ident : Ident) (s : Sheet) (releases : List Sheet)
    → release_has (slice_get (s ∷ releases) (length releases)) ident ≡ in_last (s ∷ releases) ident
last_at ident s [] = refl
last_at ident s (t ∷ releases) = last_at ident t releases

of_releases : (ident : Ident) (net : Net) (releases : List Sheet) → net.releases ≡ releases
    → release_has (release_at (Some net) (length releases)) ident ≡ in_last releases ident
of_releases ident net [] is =
    ap (λ rs. release_has (option_map (λ (r : ℕ × Sheet). r.1) (find (λ (r : ℕ × Sheet). r.0 == 0) (numbered 1 rs)))
    ident) is
of_releases ident net (s ∷ releases) is =
    let place : length (s ∷ releases) ≡ 1 + length releases = omega arith in
    ap (λ n. release_has (release_at (Some net) n) ident) place
    ∙ ap (λ o. release_has o ident) (release_of net (length releases) ∙ ap (λ rs. slice_get rs (length releases)) is)
    ∙ last_at ident s releases

-- the release whose number is their count is the last one
pub has_last : (ident : Ident) (net : Net) (number : ℕ) → number ≡ length net.releases
    → release_has (release_at (Some net) number) ident ≡ in_last net.releases ident
has_last ident net number is = ap (λ n. release_has (release_at (Some net) n) ident) is
    ∙ of_releases ident net net.releases refl

-- ---- all of them, one after the other

pub one_more : (net : Option Net) (k : ℕ) (sheet : Sheet) (sheets : List Sheet) → sheets ≡ take k (releases_in net)
    → release_at net (k + 1) ≡ Some sheet → sheets ++ sheet ∷ [] ≡ take (k + 1) (releases_in net)
one_more None k sheet sheets so_far is = absurd (cc)
one_more (Some net) k sheet sheets so_far is =
    let place : 1 + k ≡ k + 1 = omega arith in
    let there : slice_get net.releases k ≡ Some sheet =
    sym (release_of net k) ∙ ap (release_at (Some net)) place ∙ is in
    let within : k < length net.releases = slice_get_within net.releases k sheet there in
    ap (λ (l : List Sheet). l ++ sheet ∷ []) so_far
    ∙ ap (λ (s : Sheet). take k net.releases ++ s ∷ [])
    (sym (get_or_from_slice_get net.releases k sheet sheet there))
    ∙ sym (take_more net.releases k sheet within)

pub all_taken : (net : Option Net) (count : ℕ) → ((n : Net) → net ≡ Some n → count ≡ length n.releases)
    → take count (releases_in net) ≡ releases_in net
all_taken None count counted = take-nil count
all_taken (Some net) count counted = take_all count net.releases (omega (arith, counted net refl))

-- ---- sheets in their place, the last of which is there

pub none_last : (releases : List Sheet) → 0 ≡ length releases → HasLast releases []
none_last [] none = (refl, refl)
none_last (s ∷ releases) none = absurd (omega (arith, none))

pub last_after : (sheets : List Sheet) (last : Sheet) (count : ℕ) → length sheets ≡ count
    → slice_get (sheets ++ last ∷ []) count ≡ Some last
last_after [] last count is = ap (slice_get (last ∷ [])) (sym is)
last_after (s ∷ sheets) last count is =
    ap (slice_get (s ∷ sheets ++ last ∷ [])) (sym is) ∙ last_after sheets last (length sheets) refl

pub last_found : (net : Net) (count number : ℕ) (last : Sheet) (found : List Sheet) → count ≡ length net.releases
    → 0 < count → number ≡ count → release_at (Some net) number ≡ Some last → length found ≡ count - 1 + 1
    → slice_get found (count - 1) ≡ Some last
    → HasLast net.releases found
last_found net count number last found counted some is there many ends =
    let place : 1 + (count - 1) ≡ number = omega (arith, some, is) in
    let of : slice_get net.releases (count - 1) ≡ Some last =
    sym (release_of net (count - 1)) ∙ ap (release_at (Some net)) place ∙ there in
    let long : length found ≡ length net.releases = omega (arith, many, counted, some) in
    let at : length found - 1 ≡ count - 1 = omega (arith, many, some) in
    let end : count - 1 ≡ length net.releases - 1 = omega (arith, counted) in
    (long, ap (slice_get found) at ∙ ends ∙ sym of ∙ ap (slice_get net.releases) end)
