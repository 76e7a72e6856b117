-- The first line of a content that has one line.
use Rattle.office_looks.proofs.Common.{◌≡◌, ◌+◌, ◌∙◌, ℕ, suc, List, [], ◌∷◌, take, refl, ap, arith}
use Rattle.std.proofs.Common.{◌≢◌, ◌==◌}
use Rattle.std.specs.List.{All, before_first, position_or_len}
use Rattle.std.proofs.lemmas.Bool.{ne_eqb}
use Rattle.std.proofs.lemmas.List.Elements.{All-head, All-tail}

pub no_end : (c : ℕ) (bytes : List ℕ) → All (λ b. b ≢ c) bytes → bytes ≡ before_first (λ b. b == c) bytes
no_end c [] lacks = refl
no_end c (b ∷ bytes) lacks =
    let n = position_or_len (λ x. x == c) bytes in
    let more : suc n ≡ 1 + n = omega arith in
    rw (ne_eqb b c (All-head (λ x. x ≢ c) b bytes lacks))
    (ap (λ l. b ∷ l) (no_end c bytes (All-tail (λ x. x ≢ c) b bytes lacks)) ∙ ap (λ k. take k (b ∷ bytes)) more)
