-- Loops that read one thing after the other.
use Rattle.dbc_statements.proofs.Common.{◌≡◌, ◌<◌, Bool, true, List, [], ◌∷◌, ◌++◌, length, Some, None, refl, ap, subst}
use Rattle.dbc_statements.proofs.Common.{Parsed, many_at, with_front, Token, Takes, goes_round}
use Rattle.std.proofs.Common.{unwrap_or}
use Rattle.dbc_statements.specs.Reading.{with_one}

-- before the first round
pub at_start : {A : Type 0} (o : Parsed (List A)) → with_front [] o ≡ o
at_start None = refl
at_start (Some x) = refl

-- a round that reads one more thing, and adds it to those that were read before
module _ {A : Type 0} {test : List Token → Bool} {p : List Token → Parsed A} (takes : Takes test p) (front : List A)
    (ts : List Token) (all : List A) (rest : List Token) where
  one_read : (o : Parsed A) → with_one front o ≡ Some (all, rest) → (x : A) × (o ≡ Some (x, rest))
      × (front ++ x ∷ [] ≡ all)
  one_read None e = absurd cc
  one_read (Some b) e = (
    b.0,
    ap (λ (r : List Token). Some (b.0, r)) (ap (λ (o : Parsed (List A)). (unwrap_or o ([], rest)).1) e),
    ap (λ (o : Parsed (List A)). (unwrap_or o ([], rest)).0) e,
  )

  pub fewer : test ts ≡ true → with_one front (p ts) ≡ Some (all, rest) → length rest < length ts
  fewer there e =
      let (x, is, all_is) = one_read (p ts) e in
      takes.shorter ts (x, rest) there is

  pub one_more : (total : Parsed (List A)) → test ts ≡ true → with_one front (p ts) ≡ Some (all, rest)
      → with_front front (many_at test p ts) ≡ total → with_front all (many_at test p rest) ≡ total
  one_more total there e h =
      let (x, is, all_is) = one_read (p ts) e in
      subst (λ (l : List A). with_front l (many_at test p rest) ≡ total) all_is
      (goes_round takes front ts (x, rest) total there is h)
