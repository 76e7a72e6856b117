-- Outcomes on networks that differ in their releases.
use Rattle.office_law.proofs.Common.{◌≡◌, ℕ, List, [], length, Option, Some, None, refl, sym, ap, ◌++◌, append-nil}
use Rattle.office_law.proofs.Common.{Test, first_refusal, Sheet, Refusal, LiveMessage, Net, OfReleases, Nothing, Count}
use Rattle.office_law.proofs.Common.{Bodies, live_named, Outcome, Refusing, Changing, given_or, refused_or, unless}
use Rattle.office_law.proofs.Common.{on_found}
use Rattle.office_types.specs.declared.refusal.Refusal.TheVariants as no
use Rattle.office_law.specs.Released.{outcome_with, with_releases}

-- ---- the same outcome with other releases

module _ (rs : List Sheet) where
  pub refused_with : (o : Option Refusal) (out other : Outcome) → other ≡ outcome_with rs out
      → refused_or o other ≡ outcome_with rs (refused_or o out)
  refused_with None out other same = same
  refused_with (Some r) out other same = refl

  pub unless_with : (ts : List (Test Refusal)) (out other : Outcome) → other ≡ outcome_with rs out
      → unless ts other ≡ outcome_with rs (unless ts out)
  unless_with ts out other same = refused_with (first_refusal ts) out other same

  pub given_with : {A : Type 0} (r : Refusal) (o : Option A) (f g : A → Outcome)
      → ((x : A) → g x ≡ outcome_with rs (f x)) → given_or r o g ≡ outcome_with rs (given_or r o f)
  given_with r None f g same = refl
  given_with r (Some x) f g same = same x

  pub found_with : (net : Net) (name : List ℕ) (f : Net → LiveMessage → Outcome)
      → ((m : LiveMessage) → f (with_releases rs net) m ≡ outcome_with rs (f net m))
      → on_found (Some (with_releases rs net)) name f ≡ outcome_with rs (on_found (Some net) name f)
  found_with net name f same =
      given_with no.NoMessage (live_named net.live name) (λ m. f net m) (λ m. f (with_releases rs net) m) same

abbrev pub w : List Sheet → Net → Net
w = with_releases

-- ---- two outcomes that differ in the releases that were there before

abbrev pub Alike : List Sheet → List Sheet → Outcome → Outcome → Type 0
Alike rs qs (Refusing r) out = out ≡ Refusing r
Alike rs qs (Changing r n e) out = (added : List Sheet) × (n.releases ≡ rs ++ added)
    × (out ≡ Changing r (w (qs ++ added) n) e)

pub unreleased_alike : (rs qs : List Sheet) (out : Outcome) → Alike rs qs (outcome_with rs out) (outcome_with qs out)
unreleased_alike rs qs (Refusing r) = refl
unreleased_alike rs qs (Changing r n e) =
    ([], sym (append-nil rs), ap (λ l. Changing r (w l n) e) (sym (append-nil qs)))

pub refused_alike : (rs qs : List Sheet) (o : Option Refusal) (out other : Outcome) → Alike rs qs out other
    → Alike rs qs (refused_or o out) (refused_or o other)
refused_alike rs qs None out other alike = alike
refused_alike rs qs (Some r) out other alike = refl

-- what an outcome depends on of the releases: nothing, their number, or all of them
abbrev pub Depends : OfReleases → (Net → Outcome) → Type 0
Depends Nothing out = (net : Net) (rs : List Sheet) → out (w rs net) ≡ outcome_with rs (out net)
Depends Count out = (net : Net) (rs qs : List Sheet) → length rs ≡ length qs
    → Alike rs qs (out (w rs net)) (out (w qs net))
Depends Bodies out = Unit {0}
