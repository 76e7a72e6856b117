-- The first refusal of an import, whose tests come in three parts.
use Rattle.office_import.proofs.Common.{◌≡◌, ℕ, true, false, List, [], ◌∷◌, ◌++◌, Some, None, refl, sym, flat_map, Test}
use Rattle.office_import.proofs.Common.{first_refusal, Sheet, Refusal, Net, Reading, import_tests, is_too_large}
use Rattle.office_import.proofs.Common.{message_import_tests, first-later, first-refused}
use Rattle.office_types.specs.declared.refusal.Refusal.TheVariants as no
use Rattle.office_rules.specs.Outcome.{when}
use Rattle.office_import.specs.Tests.{early_tests}
use Rattle.office_facts.proofs.Refusing.{first-held, first-passed}

module _ (team : List ℕ) (net : Net) (s : Sheet) where
  abbrev early : List (Test Refusal)
  early = early_tests net s

  -- of each message in the network
  abbrev pub each : List (Test Refusal)
  each = flat_map (message_import_tests team net) s.messages

  abbrev last : List (Test Refusal)
  last = when (is_too_large net s) no.TooMany ∷ []

  abbrev tests : List (Test Refusal)
  tests = import_tests team (Some net) (Reading s)

  pub refused_early : (r : Refusal) → Some r ≡ first_refusal early → Some r ≡ first_refusal tests
  refused_early r e = sym (first-refused (early ++ each) last r (first-refused early each r (sym e)))

  pub refused_each : (r : Refusal) → first_refusal early ≡ None → Some r ≡ first_refusal each
      → Some r ≡ first_refusal tests
  refused_each r e f = sym (first-refused (early ++ each) last r (first-later early each (Some r) e (sym f)))

  pub refused_last : first_refusal early ≡ None → None ≡ first_refusal each → is_too_large net s ≡ true
      → Some no.TooMany ≡ first_refusal tests
  refused_last e f large =
      sym (first-later (early ++ each) last (Some no.TooMany) (first-later early each None e (sym f))
      (first-held (is_too_large net s) no.TooMany [] large))

  pub none_refused : first_refusal early ≡ None → None ≡ first_refusal each → is_too_large net s ≡ false
      → None ≡ first_refusal tests
  none_refused e f small =
      sym (first-later (early ++ each) last None (first-later early each None e (sym f))
      (first-passed (is_too_large net s) no.TooMany [] None small refl))
