-- The last test of a command that gives out a number: that there is one.
use Rattle.std.proofs.Common.{◌≡◌, ℕ, [], ◌∷◌, Option, Some, None, refl}
use Rattle.std.specs.Prelude.{is_none}
use Rattle.base.specs.Refusing.{first_refusal}
use Rattle.office_types.specs.declared.refusal.Refusal.TheVariants as no
use Rattle.office_rules.specs.Outcome.{when}
use Rattle.office_net.specs.FactsOf.{refused_or_full}

pub first-full : (given : Option ℕ) → first_refusal (when (is_none given) no.BlockFull ∷ [])
    ≡ refused_or_full None given
first-full None = refl
first-full (Some n) = refl
