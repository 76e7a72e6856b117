-- Refusals differ by their numbers.
use Rattle.std.proofs.Common.{◌≡◌, Some, refl}
use Rattle.office_types.specs.Refusal.{refusal_number, refusal_at, fault_of}
use Rattle.office_types.specs.declared.refusal.Refusal.{Refusal}
use Rattle.office_types.specs.declared.refusal.Refusal.TheVariants as no

pub refusal_back : (r : Refusal) → refusal_at (refusal_number r) (fault_of r) ≡ Some r
refusal_back no.OutsidePayload = refl
refusal_back n = refl
