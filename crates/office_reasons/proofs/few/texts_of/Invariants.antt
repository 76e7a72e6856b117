use Rattle.std.proofs.Common.{◌≡◌, ◌++◌, drop, map}
use Rattle.std.specs.Prelude.{string_bytes}
use Rattle.office_reasons.specs.Pieces.{shown}
use Rattle.office_reasons.proofs.few.texts_of.Given as goal

abbrev pub invariant-loop-name : goal.invariant-loop-name
invariant-loop-name g l = map (λ s. string_bytes s) l.texts.items ++ map (λ n. shown n) (drop l.name-index l.names)
    ≡ map (λ n. shown n) l.names
