-- Rows of bytes that are seen as a list, computed.
use Rattle.std.proofs.Common.{◌≡◌, [], ◌∷◌, ◌++◌, map, replicate, refl}
use Rattle.std.specs.Prelude.{codes}
use Rattle.base.specs.Bytes.{bytes_in}
use Rattle.base.specs.declared.bytes.Kept.TheVariants.{Few}

-- the cells after the length don't count
few_bytes : map bytes_in
    (Few 3 (codes "ECU" ++ replicate 19 0) ∷ Few 0 (replicate 22 65) ∷ Few 22 (replicate 22 65) ∷ [])
    ≡ codes "ECU" ∷ [] ∷ replicate 22 65 ∷ []
few_bytes = refl
