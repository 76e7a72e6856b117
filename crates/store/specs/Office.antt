-- An office on tables, as contracts see it.
use Rattle.std.specs.Prelude.{Bool, refl}
use Rattle.std.specs.Coded.{Coded, code_by, coded×, coded_bool}
use Rattle.sqlite.specs.Held.{Held, held_code}

-- the connection, and whether a call was lost for the store's sake
pub record OfficeView (S : Type 0) : Type 0 where
  pub conn : Held S
  pub failed : Bool

-- the code of an office is that of both
abbrev pub stored_code : {S : Type 0} → Coded S → Coded (OfficeView S)
stored_code {S} store = code_by (Held S × Bool) (coded× (held_code store) coded_bool) (λ o. (o.conn, o.failed))
    (λ p. record { conn = p.0; failed = p.1 }) (λ _. refl)
