-- Offsets counted from another one.
use Rattle.std.specs.Prelude.{◌≡◌, ℕ, ◌+◌, Option, Some, None, refl}
use Rattle.std.specs.Option.{option_map}

-- the offset that is as many bytes further on, if there is one
abbrev pub further_by : ℕ → Option ℕ → Option ℕ
further_by at len = option_map (λ n. at + n) len

further_by_example : (further_by 5 (Some 2) ≡ Some 7) × (further_by 5 None ≡ None)
further_by_example = (refl, refl)
