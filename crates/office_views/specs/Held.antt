-- The positions that the signals of a chart have, as masks.
use Rattle.std.specs.Prelude.{ℕ, ◌<◌, ◌↔◌, List}
use Rattle.std.specs.List.{count_by}
use Rattle.bitlayout.specs.Mask.{mask_end, Has}
use Rattle.office_views.specs.Text.{holds}
use Rattle.office_views.specs.declared.signal.ChartSignal.{ChartSignal}
use Rattle.office_views.specs.declared.text.Held.{Held}

-- below their end the masks have the positions that at least one signal has, and those that at least two have
pub record IsHeldBy (held : Held) (signals : List ChartSignal) : Type 0 where
  pub some : (q : ℕ) → q < mask_end → Has held.some q ↔ (0 < count_by (holds q) signals)
  pub several : (q : ℕ) → q < mask_end → Has held.several q ↔ (1 < count_by (holds q) signals)
