-- What is reported of imported files.
use Rattle.std.specs.Prelude.{ℕ, List, ◌++◌, codes, decimal}
use Rattle.office_types.specs.declared.state.Net.{Net}
use Rattle.office_reasons.specs.Pieces.{shown}

abbrev pub excess_text : Net → ℕ → List ℕ → ℕ → List ℕ
excess_text net count things most = codes "with the file " ++ (shown net.name ++ (codes " would have "
    ++ (decimal count ++ (codes " " ++ (things ++ (codes ", and it may have " ++ decimal most))))))
