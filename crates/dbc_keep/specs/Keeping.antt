-- What a text keeps of its source.
use Rattle.std.specs.Prelude.{◌++◌, ℕ, List, IsPermutation}
use Rattle.dbc_keep_law.specs.Kept.{completed, declarations}
use Rattle.dbc_keep_law.specs.Law.{Keeps}
use Rattle.dbc_keep_law.specs.Passages.{Passage}
use Rattle.dbc_sheet.specs.declared.sheet.Sheet.{Sheet}

-- The source has these skipped statements, and the text has them too, each once, place after place, with the
-- declarations of the attribute with suspect parameter numbers that its canonical lines add.
pub record KeepsEach (source text : List ℕ) (s : Sheet) : Type 0 where
  pub passages : List Passage
  pub of_source : Keeps source s passages
  pub of_text : Keeps text s (completed s passages)
  pub once : IsPermutation (passages ++ declarations s passages) (completed s passages)
