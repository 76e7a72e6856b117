-- What a check of a sheet finds, as texts.
use Rattle.std.specs.Prelude.{◌≡◌, ℕ, List, ◌++◌, codes, map, take, Vec}
use Rattle.std.specs.declared.alloc.Global.{Global}
use Rattle.dbc_advice.specs.Clashes.{bytes_of, clash_sentence, clashes_of}
use Rattle.dbc_advice.specs.Limits.{clashes_reported}
use Rattle.dbc_lint.specs.Kind.{kind_name}
use Rattle.dbc_lint.specs.Listing.{AreRemarks}
use Rattle.dbc_lint.specs.declared.remark.Remark.{Remark}
use Rattle.dbc_read.specs.declared.passed.Passed.{Passed}
use Rattle.dbc_sheet.specs.declared.sheet.Sheet.{Sheet}
use Rattle.dbc_words.specs.Keyword.{keyword_text}
use Rattle.page_changes.specs.Names.{ascending}
use Rattle.page_parts.specs.declared.checked.Checked.{Checked}

-- the name of its kind, and what it is about
abbrev pub remark_text : Remark → List ℕ
remark_text r = kind_name r.kind ++ (codes " " ++ r.words)

-- the texts of the remarks on the sheet that the text reads as, in order
pub record AreRemarkTexts (text : List ℕ) (sheet : Sheet) (texts : List (Vec ℕ Global)) : Type 0 where
  pub remarks : List Remark
  pub are : AreRemarks text sheet remarks
  pub told : map bytes_of texts ≡ map remark_text remarks

-- why messages of the sheet aren't clear
abbrev pub AreClashTexts : Sheet → List (Vec ℕ Global) → Type 0
AreClashTexts sheet texts =
    map bytes_of texts ≡ map clash_sentence (take clashes_reported (clashes_of sheet.messages))

abbrev pub keyword_of : Passed → List ℕ
keyword_of passed = keyword_text passed.keyword

-- what a check finds of a text that reads as the sheet, with these statements skipped
pub record IsCheckOf (text : List ℕ) (sheet : Sheet) (passed : List Passed) (checked : Checked) : Type 0 where
  pub clashes : AreClashTexts sheet checked.clashes.items
  pub remarks : AreRemarkTexts text sheet checked.remarks.items
  pub skipped : map bytes_of checked.passed.items ≡ ascending (map keyword_of passed)
