-- A page that is written.
use Rattle.std.proofs.Common.{◌≡◌, ℕ, false, List, [], map, Result, Ok, Err, IfOk, Vec}
use Rattle.std.specs.declared.alloc.Global.{Global}
use Rattle.markup.specs.Reader.{IsWellFormed}
use Rattle.markup.specs.Writing.{Writing, whole}
use Rattle.office_page.specs.Page.{ShowsAlone, ShowsNet}
use Rattle.office_page.specs.Parts.{HasNetParts, HasSheetParts}
use Rattle.office_seen.specs.declared.view.View.{View}
use Rattle.page_changes.specs.declared.changes.Changes.{Changes}
use Rattle.page_numbers.specs.Spns.{AreSheetRows, said_of}
use Rattle.page_numbers.specs.declared.spns.SpnRow.{SpnRow}
use Rattle.page_parts.specs.declared.checked.Checked.{Checked}
use Rattle.page_parts.specs.declared.marks.Marks.{Marks}
use Rattle.page_parts.specs.declared.subject.Subject.{Subject}

module _ {E : Type 0} (subject : Subject) (checked : Checked) (marks : Marks) (rows : List SpnRow)
    (old new : Writing) where
  pub net_page : (view : View) (changes : Changes) (r : Result (Vec ℕ Global) E)
      → IfOk r (λ page. page.items ≡ whole new) → IfOk r (λ page. IsWellFormed page.items)
      → IfOk r (λ page. new.is_lost ≡ false) → HasNetParts view subject changes marks rows checked new old
      → IfOk r (λ page. ShowsNet view subject changes marks rows checked page.items)
  net_page view changes (Ok page) is formed kept parts = record {
    head = old;
    body = new;
    parts = parts;
    kept = kept;
    is = is;
    well_formed = formed;
  }
  net_page view changes (Err e) is formed kept parts = tt

  pub sheet_page : (r : Result (Vec ℕ Global) E) → IfOk r (λ page. page.items ≡ whole new)
      → IfOk r (λ page. IsWellFormed page.items) → IfOk r (λ page. new.is_lost ≡ false)
      → marks.marks.items ≡ [] → marks.has_releases ≡ false → AreSheetRows subject.sheet.now (map said_of rows)
      → HasSheetParts subject marks rows checked new old
      → IfOk r (λ page. ShowsAlone subject checked page.items)
  sheet_page (Ok page) is formed kept unmarked unreleased are_rows parts = record {
    head = old;
    body = new;
    marks = marks;
    unmarked = unmarked;
    unreleased = unreleased;
    rows = rows;
    are_rows = are_rows;
    parts = parts;
    kept = kept;
    is = is;
    well_formed = formed;
  }
  sheet_page (Err e) is formed kept unmarked unreleased are_rows parts = tt
