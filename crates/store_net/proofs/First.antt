-- The first of the rows that a query shows, and its item.
use Rattle.store_net.proofs.Common.{◌≡◌, List, Option, Some, None, slice_get, refl, ap, ◌∙◌, Head, Row, AreShown}
use Rattle.store_net.proofs.Common.{none_first, some_first}
use Rattle.store_rows.specs.Showing.{ShowsHead}
use Rattle.store_net.specs.Parts.{heads}

first_head : (head : Option Head) → slice_get (heads head) 0 ≡ head
first_head None = refl
first_head (Some head) = refl

-- the head that the first row shows, or none
pub head_found : (other : Option Head) (rows : List Row) (row : Row) (head : Head)
    → AreShown ShowsHead (heads other) rows → Some row ≡ slice_get rows 0
    → ((one : Head) → ShowsHead one row → head ≡ one) → Some head ≡ other
head_found other rows row head shown is one =
    let first = some_first ShowsHead (heads other) rows row shown is in
    ap Some (one first.0 first.2) ∙ first.1 ∙ first_head other

pub no_head : (other : Option Head) (rows : List Row) → AreShown ShowsHead (heads other) rows → None ≡ slice_get rows 0
    → None ≡ other
no_head other rows shown none = none_first ShowsHead (heads other) rows shown none ∙ first_head other
