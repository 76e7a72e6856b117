-- The cells of a chart, by what the code has at hand.
use Rattle.page_numbers.proofs.Common.{◌≡◌, ◌≤◌, ◌&&◌, ℕ, arith, Bool, true, false, List, [], Option, Some, None, sym}
use Rattle.page_numbers.proofs.Common.{subst, is_some, false≢true, Message, HaveSame, team_at, is_taken, GrantedBlock}
use Rattle.page_numbers.specs.CellHtml.{IsCellHtml, IsCellOf, nobody_cell}
use Rattle.page_numbers.specs.Cells.{IsCell}
use Rattle.page_numbers.specs.Charts.{has, number_in, numbers_of}
use Rattle.page_numbers.specs.Index.{live_at}
use Rattle.page_numbers.specs.Map.{Facts, IsCellAt, IsRow, IsTable}
use Rattle.page_numbers.specs.declared.cells.Cell.{Cell}
use Rattle.page_numbers.specs.declared.cells.Cell.TheVariants.{Live, Held, Free, Nobody}
use Rattle.page_numbers.specs.declared.charts.Chart.{Chart}
use Rattle.page_numbers.specs.declared.charts.Chart.TheVariants.{Standard}
use Rattle.page_numbers.proofs.Pieces.{pieces_weaker}

-- ---- the cell that a number has, and what is to say of the number

nobodys : (names : List (List ℕ)) (n : ℕ) (team : Option (List ℕ)) (own : Bool) (b : List ℕ)
    → (is_some team && own) ≡ false → b ≡ nobody_cell → IsCellHtml names n [] false team own b
nobodys names n None own b off is = is
nobodys names n (Some team) false b off is = is
nobodys names n (Some team) true b off is = absurd (false≢true (sym off))

pub told : (names : List (List ℕ)) (n : ℕ) (live : List Message) (held : Bool) (team : Option (List ℕ)) (own : Bool)
    (cell : Cell) (b : List ℕ) → IsCell live held team own cell → IsCellOf names n cell b
    → IsCellHtml names n live held team own b
told names n live held team own (Live first others) b is bytes =
    subst (λ (v : List Message). IsCellHtml names n v held team own b) is bytes
told names n live held team own (Held found) b is bytes =
    subst (λ (v : List Message). IsCellHtml names n v held team own b) (sym is.0)
    (subst (λ (v : Bool). IsCellHtml names n [] v team own b) (sym is.1.0)
    (subst (λ (v : Option (List ℕ)). IsCellHtml names n [] true v own b) is.1.1 bytes))
told names n live held team own (Free found) b is bytes =
    subst (λ (v : List Message). IsCellHtml names n v held team own b) (sym is.0)
    (subst (λ (v : Bool). IsCellHtml names n [] v team own b) (sym is.1.0)
    (subst (λ (v : Option (List ℕ)). IsCellHtml names n [] false v own b) is.1.1.0
    (subst (λ (v : Bool). IsCellHtml names n [] false (Some found.now) v b) (sym is.1.1.1) bytes)))
told names n live held team own Nobody b is bytes =
    subst (λ (v : List Message). IsCellHtml names n v held team own b) (sym is.0)
    (subst (λ (v : Bool). IsCellHtml names n [] v team own b) (sym is.1.0) (nobodys names n team own b is.1.1 bytes))

-- ---- with a list that has the same numbers in place of the held ones

module _ (chart : Chart) (facts : Facts) (held : List ℕ) (same : HaveSame facts.held held) where
  abbrev other : Facts
  other = record facts { held = held }

  cell_same : (n : ℕ) (b : List ℕ) → IsCellAt chart facts n b → IsCellAt chart other n b
  cell_same n b h =
      subst (λ (v : Bool). IsCellHtml facts.names n (live_at facts.messages facts.form n) v
      (team_at facts.blocks facts.form n) (has chart n) b) (same n) h

  row_same : (row : ℕ) (b : List ℕ) → IsRow chart facts row b → IsRow chart other row b
  row_same row b h = record {
    cells = h.cells;
    are = pieces_weaker (IsCellAt chart facts) (IsCellAt chart other) cell_same (numbers_of chart row) h.cells h.are;
    is = h.is;
  }

  pub table_same : (rows : List ℕ) (b : List ℕ) → IsTable chart facts rows b → IsTable chart other rows b
  table_same rows b h = record {
    head = h.head;
    body = h.body;
    are = pieces_weaker (IsRow chart facts) (IsRow chart other) row_same rows h.body h.are;
    is = h.is;
  }

-- ---- with the blocks near a row in place of all

pub in_row : (chart : Chart) (row column : ℕ)
    → (number_in chart row 0 ≤ number_in chart row column) × (number_in chart row column ≤ number_in chart row 15)
in_row Standard row column = (omega arith, omega arith)
in_row it row column = (omega arith, omega arith)

pub cell_near : (chart : Chart) (facts : Facts) (near : List GrantedBlock) (n : ℕ) (b : List ℕ)
    → team_at near facts.form n ≡ team_at facts.blocks facts.form n
    → IsCellHtml facts.names n (live_at facts.messages facts.form n) (is_taken n facts.held)
    (team_at near facts.form n) (has chart n) b → IsCellAt chart facts n b
cell_near chart facts near n b e h =
    subst (λ (v : Option (List ℕ)). IsCellHtml facts.names n (live_at facts.messages facts.form n)
    (is_taken n facts.held) v (has chart n) b) e h
