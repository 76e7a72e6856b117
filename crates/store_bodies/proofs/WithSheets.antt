-- Texts with the sheets that they read as: one more of them, and the first ones.
use Rattle.std.proofs.Common.{◌≡◌, ◌∙◌, ℕ, zero, suc, List, [], ◌∷◌, ◌++◌, Some, take, ap}
use Rattle.dbc_sheet.specs.declared.sheet.Sheet.{Sheet}
use Rattle.store_bodies.specs.ReadText.{AreReadAs, IsReadAs, TextsRead}

pub same_sheet : (read sheet : Sheet) → Some read ≡ Some sheet → read ≡ sheet
same_sheet read sheet both = cc

abbrev texts_read : List (List ℕ) → List Sheet → TextsRead
texts_read texts sheets = record { texts = texts; sheets = sheets }

pub same_read : (a b : List (List ℕ)) (s t : List Sheet) → a ≡ b → s ≡ t → texts_read a s ≡ texts_read b t
same_read a b s t texts sheets = ap (λ (x : List (List ℕ)). texts_read x s) texts ∙ ap (texts_read b) sheets

pub one_more : (texts : List (List ℕ)) (sheets : List Sheet) (text : List ℕ) (sheet : Sheet) → AreReadAs texts sheets
    → IsReadAs text sheet → AreReadAs (texts ++ text ∷ []) (sheets ++ sheet ∷ [])
one_more [] [] text sheet are is = (is, tt)
one_more [] (s ∷ sheets) text sheet are is = absurd are
one_more (t ∷ texts) [] text sheet are is = absurd are
one_more (t ∷ texts) (s ∷ sheets) text sheet are is = (are.0, one_more texts sheets text sheet are.1 is)

pub first_ones : (count : ℕ) (texts : List (List ℕ)) (sheets : List Sheet) → AreReadAs texts sheets
    → AreReadAs (take count texts) (take count sheets)
first_ones zero texts sheets are = tt
first_ones (suc count) [] [] are = tt
first_ones (suc count) [] (s ∷ sheets) are = absurd are
first_ones (suc count) (t ∷ texts) [] are = absurd are
first_ones (suc count) (t ∷ texts) (s ∷ sheets) are = (are.0, first_ones count texts sheets are.1)
