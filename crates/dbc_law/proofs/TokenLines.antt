-- Lists of legible lines.
use Rattle.dbc_law.proofs.Common.{Bool, true, false, List, [], ◌∷◌, ◌++◌, map, if◌then◌else◌, All, AllByRecursion}
use Rattle.dbc_law.proofs.Common.{flat_map, All-head, All-tail, Line}
use Rattle.dbc_law.proofs.TokenLegible.{AreLegible}

pub record AreLegibleLines (ls : List Line) : Type 0 where
  pub each : AllByRecursion AreLegible ls

pub no_lines : AreLegibleLines []
no_lines = record { each = tt }

pub with_line : (l : Line) (ls : List Line) → AreLegible l → AreLegibleLines ls → AreLegibleLines (l ∷ ls)
with_line l ls h k = record { each = (h, k.each) }

pub one_line : (l : Line) → AreLegible l → AreLegibleLines (l ∷ [])
one_line l h = with_line l [] h no_lines

-- a line that is left out where the test holds
pub line_unless : (test : Bool) (l : Line) → AreLegible l → AreLegibleLines (if test then [] else (l ∷ []))
line_unless true l h = no_lines
line_unless false l h = one_line l h

lines_append : (ls ks : List Line) → AreLegibleLines ls → AreLegibleLines ks → AreLegibleLines (ls ++ ks)
lines_append [] ks h k = k
lines_append (l ∷ ls) ks h k = with_line l (ls ++ ks) h.each.0 (lines_append ls ks (record { each = h.each.1 }) k)

infixl 10 ◌also◌
pub ◌also◌ : {ls ks : List Line} → AreLegibleLines ls → AreLegibleLines ks → AreLegibleLines (ls ++ ks)
◌also◌ {ls} {ks} h k = lines_append ls ks h k

module _ {A : Type 0} (P : A → Type 0) where
  pub line_of_each : (line : A → Line) → ((x : A) → P x → AreLegible (line x)) → (xs : List A) → All P xs
      → AreLegibleLines (map line xs)
  line_of_each line each [] h = no_lines
  line_of_each line each (x ∷ xs) h =
      with_line (line x) (map line xs) (each x (All-head P x xs h)) (line_of_each line each xs (All-tail P x xs h))

  pub lines_of_each : (lines : A → List Line) → ((x : A) → P x → AreLegibleLines (lines x)) → (xs : List A) → All P xs
      → AreLegibleLines (flat_map lines xs)
  lines_of_each lines each [] h = no_lines
  lines_of_each lines each (x ∷ xs) h = each x (All-head P x xs h) also lines_of_each lines each xs (All-tail P x xs h)
