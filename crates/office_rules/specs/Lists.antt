-- Lists in the order of a key, with several things put into them.
use Rattle.std.specs.Prelude.{Bool, true, false, List, [], ◌∷◌}
use Rattle.std.specs.declared.cmp.Ordering.{Ordering}
use Rattle.base.specs.Keyed.{put}

-- the list with each of them where its key belongs, in place of a thing of that key
abbrev pub put_all : {A : Type 0} → (A → A → Ordering) → List A → List A → List A
put_all order [] ys = ys
put_all order (x ∷ xs) ys = put_all order xs (put order x ys)

abbrev pub none_of : {A : Type 0} → List A → Bool
none_of [] = true
none_of (x ∷ xs) = false
