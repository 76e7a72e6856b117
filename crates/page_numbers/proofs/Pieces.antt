-- Pieces, one for each item.
use Rattle.page_numbers.proofs.Common.{◌≡◌, ◌+◌, ◌<◌, ◌++◌, ◌∙◌, ℕ, List, [], ◌∷◌, length, take, get_or, map, refl, sym}
use Rattle.page_numbers.proofs.Common.{ap, subst, append-nil, append_assoc, arith, range_with_len, map-append}
use Rattle.page_numbers.proofs.Common.{take_more, Writing, added}
use Rattle.std.proofs.lemmas.List.FromFn.{map-range_with_len_more}
use Rattle.page_numbers.specs.Elements.{ArePieces, IsMoreBy}
use Rattle.page_numbers.proofs.Closing.{unchanged}

zero_and : (n : ℕ) → 0 + n ≡ n
zero_and n = omega arith

module _ {X : Type 0} (P : X → List ℕ → Type 0) where
  pub one_piece : (x : X) (b : List ℕ) → P x b → ArePieces P (x ∷ []) b
  one_piece x b h = (b, ([], (h, (refl, sym (append-nil b)))))

  pub pieces_append : (xs ys : List X) (a b : List ℕ) → ArePieces P xs a → ArePieces P ys b
      → ArePieces P (xs ++ ys) (a ++ b)
  pieces_append [] ys a b is more = subst (λ (v : List ℕ). ArePieces P ys (v ++ b)) (sym is) more
  pieces_append (x ∷ xs) ys a b h more = (
    h.0,
    (
      h.1.0 ++ b,
      (
        h.1.1.0,
        (
          pieces_append xs ys h.1.0 b h.1.1.1.0 more,
          ap (λ v. v ++ b) h.1.1.1.1 ∙ append_assoc h.0 h.1.0 b,
        ),
      ),
    ),
  )

  -- with the piece of one item more
  pub pieces_more : (xs : List X) (i : ℕ) (x : X) (a b : List ℕ) → i < length xs → x ≡ get_or xs i x
      → ArePieces P (take i xs) a → P x b → ArePieces P (take (i + 1) xs) (a ++ b)
  pieces_more xs i x a b within is so one =
      subst (λ (v : List X). ArePieces P v (a ++ b))
      (sym (take_more xs i x within ∙ ap (λ y. take i xs ++ y ∷ []) (sym is)))
      (pieces_append (take i xs) (x ∷ []) a b so (one_piece x b one))

  -- on a page
  pub nothing_put : (a : Writing) → IsMoreBy (ArePieces P []) a a
  nothing_put a = ([], (refl, unchanged a [] refl))

  pub piece_put : (xs : List X) (i : ℕ) (x : X) (a b c : Writing) → i < length xs → x ≡ get_or xs i x
      → IsMoreBy (ArePieces P (take i xs)) b a → IsMoreBy (P x) c b → IsMoreBy (ArePieces P (take (i + 1) xs)) c a
  piece_put xs i x a b c within is so one = (
    so.0 ++ one.0,
    (
      pieces_more xs i x so.0 one.0 within is so.1.0 one.1.0,
      added a so.0 one.0 so.1.1 one.1.1,
    ),
  )

  -- of one number more
  pub number_put : (f : ℕ → X) (n : ℕ) (a b c : Writing) → IsMoreBy (ArePieces P (map f (range_with_len 0 n))) b a
      → IsMoreBy (P (f n)) c b → IsMoreBy (ArePieces P (map f (range_with_len 0 (n + 1)))) c a
  number_put f n a b c so one = (
    so.0 ++ one.0,
    (
      subst (λ (v : List X). ArePieces P v (so.0 ++ one.0))
          (sym (map-range_with_len_more f 0 n n (zero_and n)))
          (pieces_append (map f (range_with_len 0 n)) (f n ∷ []) so.0 one.0 so.1.0 (one_piece (f n) one.0 one.1.0)),
      added a so.0 one.0 so.1.1 one.1.1,
    ),
  )

-- pieces of which something else holds
pub pieces_weaker : {X : Type 0} (P Q : X → List ℕ → Type 0) (so : (x : X) (b : List ℕ) → P x b → Q x b) (xs : List X)
    (a : List ℕ) → ArePieces P xs a → ArePieces Q xs a
pieces_weaker P Q so [] a h = h
pieces_weaker P Q so (x ∷ xs) a h =
    (h.0, (h.1.0, (so x h.0 h.1.1.0, (pieces_weaker P Q so xs h.1.0 h.1.1.1.0, h.1.1.1.1))))

pub more_weaker : (P Q : List ℕ → Type 0) (a b : Writing) → ((x : List ℕ) → P x → Q x) → IsMoreBy P b a → IsMoreBy Q b a
more_weaker P Q a b so h = (h.0, (so h.0 h.1.0, h.1.1))

-- of one item more, each for what a function makes of it
pub pieces_mapped : {X Y : Type 0} (P : X → List ℕ → Type 0) (f : Y → X) (ys : List Y) (i : ℕ) (y : Y) (a b : List ℕ)
    → i < length ys → y ≡ get_or ys i y → ArePieces P (map f (take i ys)) a → P (f y) b
    → ArePieces P (map f (take (i + 1) ys)) (a ++ b)
pieces_mapped {X = X} P f ys i y a b within is so one =
    subst (λ (v : List X). ArePieces P v (a ++ b))
    (sym (ap (map f) (take_more ys i y within ∙ ap (λ z. take i ys ++ z ∷ []) (sym is))
    ∙ map-append f (take i ys) (y ∷ [])))
    (pieces_append P (map f (take i ys)) (f y ∷ []) a b so (one_piece P (f y) b one))

-- of one item more, on a page
pub last_put : {X : Type 0} (P : X → List ℕ → Type 0) (xs : List X) (x : X) (a b c : Writing)
    → IsMoreBy (ArePieces P xs) b a → IsMoreBy (P x) c b → IsMoreBy (ArePieces P (xs ++ x ∷ [])) c a
last_put P xs x a b c so one = (
  so.0 ++ one.0,
  (
    pieces_append P xs (x ∷ []) so.0 one.0 so.1.0 (one_piece P x one.0 one.1.0),
    added a so.0 one.0 so.1.1 one.1.1,
  ),
)
