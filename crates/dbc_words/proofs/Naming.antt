-- Names of the things in a list, where one is inserted or taken out.
use Rattle.dbc_words.proofs.Common.{◌≡◌, ◌<◌, ◌∙◌, ◌||◌, ◌&&◌, Bool, true, false, cond, not, ℕ, zero, suc, List, []}
use Rattle.dbc_words.proofs.Common.{◌∷◌, length, get_or, refl, sym, ap, arith, AllByRecursion, remove, list_any}
use Rattle.dbc_words.proofs.Common.{bytes_eq, or_parts, bytes_eq-Decides}
use Rattle.std.specs.List.{IsDistinct, insert, filter}
use Rattle.dbc_words.specs.Named.{AreNamedApart, has_name}

swap_or : (a b c : Bool) → (a || (b || c)) ≡ (b || (a || c))
swap_or true true c = refl
swap_or true false c = refl
swap_or false b c = refl

-- what is inserted passes the test, or one of the others
pub any-insert : {A : Type 0} (p : A → Bool) (xs : List A) (i : ℕ) (x : A)
    → list_any p (insert xs i x) ≡ (p x || list_any p xs)
any-insert p xs zero x = refl
any-insert p [] (suc i) x = refl
any-insert p (y ∷ ys) (suc i) x = ap (λ b. p y || b) (any-insert p ys i x) ∙ swap_or (p y) (p x) (list_any p ys)

each-insert : {A : Type 0} (P : A → Type 0) (xs : List A) (i : ℕ) (x : A) → AllByRecursion P xs → P x
    → AllByRecursion P (insert xs i x)
each-insert P xs zero x h p = (p, h)
each-insert P [] (suc i) x h p = (p, tt)
each-insert P (y ∷ ys) (suc i) x h p = (h.0, each-insert P ys i x h.1 p)

none_passes : {A : Type 0} (p : A → Bool) (xs : List A) → list_any p xs ≡ false → AllByRecursion (λ x. p x ≡ false) xs
none_passes p [] h = tt
none_passes p (x ∷ xs) h = let parts = or_parts (p x) (list_any p xs) h in (parts.0, none_passes p xs parts.1)

bytes_flip : (a b : List ℕ) (t u : Bool) → bytes_eq a b ≡ t → bytes_eq b a ≡ u → t ≡ u
bytes_flip a b true true e f = refl
bytes_flip a b false false e f = refl
bytes_flip a b true false e f = sym ((bytes_eq-Decides b a).1 (sym ((bytes_eq-Decides a b).0 e))) ∙ f
bytes_flip a b false true e f = sym e ∙ (bytes_eq-Decides a b).1 (sym ((bytes_eq-Decides b a).0 f))

pub bytes_eq-flip : (a b : List ℕ) → bytes_eq a b ≡ bytes_eq b a
bytes_eq-flip a b = bytes_flip a b (bytes_eq a b) (bytes_eq b a) refl refl

each-filter : {A : Type 0} (P : A → Type 0) (p : A → Bool) (xs : List A) → AllByRecursion P xs
    → AllByRecursion P (filter p xs)
each-filter P p [] h = tt
each-filter P p (x ∷ xs) h = by_test (p x) (h.0) (each-filter P p xs h.1)
  where
    by_test : (b : Bool) → P x → AllByRecursion P (filter p xs)
        → AllByRecursion P (cond b (x ∷ filter p xs) (filter p xs))
    by_test true px rest = (px, rest)
    by_test false px rest = rest

-- some of the things are apart where all are
pub distinct-filter : {A : Type 0} (e : A → A → Bool) (p : A → Bool) (xs : List A) → IsDistinct e xs
    → IsDistinct e (filter p xs)
unfolding IsDistinct
distinct-filter e p [] h = tt
distinct-filter e p (x ∷ xs) h = by_test (p x) (distinct-filter e p xs h.1)
  where
    by_test : (b : Bool) → IsDistinct e (filter p xs) → IsDistinct e (cond b (x ∷ filter p xs) (filter p xs))
    by_test true rest = (each-filter (λ y. e x y ≡ false) p xs h.0, rest)
    by_test false rest = rest

pub each_at : {A : Type 0} (P : A → Type 0) (xs : List A) (i : ℕ) (d : A) → i < length xs → AllByRecursion P xs
    → P (get_or xs i d)
each_at P [] i d lt h = absurd (let w : i < 0 = lt in omega (arith, w))
each_at P (x ∷ xs) zero d lt h = h.0
each_at P (x ∷ xs) (suc i) d lt h = each_at P xs i d (omega (arith, lt)) h.1

module _ {A : Type 0} (name : A → List ℕ) where
  same_name : A → A → Bool
  same_name a b = bytes_eq (name a) (name b)

  from_others : (x : A) (xs : List A) → has_name name xs (name x) ≡ false
      → AllByRecursion (λ y. bytes_eq (name x) (name y) ≡ false) xs
  from_others x [] h = tt
  from_others x (y ∷ ys) h =
      let parts = or_parts (bytes_eq (name y) (name x)) (has_name name ys (name x)) h in
      (bytes_eq-flip (name x) (name y) ∙ parts.0, from_others x ys parts.1)

  -- a thing of a new name keeps the names apart, wherever it is inserted
  pub apart-insert : (xs : List A) (i : ℕ) (x : A) → AreNamedApart name xs → has_name name xs (name x) ≡ false
      → AreNamedApart name (insert xs i x)
  unfolding IsDistinct
  apart-insert xs zero x h new = (from_others x xs new, h)
  apart-insert [] (suc i) x h new = (tt, tt)
  apart-insert (y ∷ ys) (suc i) x h new =
      let parts = or_parts (bytes_eq (name y) (name x)) (has_name name ys (name x)) new in
      (each-insert (λ z. bytes_eq (name y) (name z) ≡ false) ys i x h.0 parts.0, apart-insert ys i x h.1 parts.1)

  -- some of the things have their names apart where all have
  pub apart-filter : (p : A → Bool) (xs : List A) → AreNamedApart name xs → AreNamedApart name (filter p xs)
  apart-filter p xs h = distinct-filter (λ a b. bytes_eq (name a) (name b)) p xs h

  -- no other has its name
  pub no_other : (x : A) (xs : List A) (n : List ℕ) → name x ≡ n
      → AllByRecursion (λ y. bytes_eq (name x) (name y) ≡ false) xs → has_name name xs n ≡ false
  no_other x [] n e h = refl
  no_other x (y ∷ ys) n e h =
      ap (λ b. b || has_name name ys n) (ap (λ m. bytes_eq (name y) m) (sym e) ∙ bytes_eq-flip (name y) (name x) ∙ h.0)
      ∙ no_other x ys n e h.1

  head_removed : (x : A) (xs : List A) (n : List ℕ) (t : Bool) → bytes_eq (name x) n ≡ t
      → AllByRecursion (λ y. bytes_eq (name x) (name y) ≡ false) xs
      → has_name name xs n ≡ (not t && (t || has_name name xs n))
  head_removed x xs n true e h = no_other x xs n ((bytes_eq-Decides (name x) n).0 e) h
  head_removed x xs n false e h = refl

  tail_removed : (x y : A) (n : List ℕ) (t rest : Bool) → bytes_eq (name y) n ≡ t → bytes_eq (name x) (name y) ≡ false
      → (bytes_eq (name x) n || (not t && rest)) ≡ (not t && (bytes_eq (name x) n || rest))
  tail_removed x y n true rest e h =
      ap (λ b. b || false) (ap (λ m. bytes_eq (name x) m) (sym ((bytes_eq-Decides (name y) n).0 e)) ∙ h)
  tail_removed x y n false rest e h = refl

  -- the names that are left where one thing is taken out
  pub names-remove : (xs : List A) (i : ℕ) (d : A) (n : List ℕ) → i < length xs → AreNamedApart name xs
      → has_name name (remove xs i) n ≡ (not (bytes_eq (name (get_or xs i d)) n) && has_name name xs n)
  unfolding IsDistinct
  names-remove [] i d n lt h = absurd (let w : i < 0 = lt in omega (arith, w))
  names-remove (x ∷ xs) zero d n lt h = head_removed x xs n (bytes_eq (name x) n) refl h.0
  names-remove (x ∷ xs) (suc i) d n lt h =
      ap (λ b. bytes_eq (name x) n || b) (names-remove xs i d n (omega (arith, lt)) h.1)
      ∙ tail_removed x (get_or xs i d) n (bytes_eq (name (get_or xs i d)) n) (has_name name xs n) refl
      (each_at (λ y. bytes_eq (name x) (name y) ≡ false) xs i d (omega (arith, lt)) h.0)
