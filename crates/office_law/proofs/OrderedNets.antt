-- Networks in the order of their names, one of which is put among them.
use Rattle.office_law.proofs.Common.{◌≡◌, ◌∙◌, ◌&&◌, ◌<◌, ℕ, zero, suc, Bool, true, false, cond, List, [], ◌∷◌, Option}
use Rattle.office_law.proofs.Common.{Some, None, length, get_or, refl, sym, ap, arith, AllByRecursion, bytes_eq, is_eq}
use Rattle.office_law.proofs.Common.{is_lt, Ordering, Less, Equal, Greater, false≢true, is_eq-slice_cmp}
use Rattle.office_law.proofs.Common.{bytes_eq-Decides, are_above, put, text_cmp, IsStrictlySortedBy-put, put_cases}
use Rattle.office_law.proofs.Common.{by_name, Net, Office, Outcome, Refusing, Changing, office_after}
use Rattle.std.proofs.Common.{drop, set, find}
use Rattle.std.specs.List.{position_or_len}
use Rattle.std.specs.List.Sorted.{IsStrictlySortedBy}
use Rattle.std.specs.Cmp.Lexicographic.{on_texts}
use Rattle.std.proofs.lemmas.List.{set-get_or}
use Rattle.std.proofs.lemmas.List.Folds.{find_at}
use Rattle.std.proofs.lemmas.Option.{get_or_from_slice_get, slice_get_within}
use Rattle.base.proofs.PutCode.{put_at}
use Rattle.dbc_words.proofs.Naming.{bytes_eq-flip}

abbrev pub has : List ℕ → Net → Bool
has name net = bytes_eq net.name name

pub equal_texts : (a b : List ℕ) → bytes_eq a b ≡ true → a ≡ b
equal_texts a b h = (bytes_eq-Decides a b).0 h

pub order_shows : (x y : Net) → is_eq (by_name x y) ≡ bytes_eq x.name y.name
order_shows x y = is_eq-slice_cmp x.name y.name

-- what is above a network is above each one of its name
above_all : (x y : Net) (ys : List Net) → x.name ≡ y.name → AllByRecursion (λ z. by_name y z ≡ Less) ys
    → are_above by_name x ys ≡ true
above_all x y [] same h = refl
above_all x y (z ∷ zs) same h =
    ap (λ b. b && are_above by_name x zs) (ap (λ n. is_lt (text_cmp n z.name)) same ∙ ap is_lt h.0)
    ∙ above_all x y zs same h.1

pub equal_order : (x y : Net) → x.name ≡ y.name → by_name x y ≡ Equal
equal_order x y same = by_test (by_name x y) (order_shows x y ∙ (bytes_eq-Decides x.name y.name).1 same)
  where
    by_test : (r : Ordering) → is_eq r ≡ true → r ≡ Equal
    by_test Less e = absurd (false≢true e)
    by_test Equal e = refl
    by_test Greater e = absurd (false≢true e)

above_later : (xs : List Net) (i : ℕ) (x y : Net) → IsStrictlySortedBy by_name xs → i < length xs → y ≡ get_or xs i y
    → x.name ≡ y.name
    → are_above by_name x (drop (suc i) xs) ≡ true
unfolding IsStrictlySortedBy
above_later [] i x y sorted h is same = absurd (let w : i < 0 = h in omega (arith, w))
above_later (z ∷ zs) zero x y sorted h is same = above_all x z zs (same ∙ ap (λ (n : Net). n.name) is) sorted.0
above_later (z ∷ zs) (suc i) x y sorted h is same = above_later zs i x y sorted.1 (omega (arith, h)) is same

-- one of a name that is there is put in its place
pub put_there : (xs : List Net) (i : ℕ) (x y : Net) → IsStrictlySortedBy by_name xs → i < length xs → y ≡ get_or xs i y
    → x.name ≡ y.name → put by_name x xs ≡ set xs i x
put_there xs i x y sorted h is same =
    put_at by_name x xs i y h is (equal_order x y same) (above_later xs i x y sorted h is same)

-- and the one that is found may as well be put
pub put_found : (name : List ℕ) (xs : List Net) (n : Net) → IsStrictlySortedBy by_name xs → find (has name) xs ≡ Some n
    → put by_name n xs ≡ xs
put_found name xs n sorted h =
    let i = position_or_len (has name) xs in
    let there = sym (find_at (has name) xs) ∙ h in
    let got : get_or xs i n ≡ n = get_or_from_slice_get xs i n n there in
    put_there xs i n n sorted (slice_get_within xs i n there) (sym got) refl ∙ ap (set xs i) (sym got)
    ∙ set-get_or xs i n

-- they stay in order
pub sorted_after : (o : Office) (out : Outcome) → IsStrictlySortedBy by_name o.nets
    → IsStrictlySortedBy by_name (office_after o out).nets
sorted_after o (Refusing r) sorted = sorted
sorted_after o (Changing r n e) sorted = IsStrictlySortedBy-put by_name (on_texts (λ (net : Net). net.name)) n o.nets
    sorted

module _ (name : List ℕ) (x : Net) where
  -- a network put among others is found in place of none of another name
  pub other_put : (ys : List Net) → has name x ≡ false → find (has name) (put by_name x ys) ≡ find (has name) ys
  other_put [] new = ap (λ b. cond b (Some x) None) new
  other_put (y ∷ ys) new =
      put_cases by_name x (λ zs. find (has name) zs ≡ find (has name) (y ∷ ys)) y ys
      (λ above e. ap (λ b. cond b (Some x) (find (has name) (y ∷ ys))) new)
      (λ above e. ap (λ b. cond b (Some x) (find (has name) ys)) new
      ∙ sym (ap (λ b. cond b (Some y) (find (has name) ys)) (ap (λ n. bytes_eq n name) (sym (same_name y e)) ∙ new)))
      (λ above e. ap (λ b. cond (has name y) (Some y) (cond b (Some x) (find (has name) ys))) new)
      (λ late. ap (λ (o : Option Net). cond (has name y) (Some y) o) (other_put ys new))
    where
      same_name : (y : Net) → by_name x y ≡ Equal → x.name ≡ y.name
      same_name y e = equal_texts x.name y.name (sym (order_shows x y) ∙ ap is_eq e)

  apart_named : (y : Net) → has name x ≡ true → bytes_eq x.name y.name ≡ false → has name y ≡ false
  apart_named y new apart = ap (bytes_eq y.name) (sym (equal_texts x.name name new)) ∙ bytes_eq-flip y.name x.name
      ∙ apart

  not_late : (y : Net) (ys : List Net) → AllByRecursion (λ z. by_name y z ≡ Less) ys → are_above by_name x ys ≡ false
      → bytes_eq x.name y.name ≡ false
  not_late y ys h late = by_test (bytes_eq x.name y.name) refl
    where
      by_test : (b : Bool) → bytes_eq x.name y.name ≡ b → b ≡ false
      by_test false e = refl
      by_test true e = absurd (false≢true (sym late ∙ above_all x y ys (equal_texts x.name y.name e) h))

  -- and among networks in order it is found by its own name
  pub own_put : (ys : List Net) → IsStrictlySortedBy by_name ys → has name x ≡ true
      → find (has name) (put by_name x ys) ≡ Some x
  unfolding IsStrictlySortedBy
  own_put [] sorted new = ap (λ b. cond b (Some x) None) new
  own_put (y ∷ ys) sorted new =
      put_cases by_name x (λ zs. find (has name) zs ≡ Some x) y ys
      (λ above e. ap (λ b. cond b (Some x) (find (has name) (y ∷ ys))) new)
      (λ above e. ap (λ b. cond b (Some x) (find (has name) ys)) new)
      (λ above e.
      let apart : bytes_eq x.name y.name ≡ false = sym (order_shows x y) ∙ ap is_eq e in
      ap (λ b. cond b (Some y) (cond (has name x) (Some x) (find (has name) ys))) (apart_named y new apart)
      ∙ ap (λ b. cond b (Some x) (find (has name) ys)) new)
      (λ late.
      ap (λ b. cond b (Some y) (find (has name) (put by_name x ys))) (apart_named y new (not_late y ys sorted.0 late))
      ∙ own_put ys sorted.1 new)
