-- A drawing depends only on which bits are at the places of the payload.
use Rattle.page_messages.proofs.Common.{◌≡◌, ◌+◌, ◌-◌, ◌*◌, ◌<◌, ◌≤◌, ◌==◌, ◌&&◌, ◌++◌, ◌∙◌, ℕ, zero, suc, Bool, true}
use Rattle.page_messages.proofs.Common.{false, List, [], ◌∷◌, All, cond, length, refl, ap, arith, flat_map, list_all}
use Rattle.page_messages.proofs.Common.{range_with_len, All-head, All-nil, All-tail, Run, end_tag, start_tag}
use Rattle.std.proofs.lemmas.List.Elements.{All-cons}
use Rattle.page_messages.specs.Layouts.{are_alike, are_free, bits_html, byte_head, byte_row, cell_html, cells_html}
use Rattle.page_messages.specs.Layouts.{free_row, have_same, is_free, is_unheld, joined, layout_heads, row_html}
use Rattle.page_messages.specs.Layouts.{rows_html, run_cell, runs_of}
use Rattle.page_messages.specs.declared.bits.Held.{Held}
use Rattle.markup.specs.declared.tag.Tag.TheVariants as tag

-- ---- runs

last_joined : (n : ℕ) (b c : Bool) → joined b n [] ≡ joined c n []
last_joined n true true = refl
last_joined n true false = refl
last_joined n false true = refl
last_joined n false false = refl

-- runs depend only on which neighbours are alike
runs_same : (f g : ℕ → ℕ → Bool) (a n : ℕ) → ((k : ℕ) → a ≤ k → k + 1 < a + n → f k (k + 1) ≡ g k (k + 1))
    → runs_of f a n ≡ runs_of g a n
unfolding runs_of
runs_same f g a zero same = refl
runs_same f g a (suc zero) same = last_joined a (f a (a + 1)) (g a (a + 1))
runs_same f g a (suc (suc n)) same =
    ap (λ b. joined b a (runs_of f (a + 1) (suc n))) (same a (omega arith) (omega arith))
    ∙ ap (joined (g a (a + 1)) a) (runs_same f g (a + 1) (suc n) (λ k low high. same k (omega arith) (omega arith)))

-- a run of these numbers
pub record IsRunOf (a n : ℕ) (r : Run) : Type 0 where
  pub low : a ≤ r.first
  pub order : r.first ≤ r.last
  pub high : r.last < a + n

wider : (a n : ℕ) (runs : List Run) → All (IsRunOf (a + 1) n) runs → All (IsRunOf a (suc n)) runs
wider a n runs are k d h =
    let it = are k d h in
    record { low = omega (arith, it.low); order = it.order; high = omega (arith, it.high) }

within_joined : (a n : ℕ) (b : Bool) (runs : List Run) → All (IsRunOf (a + 1) n) runs
    → All (IsRunOf a (suc n)) (joined b a runs)
within_joined a n true [] are =
    All-cons (IsRunOf a (suc n)) (record { first = a; last = a }) []
    (record { low = omega arith; order = omega arith; high = omega arith }) (All-nil (IsRunOf a (suc n)))
within_joined a n false [] are =
    All-cons (IsRunOf a (suc n)) (record { first = a; last = a }) []
    (record { low = omega arith; order = omega arith; high = omega arith }) (All-nil (IsRunOf a (suc n)))
within_joined a n true (r ∷ runs) are =
    let it = All-head (IsRunOf (a + 1) n) r runs are in
    All-cons (IsRunOf a (suc n)) (record { first = a; last = r.last }) runs
    (record { low = omega arith; order = omega (arith, it.low, it.order); high = omega (arith, it.high) })
    (wider a n runs (All-tail (IsRunOf (a + 1) n) r runs are))
within_joined a n false (r ∷ runs) are =
    All-cons (IsRunOf a (suc n)) (record { first = a; last = a }) (r ∷ runs)
    (record { low = omega arith; order = omega arith; high = omega arith }) (wider a n (r ∷ runs) are)

runs_within : (f : ℕ → ℕ → Bool) (a n : ℕ) → All (IsRunOf a n) (runs_of f a n)
unfolding runs_of
runs_within f a zero = All-nil (IsRunOf a 0)
runs_within f a (suc n) = within_joined a n (f a (a + 1)) (runs_of f (a + 1) n) (runs_within f (a + 1) n)

each_same : {X : Type 0} (f g : X → List ℕ) (xs : List X) → All (λ x. f x ≡ g x) xs → flat_map f xs ≡ flat_map g xs
each_same f g [] same = refl
each_same f g (x ∷ xs) same =
    ap (λ v. v ++ flat_map f xs) (All-head (λ x. f x ≡ g x) x xs same)
    ∙ ap (λ v. g x ++ v) (each_same f g xs (All-tail (λ x. f x ≡ g x) x xs same))

-- ---- drawings

module _ (at other : ℕ → List Held) (bytes : ℕ) (same : (place : ℕ) → place < 8 * bytes → at place ≡ other place) where
  have_same_alike : (a b : ℕ) → a < 8 * bytes → b < 8 * bytes → have_same at a b ≡ have_same other a b
  have_same_alike a b within in_it =
      ap (λ v. are_alike v (at b)) (same a within) ∙ ap (are_alike (other a)) (same b in_it)

  run_cell_alike : (start : ℕ) (r : Run) → start + 8 ≤ 8 * bytes → IsRunOf start 8 r → run_cell at r ≡ run_cell other r
  run_cell_alike start r within it =
      let high = it.high in
      let order = it.order in
      ap (λ v. cell_html (r.last + 1 - r.first) v (at r.last)) (same r.first (omega arith))
      ∙ ap (λ v. cell_html (r.last + 1 - r.first) (other r.first) v) (same r.last (omega arith))

  cells_alike : (start : ℕ) → start + 8 ≤ 8 * bytes → cells_html at start ≡ cells_html other start
  cells_alike start within =
      ap (flat_map (run_cell at)) (runs_same (have_same at) (have_same other) start 8
      (λ k low high. have_same_alike k (k + 1) (omega arith) (omega arith)))
      ∙ each_same (run_cell at) (run_cell other) (runs_of (have_same other) start 8)
      (λ k d h. run_cell_alike start _ within (runs_within (have_same other) start 8 k d h))

  unheld_alike : (a n : ℕ) → a + n ≤ 8 * bytes
      → list_all (is_unheld at) (range_with_len a n) ≡ list_all (is_unheld other) (range_with_len a n)
  unheld_alike a zero within = refl
  unheld_alike a (suc n) within =
      ap (λ (v : List Held). (length v == 0) && list_all (is_unheld at) (range_with_len (a + 1) n)) (same a (omega arith))
      ∙ ap (λ b. (length (other a) == 0) && b) (unheld_alike (a + 1) n (omega arith))

  is_free_alike : (byte : ℕ) → byte < bytes → is_free at byte ≡ is_free other byte
  unfolding is_free
  is_free_alike byte within = unheld_alike (8 * byte) 8 (omega arith)

  byte_row_alike : (byte : ℕ) → byte < bytes → byte_row at (8 * byte) ≡ byte_row other (8 * byte)
  byte_row_alike byte within =
      ap (λ v. start_tag tag.Row [] ++ (byte_head (8 * byte) ++ (v ++ end_tag tag.Row)))
      (cells_alike (8 * byte) (omega arith))

  row_alike : (r : Run) → IsRunOf 0 bytes r → row_html at r ≡ row_html other r
  row_alike r it =
      let high = it.high in
      let order = it.order in
      let within : r.first < bytes = omega arith in
      ap (λ b. cond b (free_row r) (byte_row at (8 * r.first))) (is_free_alike r.first within)
      ∙ ap (λ v. cond (is_free other r.first) (free_row r) v) (byte_row_alike r.first within)

  rows_alike : rows_html at bytes ≡ rows_html other bytes
  rows_alike =
      ap (flat_map (row_html at)) (runs_same (are_free at) (are_free other) 0 bytes
      (λ k low high. ap (λ b. b && is_free at (k + 1)) (is_free_alike k (omega arith))
      ∙ ap (λ b. is_free other k && b) (is_free_alike (k + 1) (omega arith))))
      ∙ each_same (row_html at) (row_html other) (runs_of (are_free other) 0 bytes)
      (λ k d h. row_alike _ (runs_within (are_free other) 0 bytes k d h))

  pub bits_alike : bits_html at bytes ≡ bits_html other bytes
  bits_alike =
      ap (λ v. layout_heads ++ (start_tag tag.TableBody [] ++ (v ++ end_tag tag.TableBody))) rows_alike
