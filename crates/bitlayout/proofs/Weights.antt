-- The position of each weight.
use Rattle.bitlayout.proofs.Common.{◌≡◌, ℕ, ◌+◌, ◌-◌, ◌<◌, ◌≤◌, false, List, length, get_or, refl, sym, ap, subst, ◌∙◌}
use Rattle.bitlayout.proofs.Common.{arith, false_from_ne_true, same_from_decides, eqb-true, eq-eqb}
use Rattle.std.specs.Bool.{Decides}
use Rattle.std.specs.Prelude.{◌%◌, ◌==◌}
use Rattle.std.proofs.lemmas.Bool.Decides.{Decides-eqb}
use Rattle.std.proofs.lemmas.List.{ext_get_or, get_or-reverse, length-reverse}
use Rattle.std.proofs.lemmas.Slice.Eq.{slice_eq-Decides}
use Rattle.bitlayout.specs.declared.layout.Order.{Order}
use Rattle.bitlayout.specs.declared.layout.Order.TheVariants.{Intel, Motorola}
use Rattle.bitlayout.specs.declared.layout.Layout.{Layout}
use Rattle.bitlayout.specs.Bits.{positions, walk}
use Rattle.bitlayout.specs.Interval.{rank}
use Rattle.bitlayout.specs.Weight.{in_weight, by_weight, same_bits}
use Rattle.bitlayout.proofs.Walks.{length-walk, rank-walk, same_rank}

same_bits_decides : (a b : Layout) → Decides (same_bits a b) (by_weight a ≡ by_weight b)
same_bits_decides a b = slice_eq-Decides Decides-eqb (by_weight a) (by_weight b) (same_bits a b) refl

length-in_weight : (order : Order) (ps : List ℕ) → length (in_weight order ps) ≡ length ps
length-in_weight Intel ps = refl
length-in_weight Motorola ps = length-reverse ps

length-by_weight : (layout : Layout) → length (by_weight layout) ≡ layout.size
length-by_weight layout =
    length-in_weight layout.order (positions layout) ∙ length-walk layout.order layout.size layout.start

size_from_same : (a b : Layout) → by_weight a ≡ by_weight b → a.size ≡ b.size
size_from_same a b same = sym (length-by_weight a) ∙ ap length same ∙ length-by_weight b

abbrev at_weight : Layout → ℕ → ℕ
at_weight layout k = get_or (by_weight layout) k 0

-- an Intel signal starts with weight 0, a Motorola signal ends with it
rank_intel : (size start k : ℕ) → k < size
    → at_weight (record { start = start; size = size; order = Intel }) k ≡ start + k
rank_intel size start k below = rank-walk Intel size start k 0 below

rank_motorola : (size start k : ℕ) → k < size
    → rank Motorola (at_weight (record { start = start; size = size; order = Motorola }) k)
    ≡ rank Motorola start + (size - 1 - k)
rank_motorola size start k below =
    let ps : List ℕ = walk Motorola size start in
    let e : length ps ≡ size = length-walk Motorola size start in
    ap (rank Motorola) (get_or-reverse ps k 0 (subst (λ n. k < n) (sym e) below))
    ∙ ap (λ n. rank Motorola (get_or ps (n - 1 - k) 0)) e
    ∙ rank-walk Motorola size start (size - 1 - k) 0 (omega arith)

-- ---- one order

start_from_same : (order : Order) (size p q : ℕ) → 1 ≤ size
    → in_weight order (walk order size p) ≡ in_weight order (walk order size q) → p ≡ q
start_from_same Intel size p q some same =
    let of_p = rank_intel size p 0 (omega arith) in
    let of_q = rank_intel size q 0 (omega arith) in
    let e = ap (λ ps. get_or ps 0 0) same in
    omega arith
start_from_same Motorola size p q some same =
    let of_p = rank_motorola size p 0 (omega arith) in
    let of_q = rank_motorola size q 0 (omega arith) in
    let e = ap (λ ps. rank Motorola (get_or ps 0 0)) same in
    same_rank Motorola p q (omega arith)

-- where order and size are the same, the starts tell
pub same_in_order : (a b : Layout) → a.order ≡ b.order → a.size ≡ b.size → 1 ≤ a.size
    → (a.start == b.start) ≡ same_bits a b
same_in_order a b order size some = same_from_decides (a.start == b.start) (same_bits a b) (
  λ t. let start : a.start ≡ b.start = eqb-true _ _ t in
      λ i. by_weight (record { start = start i; size = size i; order = order i }),
  λ same. eq-eqb _ _ (start_from_same a.order a.size a.start b.start some
      (same ∙ sym (λ i. in_weight (order i) (walk (order i) (size i) b.start)))),
) (same_bits_decides a b)

pub sizes_apart : (a b : Layout) → (a.size ≡ b.size → ⊥) → false ≡ same_bits a b
sizes_apart a b apart = sym (false_from_ne_true _ (λ t. apart (size_from_same a b ((same_bits_decides a b).0 t))))

-- ---- an Intel and a Motorola signal of one size

module _ (size p q : ℕ) (some : 1 ≤ size) where
  abbrev intel : Layout
  intel = record { start = p; size = size; order = Intel }

  abbrev motorola : Layout
  motorola = record { start = q; size = size; order = Motorola }

  -- inside one byte, and the Intel start is the last bit of the Motorola one
  pub same_across : size - 1 ≤ q % 8 → p ≡ q - (size - 1) → by_weight intel ≡ by_weight motorola
  same_across in_byte e = ext_get_or 0 (by_weight intel) (by_weight motorola)
      (length-by_weight intel ∙ sym (length-by_weight motorola))
      (λ k h. each k (subst (λ n. k < n) (length-by_weight intel) h))
    where
      each : (k : ℕ) → k < size → at_weight intel k ≡ at_weight motorola k
      each k below =
          let of_p = rank_intel size p k below in
          let of_q = rank_motorola size q k below in
          let same : rank Motorola (at_weight intel k) ≡ rank Motorola (at_weight motorola k) = omega arith in
          same_rank Motorola _ _ same

  -- the least and the most significant bit already tell
  pub across_from_same : by_weight intel ≡ by_weight motorola → (size - 1 ≤ q % 8) × (p ≡ q - (size - 1))
  across_from_same same =
      let least_of_p = rank_intel size p 0 (omega arith) in
      let least_of_q = rank_motorola size q 0 (omega arith) in
      let most_of_p = rank_intel size p (size - 1) (omega arith) in
      let most_of_q = rank_motorola size q (size - 1) (omega arith) in
      let least = ap (λ ps. rank Motorola (get_or ps 0 0)) same in
      let most = ap (λ ps. rank Motorola (get_or ps (size - 1) 0)) same in
      (omega arith, omega arith)
