-- Runs of the numbers of a range that aren't in an ascending list.
use Rattle.office_blocks.proofs.Common.{◌≡◌, ℕ, zero, suc, ◌+◌, ◌-◌, ◌<◌, ◌≤◌, Bool, true, false, not, cond, List, []}
use Rattle.office_blocks.proofs.Common.{◌∷◌, ◌++◌, length, drop, get_or, refl, sym, ap, subst, ◌∙◌, arith, eq-eqb}
use Rattle.office_blocks.proofs.Common.{append-nil, ◌==◌, if◌then◌else◌, ne_eqb, joined, runs_of, Run, is_taken}
use Rattle.std.proofs.Common.{add-one, append_assoc}
use Rattle.std.proofs.Math.Seq.{drop-cons}
use Rattle.office_blocks.specs.Numbers.{AreWithin, left_numbers}
use Rattle.office_blocks.proofs.Counting.{filter_alike, first_taken, later_alike, none_below, within_order}

abbrev run : ℕ → ℕ → Run
run a b = record { first = a; last = b }

-- the first run begins at the number or above it
abbrev BeginsFrom : ℕ → List Run → Type 0
BeginsFrom from [] = Unit {0}
BeginsFrom from (r ∷ runs) = from ≤ r.first

begins_lower : (from to : ℕ) (runs : List Run) → from ≤ to → BeginsFrom to runs → BeginsFrom from runs
begins_lower from to [] l h = tt
begins_lower from to (r ∷ runs) l h = omega arith

begins_if : (b : Bool) (n : ℕ) (r : Run) (runs : List Run)
    → BeginsFrom n (if b then (run n r.last) ∷ runs else (run n n) ∷ r ∷ runs)
begins_if true n r runs = omega arith
begins_if false n r runs = omega arith

joined_begins : (n : ℕ) (runs : List Run) → BeginsFrom n (joined 1 n runs)
joined_begins n [] = omega arith
joined_begins n (r ∷ runs) = begins_if (r.first == n + 1) n r runs

apart : (n : ℕ) (runs : List Run) → BeginsFrom (n + 2) runs → joined 1 n runs ≡ run n n ∷ runs
apart n [] h = refl
apart n (r ∷ runs) h = ap (λ b. if b then run n r.last ∷ runs else run n n ∷ r ∷ runs)
    (ne_eqb r.first (n + 1) (λ e. omega arith))

beside : (n m : ℕ) (last : ℕ) (runs : List Run) → m ≡ n + 1 → joined 1 n (run m last ∷ runs) ≡ run n last ∷ runs
beside n m last runs e = ap (λ b. if b then run n last ∷ runs else run n n ∷ run m last ∷ runs) (eq-eqb m (n + 1) e)

keep_left : (xs : List ℕ) (from len : ℕ) → is_taken from xs ≡ false
    → left_numbers xs from (suc len) ≡ from ∷ left_numbers xs (from + 1) len
keep_left xs from len e =
    ap (λ b. cond (not b) (from ∷ left_numbers xs (from + 1) len) (left_numbers xs (from + 1) len)) e

left_begins_if : (b : Bool) (n : ℕ) (ns : List ℕ) → BeginsFrom n (runs_of 1 ns)
    → BeginsFrom n (runs_of 1 (cond (not b) (n ∷ ns) ns))
left_begins_if true n ns h = h
left_begins_if false n ns h = joined_begins n (runs_of 1 ns)

left_begins : (xs : List ℕ) (len from : ℕ) → BeginsFrom from (runs_of 1 (left_numbers xs from len))
left_begins xs zero from = tt
left_begins xs (suc len) from =
    left_begins_if (is_taken from xs) from (left_numbers xs (from + 1) len)
    (begins_lower from (from + 1) (runs_of 1 (left_numbers xs (from + 1) len)) (omega arith)
    (left_begins xs len (from + 1)))

-- past a taken number
past_taken : (xs : List ℕ) (x len : ℕ) → left_numbers (x ∷ xs) x (suc len) ≡ left_numbers xs (x + 1) len
past_taken xs x len =
    ap (λ b. cond (not b) (x ∷ left_numbers (x ∷ xs) (x + 1) len) (left_numbers (x ∷ xs) (x + 1) len))
    (first_taken xs x)
    ∙ filter_alike (λ n. not (is_taken n (x ∷ xs))) (λ n. not (is_taken n xs)) len (x + 1)
    (λ n a b. ap not (later_alike xs x n (omega arith)))

-- the numbers before the first taken one are a run
gap_run : (k m from x to : ℕ) (xs : List ℕ) → x ≡ from + suc k → AreWithin (x + 1) to xs
    → runs_of 1 (left_numbers (x ∷ xs) from (suc k + suc m)) ≡ run from (x - 1) ∷ runs_of 1 (left_numbers xs (x + 1) m)
gap_run zero m from x to xs e h =
    let free : is_taken from (x ∷ xs) ≡ false = none_below (x ∷ xs) x to from (omega arith, h) (omega arith) in
    let next : from + 1 ≡ x = omega arith in
    let last : from ≡ x - 1 = omega arith in
    let len : suc zero + suc m ≡ suc (suc m) = omega arith in
    ap (λ v. runs_of 1 (left_numbers (x ∷ xs) from v)) len
    ∙ ap (runs_of 1) (keep_left (x ∷ xs) from (suc m) free)
    ∙ ap (λ n. joined 1 from (runs_of 1 (left_numbers (x ∷ xs) n (suc m)))) next
    ∙ ap (λ ns. joined 1 from (runs_of 1 ns)) (past_taken xs x m)
    ∙ apart from (runs_of 1 (left_numbers xs (x + 1) m))
    (begins_lower (from + 2) (x + 1) (runs_of 1 (left_numbers xs (x + 1) m)) (omega arith) (left_begins xs m (x + 1)))
    ∙ ap (λ n. run from n ∷ runs_of 1 (left_numbers xs (x + 1) m)) last
gap_run (suc k) m from x to xs e h =
    let free : is_taken from (x ∷ xs) ≡ false = none_below (x ∷ xs) x to from (omega arith, h) (omega arith) in
    let len : suc (suc k) + suc m ≡ suc (suc k + suc m) = omega arith in
    ap (λ v. runs_of 1 (left_numbers (x ∷ xs) from v)) len
    ∙ ap (runs_of 1) (keep_left (x ∷ xs) from (suc k + suc m) free)
    ∙ ap (joined 1 from) (gap_run k m (from + 1) x to xs (omega arith) h)
    ∙ beside from (from + 1) (x - 1) (runs_of 1 (left_numbers xs (x + 1) m)) refl

all_run : (m from last : ℕ) → last ≡ from + m → runs_of 1 (left_numbers [] from (suc m)) ≡ run from last ∷ []
all_run zero from last e = let s : from ≡ last = omega arith in ap (λ n. run from n ∷ []) s
all_run (suc m) from last e =
    ap (joined 1 from) (all_run m (from + 1) last (omega arith)) ∙ beside from (from + 1) last [] refl

pub gap_before : (xs : List ℕ) (x from to : ℕ) → AreWithin from to (x ∷ xs) → from < x
    → runs_of 1 (left_numbers (x ∷ xs) from (to - from))
    ≡ run from (x - 1) ∷ runs_of 1 (left_numbers xs (x + 1) (to - (x + 1)))
gap_before xs x from to h below =
    let order = within_order xs (x + 1) to h.1 in
    let k = x - from - 1 in
    let m = to - (x + 1) in
    let len : to - from ≡ suc k + suc m = omega arith in
    ap (λ v. runs_of 1 (left_numbers (x ∷ xs) from v)) len ∙ gap_run k m from x to xs (omega arith) h.1

pub no_gap : (xs : List ℕ) (x from to : ℕ) → AreWithin from to (x ∷ xs) → x ≤ from
    → runs_of 1 (left_numbers (x ∷ xs) from (to - from)) ≡ runs_of 1 (left_numbers xs (x + 1) (to - (x + 1)))
no_gap xs x from to h above =
    let here : from ≤ x = h.0 in
    let order = within_order xs (x + 1) to h.1 in
    let same : from ≡ x = omega arith in
    let m = to - (x + 1) in
    let len : to - from ≡ suc m = omega arith in
    ap (λ v. runs_of 1 (left_numbers (x ∷ xs) from v)) len
    ∙ ap (λ v. runs_of 1 (left_numbers (x ∷ xs) v (suc m))) same
    ∙ ap (runs_of 1) (past_taken xs x m)

pub gap_at_end : (from last : ℕ) → from ≤ last → runs_of 1 (left_numbers [] from (last + 1 - from)) ≡ run from last ∷ []
gap_at_end from last l =
    let m = last - from in
    let len : last + 1 - from ≡ suc m = omega arith in
    ap (λ v. runs_of 1 (left_numbers [] from v)) len ∙ all_run m from last (omega arith)

pub no_gap_at_end : (from last : ℕ) → last < from → runs_of 1 (left_numbers [] from (last + 1 - from)) ≡ []
no_gap_at_end from last l =
    let len : last + 1 - from ≡ 0 = omega arith in
    ap (λ v. runs_of 1 (left_numbers [] from v)) len

-- ---- the numbers one after another

peel : (part : List ℕ) (i : ℕ) → i < length part → drop i part ≡ get_or part i 0 ∷ drop (i + 1) part
peel part i below = drop-cons part i 0 below ∙ ap (λ k. get_or part i 0 ∷ drop k part) (sym (add-one i))

pub next_within : (part : List ℕ) (i next to : ℕ) → i < length part → AreWithin next to (drop i part)
    → AreWithin (get_or part i 0 + 1) to (drop (i + 1) part)
next_within part i next to below h = (subst (AreWithin next to) (peel part i below) h).1

pub next_low : (part : List ℕ) (i next to : ℕ) → i < length part → AreWithin next to (drop i part)
    → get_or part i 0 < to
next_low part i next to below h =
    let order = within_order (drop (i + 1) part) (get_or part i 0 + 1) to (next_within part i next to below h) in
    omega arith

pub gap_step : (whole runs after : List Run) (part : List ℕ) (i next to : ℕ) → i < length part
    → AreWithin next to (drop i part) → next < get_or part i 0
    → whole ≡ runs ++ runs_of 1 (left_numbers (drop i part) next (to - next))
    → after ≡ runs ++ record { first = next; last = get_or part i 0 - 1 } ∷ []
    → whole ≡ after
    ++ runs_of 1 (left_numbers (drop (i + 1) part) (get_or part i 0 + 1) (to - (get_or part i 0 + 1)))
gap_step whole runs after part i next to below h less so is =
    let x = get_or part i 0 in
    let rest = drop (i + 1) part in
    let later = runs_of 1 (left_numbers rest (x + 1) (to - (x + 1))) in
    so
    ∙ ap (λ xs. runs ++ runs_of 1 (left_numbers xs next (to - next))) (peel part i below)
    ∙ ap (λ rs. runs ++ rs) (gap_before rest x next to (subst (AreWithin next to) (peel part i below) h) less)
    ∙ sym (append_assoc runs (run next (x - 1) ∷ []) later)
    ∙ ap (λ rs. rs ++ later) (sym is)

pub same_step : (whole runs : List Run) (part : List ℕ) (i next to : ℕ) → i < length part
    → AreWithin next to (drop i part) → get_or part i 0 ≤ next
    → whole ≡ runs ++ runs_of 1 (left_numbers (drop i part) next (to - next))
    → whole ≡ runs
    ++ runs_of 1 (left_numbers (drop (i + 1) part) (get_or part i 0 + 1) (to - (get_or part i 0 + 1)))
same_step whole runs part i next to below h above so =
    let x = get_or part i 0 in
    so
    ∙ ap (λ xs. runs ++ runs_of 1 (left_numbers xs next (to - next))) (peel part i below)
    ∙ ap (λ rs. runs ++ rs)
    (no_gap (drop (i + 1) part) x next to (subst (AreWithin next to) (peel part i below) h) above)

pub gaps_done : (whole runs after : List Run) (rest : List ℕ) (next last : ℕ) → rest ≡ [] → next ≤ last
    → whole ≡ runs ++ runs_of 1 (left_numbers rest next (last + 1 - next))
    → after ≡ runs ++ record { first = next; last = last } ∷ [] → after ≡ whole
gaps_done whole runs after rest next last none order so is =
    is ∙ ap (λ rs. runs ++ rs) (sym (gap_at_end next last order))
    ∙ ap (λ xs. runs ++ runs_of 1 (left_numbers xs next (last + 1 - next))) (sym none)
    ∙ sym so

pub no_more_gaps : (whole runs : List Run) (rest : List ℕ) (next last : ℕ) → rest ≡ [] → last < next
    → whole ≡ runs ++ runs_of 1 (left_numbers rest next (last + 1 - next)) → runs ≡ whole
no_more_gaps whole runs rest next last none order so =
    sym (append-nil runs) ∙ ap (λ rs. runs ++ rs) (sym (no_gap_at_end next last order))
    ∙ ap (λ xs. runs ++ runs_of 1 (left_numbers xs next (last + 1 - next))) (sym none)
    ∙ sym so
