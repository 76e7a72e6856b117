-- How many numbers below a limit are parameter group numbers.
use Rattle.std.proofs.Common.{◌≡◌, ℕ, zero, suc, ◌+◌, ◌*◌, ◌%◌, ◌<◌, ◌≤◌, Bool, true, false, cond, [], ◌∷◌, refl, arith}
use Rattle.std.proofs.Common.{◌∙◌, ap, zero-add}
use Rattle.std.proofs.lemmas.List.Sums.{sum_by-append}
use Rattle.std.specs.Prelude.{count_by}
use Rattle.std.specs.List.{range_with_len}
use Rattle.std.proofs.lemmas.Bool.Decides.{nat_tests}
use Rattle.can_id.specs.J1939.{is_pgn, format_of, pgn_count}

-- of n numbers from a on
counted : ℕ → ℕ → ℕ
counted a n = count_by is_pgn (range_with_len a n)

one : Bool → ℕ
one b = cond b 1 0

counted-zero : (a : ℕ) → counted a zero ≡ 0
unfolding counted
counted-zero a = refl

counted-suc : (a n : ℕ) → counted a (suc n) ≡ one (is_pgn a) + counted (a + 1) n
unfolding counted one
counted-suc a n =
    sum_by-append (λ k. cond (is_pgn k) 1 0) (a ∷ []) (range_with_len (a + 1) n)
    ∙ ap (λ k. k + count_by is_pgn (range_with_len (a + 1) n)) (zero-add (cond (is_pgn a) 1 0))

one-true : (b : Bool) → b ≡ true → one b ≡ 1
unfolding one
one-true b e = rw e refl

one-false : (b : Bool) → b ≡ false → one b ≡ 0
unfolding one
one-false b e = rw e refl

counted-add : (m a n : ℕ) → counted a (m + n) ≡ counted a m + counted (a + m) n
counted-add zero a n =
    let e : zero + n ≡ n = omega arith in
    let f : a + zero ≡ a = omega arith in
    let none = counted-zero a in
    rw (e, f) (omega arith)
counted-add (suc m) a n =
    let e : suc m + n ≡ suc (m + n) = omega arith in
    let f : a + suc m ≡ a + 1 + m = omega arith in
    let here = counted-suc a m in
    let all = counted-suc a (m + n) in
    let rest = counted-add m (a + 1) n in
    rw (e, f) (omega arith)

counted_all : (n a : ℕ) → ((k : ℕ) → a ≤ k → k < a + n → is_pgn k ≡ true) → counted a n ≡ n
counted_all zero a each = counted-zero a
counted_all (suc n) a each =
    let here = counted-suc a n in
    let first = one-true (is_pgn a) (each a (omega arith) (omega arith)) in
    let rest = counted_all n (a + 1) (λ k low high. each k (omega arith) (omega arith)) in
    omega arith

counted_none : (n a : ℕ) → ((k : ℕ) → a ≤ k → k < a + n → is_pgn k ≡ false) → counted a n ≡ 0
counted_none zero a each = counted-zero a
counted_none (suc n) a each =
    let here = counted-suc a n in
    let first = one-false (is_pgn a) (each a (omega arith) (omega arith)) in
    let rest = counted_none n (a + 1) (λ k low high. each k (omega arith) (omega arith)) in
    omega arith

-- PDU1: the first of 256 numbers
is_first : (n : ℕ) → n < 131072 → n % 256 ≡ 0 → is_pgn n ≡ true
is_first n h e = grind (arith, nat_tests)

is_later : (n : ℕ) → format_of n < 240 → 1 ≤ n % 256 → is_pgn n ≡ false
is_later n h e = grind (arith, nat_tests)

-- PDU2: each
is_each : (n : ℕ) → n < 131072 → 240 ≤ format_of n → is_pgn n ≡ true
is_each n h e = grind (arith, nat_tests)

counted_block : (a page pf : ℕ) → a ≡ page * 65536 + pf * 256 → page ≤ 1 → pf < 240 → counted a 256 ≡ 1
counted_block a page pf e p f =
    let first = one-true (is_pgn a) (is_first a (omega arith) (omega arith)) in
    let rest = counted_none 255 (a + 1) (λ k low high. is_later k (omega arith) (omega arith)) in
    counted-suc a 255 ∙ omega arith

counted_pdu1 : (m a page : ℕ) → a ≡ page * 65536 → page ≤ 1 → m ≤ 240 → counted a (m * 256) ≡ m
counted_pdu1 zero a page e p h = counted-zero a
counted_pdu1 (suc m) a page e p h =
    let wide : suc m * 256 ≡ m * 256 + 256 = omega arith in
    let before = counted_pdu1 m a page e p (omega arith) in
    let last = counted_block (a + m * 256) page m (omega arith) p (omega arith) in
    let whole = counted-add (m * 256) a 256 in
    rw wide (omega arith)

counted_page : (a page : ℕ) → a ≡ page * 65536 → page ≤ 1 → counted a 65536 ≡ 4336
counted_page a page e p =
    let addressed = counted_pdu1 240 a page e p (omega arith) in
    let global = counted_all 4096 (a + 61440) (λ k low high. is_each k (omega arith) (omega arith)) in
    let whole = counted-add 61440 a 4096 in
    omega arith

pgn_count-counted : (limit : ℕ) → pgn_count limit ≡ counted 0 limit
unfolding pgn_count counted
pgn_count-counted limit = refl

-- two data pages of 240 groups with a destination and 16 times 256 without
pub pgn_count_is : pgn_count 131072 ≡ 8672
pgn_count_is =
    let low = counted_page 0 0 refl (omega arith) in
    let high = counted_page 65536 1 refl (omega arith) in
    pgn_count-counted 131072 ∙ counted-add 65536 0 65536 ∙ omega arith
