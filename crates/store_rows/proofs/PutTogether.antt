-- Rows of signals' parts, put together with the rows of the signals.
use Rattle.store_rows.proofs.Common.{◌≡◌, ◌∙◌, ℕ, suc, ◌+◌, ◌<◌, Bool, true, false, cond, List, [], ◌∷◌, ◌++◌, map}
use Rattle.store_rows.proofs.Common.{take, drop, pos, refl, sym, ap, subst, arith, append_assoc, append-nil, inl, inr}
use Rattle.store_rows.proofs.Common.{◌==◌, AllByRecursion, prefix_len, cases_Bool, eq-eqb, eqb-true, Int, Row, column}
use Rattle.store_rows.proofs.Common.{Signal, ValueText}
use Rattle.store_rows.specs.Listed.{AreShown}
use Rattle.store_rows.specs.Live.{parts_of}
use Rattle.store_rows.specs.SignalShowing.{PlacesAscend, ShowsPart, ShowsPlaced, ShowsReceiver, ShowsSignal}
use Rattle.store_rows.specs.SignalShowing.{ShowsValueText, has_place, is_place}
use Rattle.store_rows.proofs.Values.{one_number}

-- ---- one row

own_place : (place n : ℕ) (row : Row) → column row 0 ≡ Int (pos n) → n ≡ place → has_place place row ≡ true
own_place place n row is same = ap (is_place place) is ∙ eq-eqb n place same

other_place : (place n : ℕ) (row : Row) → column row 0 ≡ Int (pos n) → place < n → has_place place row ≡ false
other_place place n row is above = ap (is_place place) is ∙ elim (cases_Bool (n == place)) [
  | inl same ↦ absurd (let e : n ≡ place = eqb-true n place same in omega (arith, e, above))
  | inr apart ↦ apart
]

module _ {X : Type 0} (p : X → Bool) (x : X) (xs : List X) where
  first_passes : p x ≡ true → prefix_len p (x ∷ xs) ≡ suc (prefix_len p xs)
  first_passes is =
      let next : 1 + prefix_len p xs ≡ suc (prefix_len p xs) = omega arith in
      ap (λ b. cond b (1 + prefix_len p xs) 0) is ∙ next

  first_fails : p x ≡ false → prefix_len p (x ∷ xs) ≡ 0
  first_fails is = ap (λ b. cond b (1 + prefix_len p xs) 0) is

-- ---- the parts of one kind

module _ {A : Type 0} (Shows : A → Row → Type 0) (part : Signal → List A) where
  abbrev AreParts : List (ℕ × A) → List Row → Type 0
  AreParts parts rows = AreShown (ShowsPart Shows) parts rows

  none_after : (place : ℕ) (q : ℕ × Signal) (placed : List (ℕ × Signal)) → place < q.0
      → ((others : List Row) → AreParts (parts_of part placed) others → prefix_len (has_place place) others ≡ 0)
      → (own : List A) (rows : List Row) → AreParts (map (λ x. (q.0, x)) own ++ parts_of part placed) rows
      → prefix_len (has_place place) rows ≡ 0
  none_after place q placed above below [] rows shown = below rows shown
  none_after place q placed above below (x ∷ own) [] shown = absurd shown
  none_after place q placed above below (x ∷ own) (r ∷ rows) shown =
      first_fails (has_place place) r rows (other_place place q.0 r shown.0.place above)

  -- the rows of parts whose places are greater don't begin with the place
  none_at : (place : ℕ) (placed : List (ℕ × Signal)) (rows : List Row) → AllByRecursion (λ q. place < q.0) placed
      → AreParts (parts_of part placed) rows
      → prefix_len (has_place place) rows ≡ 0
  none_at place [] [] above shown = refl
  none_at place [] (r ∷ rows) above shown = absurd shown
  none_at place (q ∷ placed) rows above shown =
      none_after place q placed above.0 (λ others. none_at place placed others above.1) (part q.1) rows shown

  -- the rows that begin with the place show its own parts, and those after them the rest
  record IsCut (own : List A) (rest : List (ℕ × A)) (n : ℕ) (rows : List Row) : Type 0 where
    own_shown : AreShown Shows own (take n rows)
    rest_shown : AreParts rest (drop n rows)

  cut_own : (place : ℕ) (own : List A) (rest : List (ℕ × A)) (rows : List Row)
      → ((others : List Row) → AreParts rest others → prefix_len (has_place place) others ≡ 0)
      → AreParts (map (λ x. (place, x)) own ++ rest) rows → IsCut own rest (prefix_len (has_place place) rows) rows
  cut_own place [] rest rows none shown =
      subst (λ n. IsCut [] rest n rows) (sym (none rows shown)) (record { own_shown = tt; rest_shown = shown })
  cut_own place (x ∷ own) rest [] none shown = absurd shown
  cut_own place (x ∷ own) rest (r ∷ rows) none shown =
      let below = cut_own place own rest rows none shown.1 in
      subst (λ n. IsCut (x ∷ own) rest n (r ∷ rows))
      (sym (first_passes (has_place place) r rows (own_place place place r shown.0.place refl)))
      (record { own_shown = (shown.0.part, below.own_shown); rest_shown = below.rest_shown })

  cut_parts : (p : ℕ × Signal) (placed : List (ℕ × Signal)) (rows : List Row) → AllByRecursion (λ q. p.0 < q.0) placed
      → AreParts (parts_of part (p ∷ placed)) rows
      → IsCut (part p.1) (parts_of part placed) (prefix_len (has_place p.0) rows) rows
  cut_parts p placed rows above shown =
      cut_own p.0 (part p.1) (parts_of part placed) rows (λ others. none_at p.0 placed others above) shown

-- ---- the signals

abbrev pub receivers_in : Signal → List (List ℕ)
receivers_in s = s.receivers

abbrev pub values_in : Signal → List ValueText
values_in s = s.values

abbrev pub signal_in : ℕ × Signal → Signal
signal_in p = p.1

-- so many signals are done, and these rows show the others
pub record AreLeft (placed : List (ℕ × Signal)) (done : List Signal) (sigs receivers values : List Row) : Type 0 where
  pub rest : List (ℕ × Signal)
  pub whole : map signal_in placed ≡ done ++ map signal_in rest
  pub ascend : PlacesAscend rest
  pub sigs_shown : AreShown ShowsPlaced rest sigs
  pub receivers_shown : AreShown (ShowsPart ShowsReceiver) (parts_of receivers_in rest) receivers
  pub values_shown : AreShown (ShowsPart ShowsValueText) (parts_of values_in rest) values

-- it is the signal that the row shows, with the parts that the rows before these places show
abbrev pub IsPutTogether : ℕ → ℕ → Row → List Row → List Row → Signal → Type 0
IsPutTogether m n row receivers values signal =
    (other : Signal) → ShowsSignal other row → AreShown ShowsReceiver other.receivers (take m receivers)
    → AreShown ShowsValueText other.values (take n values) → signal ≡ other

module _ (placed : List (ℕ × Signal)) (done : List Signal) where
  pub one_more : (row : Row) (sigs receivers values : List Row) (place : ℕ) (signal : Signal)
      → AreLeft placed done (row ∷ sigs) receivers values → column row 0 ≡ Int (pos place)
      → IsPutTogether (prefix_len (has_place place) receivers) (prefix_len (has_place place) values) row receivers
      values signal
      → AreLeft placed (done ++ signal ∷ []) sigs (drop (prefix_len (has_place place) receivers) receivers)
      (drop (prefix_len (has_place place) values) values)
  one_more row sigs receivers values place signal left is together =
      by_rest left.rest left.whole left.ascend left.sigs_shown left.receivers_shown left.values_shown
    where
      by_rest : (rest : List (ℕ × Signal)) → map signal_in placed ≡ done ++ map signal_in rest → PlacesAscend rest
          → AreShown ShowsPlaced rest (row ∷ sigs)
          → AreShown (ShowsPart ShowsReceiver) (parts_of receivers_in rest) receivers
          → AreShown (ShowsPart ShowsValueText) (parts_of values_in rest) values
          → AreLeft placed (done ++ signal ∷ []) sigs (drop (prefix_len (has_place place) receivers) receivers)
          (drop (prefix_len (has_place place) values) values)
      by_rest [] whole ascend shown names texts = absurd shown
      by_rest (p ∷ rest) whole ascend shown names texts =
          let same : p.0 ≡ place = one_number (column row 0) p.0 place shown.0.place is in
          let own = subst (λ n. IsCut ShowsReceiver receivers_in p.1.receivers (parts_of receivers_in rest)
          (prefix_len (has_place n) receivers) receivers) same
          (cut_parts ShowsReceiver receivers_in p rest receivers ascend.0 names) in
          let own_texts = subst (λ n. IsCut ShowsValueText values_in p.1.values (parts_of values_in rest)
          (prefix_len (has_place n) values) values) same
          (cut_parts ShowsValueText values_in p rest values ascend.0 texts) in
          let signal_is : signal ≡ p.1 = together p.1 shown.0.signal own.own_shown own_texts.own_shown in
          record {
            rest = rest;
            whole = whole ∙ sym (append_assoc done (p.1 ∷ []) (map signal_in rest))
                ∙ ap (λ s. (done ++ s ∷ []) ++ map signal_in rest) (sym signal_is);
            ascend = ascend.1;
            sigs_shown = shown.1;
            receivers_shown = own.rest_shown;
            values_shown = own_texts.rest_shown;
          }

  pub none_left : (receivers values : List Row) → AreLeft placed done [] receivers values → done ≡ map signal_in placed
  none_left receivers values left = by_rest left.rest left.whole left.sigs_shown
    where
      by_rest : (rest : List (ℕ × Signal)) → map signal_in placed ≡ done ++ map signal_in rest
          → AreShown ShowsPlaced rest [] → done ≡ map signal_in placed
      by_rest [] whole shown = sym (append-nil done) ∙ sym whole
      by_rest (p ∷ rest) whole shown = absurd shown

pub all_left : (placed : List (ℕ × Signal)) (sigs receivers values : List Row) → PlacesAscend placed
    → AreShown ShowsPlaced placed sigs
    → AreShown (ShowsPart ShowsReceiver) (parts_of receivers_in placed) receivers
    → AreShown (ShowsPart ShowsValueText) (parts_of values_in placed) values
    → AreLeft placed [] sigs receivers values
all_left placed sigs receivers values ascend a b c =
    record { rest = placed; whole = refl; ascend = ascend; sigs_shown = a; receivers_shown = b; values_shown = c }
