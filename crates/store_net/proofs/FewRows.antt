-- Rows whose rowids are from 1 to a number are at most so many.
use Rattle.store_net.proofs.Common.{◌≡◌, ◌∙◌, ℕ, ◌+◌, ◌<◌, ◌≤◌, pos, Bool, true, false, cond, List, [], ◌∷◌, filter}
use Rattle.store_net.proofs.Common.{length, refl, sym, ap, subst, arith, ◌==◌, min, IsTrue, AllByRecursion, Ordering}
use Rattle.store_net.proofs.Common.{Less, eqb-true, nat_tests, length-map, Row, value_cmp, Int, Text, Blob, IsOffice}
use Rattle.store_net.proofs.Common.{tables_of, has_rowid_below, msg_entries, int_test}
use Rattle.std.proofs.Common.{negsuc, int_cmp, nat_cmp}
use Rattle.std.specs.Ordering.{is_gt, is_lt}
use Rattle.std.specs.declared.cmp.Ordering.TheVariants.{Equal, Greater}
use Rattle.sqlite.specs.declared.types.Value.{Value}
use Rattle.sqlite.specs.declared.types.Value.TheVariants.{Null, Real}
use Rattle.sqlite_value.proofs.OrderLemmas.{value_cmp-Int}
use Rattle.sqlite_trees.specs.Tree.{IsTable, rowid}
use Rattle.sqlite_trees.specs.View.{IsShaped, is_int}
use Rattle.sqlite_trees.specs.declared.store.Shape.TheVariants as shape
use Rattle.sqlite.specs.State.{State}
use Rattle.store_tables.specs.Tables.{values}
use Rattle.store_tables.proofs.Changing.{shaped_before}
use Rattle.store_tables.proofs.TableIndices.{msg, msg_only, msg_there}
use Rattle.store_statements.specs.Rows.{has_rowid_above, is_below}

not_less : (a b : ℕ) → is_lt (nat_cmp a b) ≡ false → b ≤ a
not_less a b e = by_order (nat_cmp a b) refl e
  where
    by_order : (o : Ordering) → nat_cmp a b ≡ o → is_lt o ≡ false → b ≤ a
    by_order Less is fails = absurd (cc)
    by_order Equal is fails = grind (arith, nat_tests, is)
    by_order Greater is fails = grind (arith, nat_tests, is)

not_greater : (a b : ℕ) → is_gt (nat_cmp a b) ≡ false → a ≤ b
not_greater a b e = by_order (nat_cmp a b) refl e
  where
    by_order : (o : Ordering) → nat_cmp a b ≡ o → is_gt o ≡ false → a ≤ b
    by_order Less is fails = grind (arith, nat_tests, is)
    by_order Equal is fails = grind (arith, nat_tests, is)
    by_order Greater is fails = absurd (cc)

-- a rowid that is neither below one number nor above another: the first is at most the second
within : (v : Value) (least most : ℕ) → IsTrue (is_int v) → is_below least v ≡ false
    → is_gt (value_cmp v (Int (pos most))) ≡ false → least ≤ most
within (Int (pos k)) least most int low high =
    let a : least ≤ k = not_less k least (ap is_lt (sym (int_test k least)) ∙ low) in
    let b : k ≤ most = not_greater k most (ap is_gt (sym (int_test k most)) ∙ high) in
    omega (arith, a, b)
within (Int (negsuc k)) least most int low high =
    let less : int_cmp (negsuc k) (pos least) ≡ Less = refl in
    let below : is_lt (value_cmp (Int (negsuc k)) (Int (pos least))) ≡ true =
    ap is_lt (value_cmp-Int (negsuc k) (pos least) ∙ less) in
    let both : true ≡ false = sym below ∙ low in
    absurd (cc)
within Null least most int low high = absurd (cc)
within (Real x) least most int low high = absurd (cc)
within (Text s) least most int low high = absurd (cc)
within (Blob b) least most int low high = absurd (cc)

-- where a rowid isn't below a number, a greater one isn't below the next number
next_above : (v w : Value) (least : ℕ) → IsTrue (is_int v) → IsTrue (is_int w) → value_cmp v w ≡ Less
    → is_below least v ≡ false → is_below (least + 1) w ≡ false
next_above (Int (pos k)) (Int (pos j)) least int int2 up low =
    let a : least ≤ k = not_less k least (ap is_lt (sym (int_test k least)) ∙ low) in
    let less : nat_cmp k j ≡ Less = sym (int_test k j) ∙ up in
    let b : k < j = grind (arith, nat_tests, less) in
    let c : least + 1 ≤ j = omega (arith, a, b) in
    let no : is_lt (nat_cmp j (least + 1)) ≡ false = grind (arith, nat_tests, c) in
    ap is_lt (int_test j (least + 1)) ∙ no
next_above (Int (pos k)) (Int (negsuc j)) least int int2 up low =
    let more : int_cmp (pos k) (negsuc j) ≡ Greater = refl in
    let same : Greater ≡ Less = sym more ∙ sym (value_cmp-Int (pos k) (negsuc j)) ∙ up in
    absurd (cc)
next_above (Int (negsuc k)) w least int int2 up low =
    let less : int_cmp (negsuc k) (pos least) ≡ Less = refl in
    let below : is_lt (value_cmp (Int (negsuc k)) (Int (pos least))) ≡ true =
    ap is_lt (value_cmp-Int (negsuc k) (pos least) ∙ less) in
    let both : true ≡ false = sym below ∙ low in
    absurd (cc)
next_above Null w least int int2 up low = absurd (cc)
next_above (Real x) w least int int2 up low = absurd (cc)
next_above (Text s) w least int int2 up low = absurd (cc)
next_above (Blob b) w least int int2 up low = absurd (cc)
next_above (Int (pos k)) Null least int int2 up low = absurd (cc)
next_above (Int (pos k)) (Real x) least int int2 up low = absurd (cc)
next_above (Int (pos k)) (Text s) least int int2 up low = absurd (cc)
next_above (Int (pos k)) (Blob b) least int int2 up low = absurd (cc)

abbrev AreInts : List Row → Type 0
AreInts rows = AllByRecursion (λ r. IsTrue (is_int (rowid r))) rows

all_above : (r : Row) (rows : List Row) (least : ℕ) → IsTrue (is_int (rowid r)) → AreInts rows
    → AllByRecursion (λ s. value_cmp (rowid r) (rowid s) ≡ Less) rows
    → has_rowid_below least r ≡ false → AllByRecursion (λ s. has_rowid_below (least + 1) s ≡ false) rows
all_above r [] least int ints up low = tt
all_above r (s ∷ rows) least int ints up low =
    (next_above (rowid r) (rowid s) least int ints.0 up.0 low, all_above r rows least int ints.1 up.1 low)

few_from : (rows : List Row) (least most : ℕ) → least ≤ most + 1 → IsTable rows → AreInts rows
    → AllByRecursion (λ r. has_rowid_above most r ≡ false) rows
    → AllByRecursion (λ r. has_rowid_below least r ≡ false) rows → length rows + least ≤ most + 1
few_from [] least most room table ints high low = omega (arith, room)
few_from (r ∷ rows) least most room table ints high low =
    let first : least ≤ most = within (rowid r) least most ints.0 low.0 high.0 in
    let rest = few_from rows (least + 1) most (omega (arith, first)) table.1 ints.1 high.1
    (all_above r rows least ints.0 ints.1 table.0 low.0) in
    omega (arith, rest)

all_false : (p : Row → Bool) (rows : List Row) → length (filter p rows) ≡ 0 → AllByRecursion (λ r. p r ≡ false) rows
all_false p [] none = tt
all_false p (r ∷ rows) none = by_test (p r) refl none (all_false p rows)
  where
    by_test : (b : Bool) → p r ≡ b → length (cond b (r ∷ filter p rows) (filter p rows)) ≡ 0
        → (length (filter p rows) ≡ 0 → AllByRecursion (λ s. p s ≡ false) rows)
        → AllByRecursion (λ s. p s ≡ false) (r ∷ rows)
    by_test true is e rest = absurd (omega (arith, e))
    by_test false is e rest = (is, rest e)

pub few_rows : (rows : List Row) (most : ℕ) → IsShaped shape.Table rows
    → length (filter (has_rowid_above most) rows) ≡ 0 → length (filter (has_rowid_below 1) rows) ≡ 0
    → length rows ≤ most
few_rows rows most shaped none_above none_below =
    let few = few_from rows 1 most (omega (arith)) shaped.0 shaped.1 (all_false (has_rowid_above most) rows none_above)
    (all_false (has_rowid_below 1) rows none_below) in
    omega (arith, few)

-- the rows of all live messages
pub few_msgs : (old : State) → IsOffice old.now → (most : ℕ)
    → length (filter (has_rowid_above most) (msg_entries old.now.trees)) ≡ 0
    → length (filter (has_rowid_below 1) (msg_entries old.now.trees)) ≡ 0 → length (tables_of old.now.trees).msg ≤ most
few_msgs old office most none_above none_below =
    let entries = msg_entries old.now.trees in
    subst (λ n. n ≤ most) (sym (length-map entries values))
    (few_rows entries most (shaped_before 9 msg msg_there msg_only old office) none_above none_below)

-- a SELECT of one row that shows none: there is none
pub none_there : (empty : Bool) (shown rows many : ℕ) → empty ≡ (shown == 0) → empty ≡ true → shown ≡ rows
    → rows ≡ min 1 many → many ≡ 0
none_there empty shown rows many is none same first =
    let zero : shown ≡ 0 = eqb-true shown 0 (sym is ∙ none) in
    omega (arith, zero, same, first)
