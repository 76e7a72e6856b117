-- Nodes, value tables and messages that can't be in one sheet.
use Rattle.dbc_read.proofs.Common.{◌≡◌, ◌≤◌, ◌==◌, ℕ, List, [], ◌∷◌, ◌++◌, length-append, arith, Bool, false, sym}
use Rattle.dbc_read.proofs.Common.{subst, IsPermutation, AllByRecursion, bytes_eq, IsPermutation-append_right}
use Rattle.dbc_read.proofs.Common.{IsDistinct-IsPermutation, first_refusal, IsRefusal, message_limit, roster_limit}
use Rattle.dbc_read.proofs.Common.{SheetCode, message_name, message_tests, number_of, table_name, AreFewTexts}
use Rattle.dbc_read.proofs.Common.{AreRostered, Message, ValueTable, all_permutation, nat_flip}
use Rattle.std.specs.List.{IsDistinct}
use Rattle.std.proofs.lemmas.List.Sorted.{length_permutation}
use Rattle.dbc_words.specs.Named.{roster_tests}
use Rattle.dbc_read.specs.Built.{AreAddable}
use Rattle.dbc_read.specs.Fit.{CanShareSheet, IsFit, TablesFit}
use Rattle.dbc_read.specs.Refusal.{Unless, refusal_of}
use Rattle.dbc_read.specs.declared.refusal.Refusal.{Refusal}
use Rattle.dbc_read.proofs.Refused.{each_middle, none_before, refused, room, unless}
use Rattle.dbc_read.proofs.Bytes.{bytes_flip}

rostered : {A : Type 0} (name : A → List ℕ) (before : List A) (x : A) (after : List A)
    → AreRostered name (before ++ x ∷ after)
    → AllByRecursion (λ t. t.holds ≡ false) (roster_tests name before (name x))
rostered name before x after h = (
  room roster_limit before x after h.few,
  (none_before (λ a b. bytes_eq (name a) (name b)) before x after h.apart, tt),
)

-- one that is refused after others
pub node_refused : {A : Type 0} (name : A → List ℕ) (before : List A) (x : A) (after whole : List A) (code : SheetCode)
    → before ++ x ∷ after ≡ whole
    → IsRefusal (first_refusal (roster_tests name before (name x))) code
    → Unless (refusal_of code) (AreRostered name whole → ⊥)
node_refused name before x after whole code e is =
    refused (roster_tests name before (name x)) code (AreRostered name whole)
    (λ h. rostered name before x after (subst (AreRostered name) (sym e) h)) is

distinct_front : {A : Type 0} (e : A → A → Bool) (xs ys : List A) → IsDistinct e (xs ++ ys) → IsDistinct e xs
unfolding IsDistinct
distinct_front e [] ys h = tt
distinct_front {A} e (x ∷ xs) ys h = (front xs h.0, distinct_front e xs ys h.1)
  where
    front : (zs : List A) → AllByRecursion (λ z. e x z ≡ false) (zs ++ ys) → AllByRecursion (λ z. e x z ≡ false) zs
    front [] a = tt
    front (z ∷ zs) a = (a.0, front zs a.1)

rostered_front : {A : Type 0} (name : A → List ℕ) (xs ys : List A) → AreRostered name (xs ++ ys) → AreRostered name xs
rostered_front name xs ys h = record {
  apart = distinct_front (λ a b. bytes_eq (name a) (name b)) xs ys h.apart;
  few = let e = length-append xs ys in let few = h.few in omega (arith, e, few);
}

-- some that are refused before others
pub nodes_refused : {A : Type 0} (name : A → List ℕ) (some after whole : List A) (refusal : Refusal)
    → some ++ after ≡ whole
    → Unless refusal (AreRostered name some → ⊥) → Unless refusal (AreRostered name whole → ⊥)
nodes_refused name some after whole refusal e h =
    unless refusal _ _ (λ all. rostered_front name some after (subst (AreRostered name) (sym e) all)) h

pub table_refused : (before : List ValueTable) (x : ValueTable) (after whole : List ValueTable) (code : SheetCode)
    → before ++ x ∷ after ≡ whole
    → IsRefusal (first_refusal (roster_tests table_name before x.name)) code
    → Unless (refusal_of code) (TablesFit whole → ⊥)
table_refused before x after whole code e is =
    refused (roster_tests table_name before x.name) code (TablesFit whole)
    (λ h. rostered table_name before x after (subst (AreRostered table_name) (sym e) h.together)) is

-- a value table with too many entries
pub entries_refused : (before : List ValueTable) (x : ValueTable) (after whole : List ValueTable) (refusal : Refusal)
    → before ++ x ∷ after ≡ whole
    → Unless refusal (AreFewTexts x.entries → ⊥) → Unless refusal (TablesFit whole → ⊥)
entries_refused before x after whole refusal e h =
    unless refusal _ _ (λ fit. each_middle (λ (t : ValueTable). AreFewTexts t.entries) before x after
    (subst (AllByRecursion (λ (t : ValueTable). AreFewTexts t.entries)) (sym e) fit.entries)) h

pub number_flip : (a b : Message) → number_of a == number_of b ≡ (number_of b == number_of a)
number_flip a b = nat_flip (number_of a) (number_of b)

name_flip : (a b : Message) → bytes_eq (message_name a) (message_name b) ≡ bytes_eq (message_name b) (message_name a)
name_flip a b = bytes_flip a.name b.name

-- in any order
pub share_in_any_order : (xs ys : List Message) → IsPermutation xs ys → CanShareSheet xs → CanShareSheet ys
share_in_any_order xs ys p h = record {
  numbers = IsDistinct-IsPermutation (λ a b. number_of a == number_of b) number_flip xs ys p h.numbers;
  names = IsDistinct-IsPermutation (λ a b. bytes_eq (message_name a) (message_name b)) name_flip xs ys p h.names;
  few = subst (λ n. n ≤ message_limit) (sym (length_permutation xs ys p)) h.few;
}

pub addable_in_any_order : (before xs ys : List Message) → IsPermutation xs ys → AreAddable before xs
    → AreAddable before ys
addable_in_any_order before xs ys p h = record {
  fit = all_permutation IsFit xs ys p h.fit;
  together = share_in_any_order (before ++ xs) (before ++ ys) (IsPermutation-append_right before xs ys p) h.together;
}

sharing : (before : List Message) (m : Message) (after : List Message) → CanShareSheet (before ++ m ∷ after)
    → AllByRecursion (λ t. t.holds ≡ false) (message_tests before m)
sharing before m after h = (
  room message_limit before m after h.few,
  (
    none_before (λ a b. number_of a == number_of b) before m after h.numbers,
    (none_before (λ a b. bytes_eq (message_name a) (message_name b)) before m after h.names, tt),
  ),
)

-- a message that is refused beside others
pub message_refused : (before : List Message) (m : Message) (after whole : List Message) (code : SheetCode)
    → IsPermutation whole (before ++ m ∷ after)
    → IsRefusal (first_refusal (message_tests before m)) code → Unless (refusal_of code) (CanShareSheet whole → ⊥)
message_refused before m after whole code p is =
    refused (message_tests before m) code (CanShareSheet whole)
    (λ h. sharing before m after (share_in_any_order whole (before ++ m ∷ after) p h)) is

-- a message that isn't fit
pub message_unfit : (before : List Message) (m : Message) (after whole : List Message) (refusal : Refusal)
    → before ++ m ∷ after ≡ whole
    → Unless refusal (IsFit m → ⊥) → Unless refusal (AllByRecursion IsFit whole → ⊥)
message_unfit before m after whole refusal e h =
    unless refusal _ _ (λ all. each_middle IsFit before m after (subst (AllByRecursion IsFit) (sym e) all)) h
