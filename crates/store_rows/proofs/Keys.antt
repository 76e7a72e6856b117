-- Columns as keys: texts and numbers are in the order that the office's lists have, and a value is one text or one
-- number.
use Rattle.store_rows.proofs.Common.{◌≡◌, ℕ, ◌<◌, pos, Bool, true, false, ◌&&◌, not, List, refl, sym, ap, subst, ◌∙◌}
use Rattle.store_rows.proofs.Common.{arith, ints, nat_tests, false≢true, bytes_eq, is_eq, nat_cmp, ordering_then}
use Rattle.store_rows.proofs.Common.{IsTotalOrder, on_total, then_total, tied_itself, Ordering, Less, Equal, Greater}
use Rattle.store_rows.proofs.Common.{Value, Int, Text, Row, column, value_cmp, value_cmp_total, text_cmp, IsIdentifier}
use Rattle.store_rows.proofs.Common.{dbc_number, Ident, form_number, is_spn, Spn, by_column, is_of_net, net_order}
use Rattle.store_rows.proofs.Common.{messages_order, blocks_order, blocks_of_form_order, held_order, spns_order}
use Rattle.store_rows.proofs.Common.{approvals_order, releases_order}
use Rattle.std.proofs.lemmas.Slice.Eq.{bytes_eq-Decides}
use Rattle.std.specs.Ordering.{int_cmp}
use Rattle.std.specs.Cmp.{Equal-is}
use Rattle.std.specs.Cmp.Lexicographic.{texts_ties}
use Rattle.sqlite_value.proofs.OrderLemmas.{value_cmp-Int, value_cmp-Text}
use Rattle.can_id.specs.declared.ident.Ident.TheVariants as id
use Rattle.dbc_words.proofs.Naming.{bytes_eq-flip}
use Rattle.office_types.specs.declared.block.BlockForm.{BlockForm}
use Rattle.office_types.specs.declared.block.BlockForm.TheVariants.{Std, Ext, Pgn}
use Rattle.office_rules.specs.Facts.{same_ident}
use Rattle.store_statements.specs.Shown.{parts_order}

-- ---- tests

pub and_left : (a b : Bool) → (a && b) ≡ true → a ≡ true
and_left true b h = refl
and_left false b h = h

pub and_right : (a b : Bool) → (a && b) ≡ true → b ≡ true
and_right true b h = h
and_right false b h = absurd (false≢true h)

pub and_none : (a : Bool) → (a && false) ≡ false
and_none true = refl
and_none false = refl

pub not_true : (a : Bool) → not a ≡ true → a ≡ false
not_true true h = absurd (false≢true h)
not_true false h = refl

-- a value that is one is no other
pub one_value : (v a b : Value) → is_eq (value_cmp v a) ≡ true → is_eq (value_cmp a b) ≡ false
    → is_eq (value_cmp v b) ≡ false
one_value v a b here apart = ap is_eq (value_cmp_total.congr v a b ((Equal-is (value_cmp v a)).0 here)) ∙ apart

-- ---- texts

pub text_test : (a b : List ℕ) → is_eq (value_cmp (Text a) (Text b)) ≡ bytes_eq a b
text_test a b = ap is_eq (value_cmp-Text a b) ∙ sym (texts_ties a b)

pub own_text : (a b : List ℕ) → a ≡ b → is_eq (value_cmp (Text a) (Text b)) ≡ true
own_text a b same = text_test a b ∙ (bytes_eq-Decides a b).1 same

-- a text that is the name isn't another name
pub other_text : (text name other : List ℕ) → text ≡ name → bytes_eq name other ≡ false
    → is_eq (value_cmp (Text text) (Text other)) ≡ false
other_text text name other same apart = text_test text other ∙ ap (λ n. bytes_eq n other) same ∙ apart

-- a row of the other network isn't the network's
pub other_net : (text name other : List ℕ) → text ≡ name → bytes_eq name other ≡ false → (row : Row)
    → is_of_net other row ≡ true → is_of_net text row ≡ false
other_net text name other same apart row here =
    one_value (column row 0) (Text other) (Text text) here
    (text_test other text ∙ ap (bytes_eq other) same ∙ bytes_eq-flip other name ∙ apart)

pub own_net : (text name : List ℕ) → text ≡ name → (row : Row) → is_of_net name row ≡ true → is_of_net text row ≡ true
own_net text name same row here = subst (λ n. is_of_net n row ≡ true) (sym same) here

pub text_order : (a b c d : List ℕ) → c ≡ a → d ≡ b → text_cmp a b ≡ value_cmp (Text c) (Text d)
text_order a b c d first second = ap (λ v. text_cmp v b) (sym first) ∙ ap (text_cmp c) (sym second)
    ∙ sym (value_cmp-Text c d)

-- ---- numbers

pub int_test : (m n : ℕ) → value_cmp (Int (pos m)) (Int (pos n)) ≡ nat_cmp m n
int_test m n =
    let same : nat_cmp m n ≡ int_cmp (pos m) (pos n) = grind (arith, ints) in
    value_cmp-Int (pos m) (pos n) ∙ sym same

pub number_order : (a b c d : ℕ) → c ≡ a → d ≡ b → nat_cmp a b ≡ value_cmp (Int (pos c)) (Int (pos d))
number_order a b c d first second = ap (λ v. nat_cmp v b) (sym first) ∙ ap (nat_cmp c) (sym second) ∙ sym (int_test c d)

pub number_below : (m n : ℕ) → m < n → value_cmp (Int (pos m)) (Int (pos n)) ≡ Less
number_below m n less =
    let is : nat_cmp m n ≡ Less = grind (arith, nat_tests, less) in
    int_test m n ∙ is

pub own_number : (m n : ℕ) → m ≡ n → is_eq (value_cmp (Int (pos m)) (Int (pos n))) ≡ true
own_number m n same = ap (λ v. is_eq (value_cmp (Int (pos v)) (Int (pos n)))) same
    ∙ ap is_eq (tied_itself value_cmp_total (Int (pos n)))

-- a form other than that of suspect parameter numbers has another number
pub other_form : (form : BlockForm) (m : ℕ) → m ≡ form_number form → is_spn form ≡ false
    → is_eq (value_cmp (Int (pos m)) (Int (pos (form_number Spn)))) ≡ false
other_form form m same none = ap is_eq (int_test m (form_number Spn))
    ∙ ap (λ v. is_eq (nat_cmp v (form_number Spn))) same ∙ by_form form none
  where
    by_form : (f : BlockForm) → is_spn f ≡ false → is_eq (nat_cmp (form_number f) (form_number Spn)) ≡ false
    by_form Std h = refl
    by_form Ext h = refl
    by_form Pgn h = refl
    by_form Spn h = absurd (false≢true (sym h))

pub spn_apart : (form : BlockForm) (m : ℕ) → m ≡ form_number form → is_spn form ≡ false
    → is_eq (value_cmp (Int (pos (form_number Spn))) (Int (pos m))) ≡ false
spn_apart form m same none = ap is_eq (int_test (form_number Spn) m)
    ∙ ap (λ v. is_eq (nat_cmp (form_number Spn) v)) same ∙ by_form form none
  where
    by_form : (f : BlockForm) → is_spn f ≡ false → is_eq (nat_cmp (form_number Spn) (form_number f)) ≡ false
    by_form Std h = refl
    by_form Ext h = refl
    by_form Pgn h = refl
    by_form Spn h = absurd (false≢true (sym h))

-- identifiers are the same if their numbers are
pub same_number : (a b : Ident) → IsIdentifier a → IsIdentifier b
    → same_ident a b ≡ is_eq (value_cmp (Int (pos (dbc_number a))) (Int (pos (dbc_number b))))
same_number a b is_a is_b = by_form a b is_a is_b ∙ ap is_eq (sym (int_test (dbc_number a) (dbc_number b)))
  where
    by_form : (a b : Ident) → IsIdentifier a → IsIdentifier b
        → same_ident a b ≡ is_eq (nat_cmp (dbc_number a) (dbc_number b))
    by_form (id.Std m) (id.Std n) h k = grind (arith, nat_tests)
    by_form (id.Std m) (id.Ext n) h k = grind (arith, nat_tests, h, k)
    by_form (id.Ext m) (id.Std n) h k = grind (arith, nat_tests, h, k)
    by_form (id.Ext m) (id.Ext n) h k = grind (arith, nat_tests)

-- ---- orders

pub tied_both : (a b : Ordering) → is_eq (ordering_then a b) ≡ (is_eq a && is_eq b)
tied_both Less b = refl
tied_both Equal b = refl
tied_both Greater b = refl

column_total : (at : ℕ) → IsTotalOrder (by_column at)
column_total at = on_total (λ (row : Row). column row at) value_cmp_total

pub net_total : IsTotalOrder net_order
net_total = column_total 0

pub messages_total : IsTotalOrder messages_order
messages_total = column_total 1

pub blocks_total : IsTotalOrder blocks_order
blocks_total = then_total (column_total 1) (column_total 2)

pub blocks_of_form_total : IsTotalOrder blocks_of_form_order
blocks_of_form_total = then_total (column_total 0) (column_total 2)

pub held_total : IsTotalOrder held_order
held_total = column_total 1

pub spns_total : IsTotalOrder spns_order
spns_total = column_total 0

pub approvals_total : IsTotalOrder approvals_order
approvals_total = column_total 1

pub releases_total : IsTotalOrder releases_order
releases_total = column_total 1

pub parts_total : IsTotalOrder parts_order
parts_total = column_total 2
