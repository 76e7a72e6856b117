-- The objects of commands have no numbers with a fraction, and are shallow.
use Rattle.desk_send.proofs.Common.{ap, ◌∙◌, ◌≡◌, ◌≤◌, ℕ, Bool, true, false, List, [], ◌∷◌, Option, Some, refl, arith}
use Rattle.desk_send.proofs.Common.{codes, ⊤, is_utf8, Data, Items, Members, array, boolean, depth, item, member}
use Rattle.desk_send.proofs.Common.{no_items, no_members, number, object, put, string, unsigned, max_depth, has_float}
use Rattle.desk_send.proofs.Common.{ValueText, Action, row_of, action_word, kind_of, Value, where_true, FieldKind}
use Rattle.desk_send.proofs.Common.{json_name}
use Rattle.serde_json.specs.Data.{items_depth, members_depth}
use Rattle.serde_json.specs.Written.{items_have_float, members_have_float}
use Rattle.decimal.specs.Printing as printed
use Rattle.office_fields.specs.declared.field.FieldKind.TheVariants as kind
use Rattle.desk_send.specs.Fields.{Entry, entries_of}
use Rattle.desk_send.specs.Json.{data_of, items_by, pair_data, part_data, text_data, whole_data, with_entries}
use Rattle.desk_send.specs.Json.{with_entry, with_list}
use Rattle.desk_send.specs.Texts.{text_of}
use Rattle.desk_send.proofs.Added.{AreMembers, as_keeps, list_added, map_found, put_keeps, then_found}

-- without a fraction, and of this depth at most
pub record IsFlat (most : ℕ) (d : Data) : Type 0 where
  pub whole : has_float d ≡ false
  pub shallow : depth d ≤ most

pub record AreFlat (most : ℕ) (ds : Items) : Type 0 where
  pub whole : items_have_float ds ≡ false
  pub shallow : items_depth ds ≤ most

-- ---- values

tested : (test : Bool) (s : List ℕ) (d : Data) → where_true test (Some (string s)) ≡ Some d → d ≡ string s
tested true s d e = cc
tested false s d e = cc

pub text_is : (s : List ℕ) (d : Data) → text_data s ≡ Some d → d ≡ string s
text_is s d e = tested (is_utf8 s) s d e

text_flat : (s : List ℕ) (d : Data) → text_data s ≡ Some d → IsFlat 1 d
text_flat s d e = rw (text_is s d e) (record { whole = refl; shallow = omega arith })

pub pair_is : (v : ValueText) (d : Data) → pair_data v ≡ Some d
    → d ≡ array (item (string (printed.text_of v.value)) (item (string v.text) no_items))
pair_is v d e =
    let first = then_found (text_data (printed.text_of v.value)) _ d e in
    let second = then_found (text_data v.text) _ d first.holds in
    let is_first = text_is (printed.text_of v.value) first.value first.is in
    let is_second = text_is v.text second.value second.is in
    let same : d ≡ array (item first.value (item second.value no_items)) = cc in
    same ∙ ap (λ x. array (item x (item second.value no_items))) is_first
    ∙ ap (λ y. array (item (string (printed.text_of v.value)) (item y no_items))) is_second

pair_flat : (v : ValueText) (d : Data) → pair_data v ≡ Some d → IsFlat 1 d
pair_flat v d e = rw (pair_is v d e) (record { whole = refl; shallow = omega arith })

whole_flat : (n : ℕ) (d : Data) → whole_data n ≡ Some d → IsFlat 1 d
whole_flat n d e =
    let is : d ≡ number (unsigned n) = cc in
    rw is (record { whole = refl; shallow = omega arith })

truth_flat : (b : Bool) (d : Data) → Some (boolean b) ≡ Some d → IsFlat 1 d
truth_flat b d e = let is : d ≡ boolean b = cc in rw is (record { whole = refl; shallow = omega arith })

value_flat : (k : FieldKind) (v : Value k) (d : Data) → data_of k v ≡ Some d → IsFlat 1 d
value_flat kind.Number v d e = whole_flat v d e
value_flat kind.Reviews v d e = whole_flat v d e
value_flat kind.Length v d e = whole_flat v d e
value_flat kind.Priority v d e = whole_flat v d e
value_flat kind.Address v d e = whole_flat v d e
value_flat kind.Size v d e = whole_flat v d e
value_flat kind.Start v d e = whole_flat v d e
value_flat kind.Truth v d e = truth_flat v d e
value_flat kind.ValueText v d e = pair_flat v d e
value_flat k v d e = text_flat (text_of k v) d e

-- ---- lists

module _ {A : Type 0} (data_by : A → Option Data) (most : ℕ) where
  pub items_flat : ((x : A) (d : Data) → data_by x ≡ Some d → IsFlat most d) → (xs : List A) (ds : Items)
      → items_by data_by xs ≡ Some ds → AreFlat most ds
  items_flat one [] ds e =
      let is : ds ≡ no_items = cc in
      rw is (record { whole = refl; shallow = omega arith })
  items_flat one (x ∷ xs) ds e =
      let first = then_found (data_by x) _ ds e in
      let rest = map_found (items_by data_by xs) (λ more. item first.value more) ds first.holds in
      let flat = one x first.value first.is in
      let flats = items_flat one xs rest.value rest.is in
      let is : ds ≡ item first.value rest.value = cc in
      rw is (record {
        whole = rw (flat.whole, flats.whole) refl;
        shallow = omega (arith, flat.shallow, flats.shallow);
      })

list_flat : (k : FieldKind) (xs : List (Value k)) (ds : Items) → items_by (data_of k) xs ≡ Some ds
    → IsFlat 2 (array ds)
list_flat k xs ds e =
    let flat = items_flat (data_of k) 1 (value_flat k) xs ds e in
    record { whole = flat.whole; shallow = omega (arith, flat.shallow) }

deeper : (d : Data) → IsFlat 1 d → IsFlat 2 d
deeper d flat = record { whole = flat.whole; shallow = omega (arith, flat.shallow) }

-- ---- members

abbrev AnyName : List ℕ → Type 0
AnyName name = ⊤

abbrev pub Flat : ℕ → Members → Type 0
Flat most ms = AreMembers AnyName (IsFlat most) ms

entry_flat : (e : Entry) (ms new : Members) → with_entry e ms ≡ Some new → Flat 2 ms → Flat 2 new
entry_flat e ms new h flat =
    let k = (row_of e.of).kind in
    as_keeps AnyName (IsFlat 2) (row_of e.of).occurrence (json_name e.of) (data_of k) e.value ms new tt
    (λ x d is. deeper d (value_flat k x d is)) (list_flat k) h flat

pub entries_flat : (es : List Entry) (ms new : Members) → with_entries es ms ≡ Some new → Flat 2 ms → Flat 2 new
entries_flat [] ms new h flat = let same : new ≡ ms = cc in rw same flat
entries_flat (e ∷ es) ms new h flat =
    let first = then_found (with_entry e ms) (with_entries es) new h in
    entries_flat es first.value new first.holds (entry_flat e ms first.value first.is flat)

members_whole : (most : ℕ) (ms : Members) → Flat most ms → members_have_float ms ≡ false
members_whole most no_members flat = refl
members_whole most (member k d ms) flat = rw (flat.1.whole, members_whole most ms flat.2) refl

members_shallow : (most : ℕ) (ms : Members) → Flat most ms → members_depth ms ≤ most
members_shallow most no_members flat = omega arith
members_shallow most (member k d ms) flat = omega (arith, flat.1.shallow, members_shallow most ms flat.2)

pub object_whole : (most : ℕ) (ms : Members) → Flat most ms → has_float (object ms) ≡ false
object_whole most ms flat = members_whole most ms flat

pub object_shallow : (most : ℕ) (ms : Members) → Flat most ms → most ≤ 100 → depth (object ms) ≤ max_depth
object_shallow most ms flat few = omega (arith, members_shallow most ms flat, few)

-- ---- bundles

part_flat : (a : Action) (d : Data) → part_data a ≡ Some d → IsFlat 3 d
part_flat a d e =
    let front = put (codes "command") (string (action_word (kind_of a))) no_members in
    let found = map_found (with_entries (entries_of a) front) object d e in
    let flat = entries_flat (entries_of a) front found.value found.is
    (put_keeps AnyName (IsFlat 2) (codes "command") (string (action_word (kind_of a))) no_members tt
    (record { whole = refl; shallow = omega arith }) tt) in
    let is : d ≡ object found.value = cc in
    rw is (record {
      whole = members_whole 2 found.value flat;
      shallow = omega (arith, members_shallow 2 found.value flat);
    })

pub bundle_flat : (parts : List Action) (new : Members)
    → with_list (codes "commands") (items_by part_data parts) no_members ≡ Some new → Flat 4 new
bundle_flat parts new e =
    let added = list_added (codes "commands") (items_by part_data parts) no_members new e in
    let flat = items_flat part_data 3 part_flat parts added.value added.is in
    let is : IsFlat 4 (array added.value) =
    record { whole = flat.whole; shallow = omega (arith, flat.shallow) } in
    rw added.holds
    (put_keeps AnyName (IsFlat 4) (codes "commands") (array added.value) no_members tt is tt)
