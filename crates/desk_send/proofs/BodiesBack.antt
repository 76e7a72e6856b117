-- The command of a body is the one that it is written for.
use Rattle.desk_send.proofs.Common.{◌≡◌, ◌∙◌, ◌==◌, ◌&&◌, not, ℕ, Bool, true, false, List, [], ◌∷◌, map, Option, Some}
use Rattle.desk_send.proofs.Common.{None, Ordering, Less, Equal, Greater, codes, refl, sym, ap, subst, nat_cmp, length}
use Rattle.desk_send.proofs.Common.{nat_le, arith, nat_tests, All, list_all, slice_cmp, match_ordering, bytes_eq}
use Rattle.desk_send.proofs.Common.{and_parts, All-head, All-tail, Data, Items, Members, array, boolean, item, member}
use Rattle.desk_send.proofs.Common.{no_items, no_members, number, object, put, string, unsigned, get_member}
use Rattle.desk_send.proofs.Common.{IsValueText, ValueText, IsAction, AreParts, part_limit, IsPlainName, Action, row_of}
use Rattle.desk_send.proofs.Common.{NamedValue, Readings, action_fields, action_word, fields_of, kind_of, Value, Field}
use Rattle.desk_send.proofs.Common.{FieldKind, Occurrence, Required, Optional, Repeated, json_in, json_name, named}
use Rattle.desk_send.proofs.Common.{Lacks}
use Rattle.std.specs.List.{list_any}
use Rattle.serde_json.proofs.Views.{get_member-put}
use Rattle.decimal.specs.Printing as printed
use Rattle.office_types.specs.declared.command.Action.TheVariants as act
use Rattle.office_types.specs.declared.command.Task.TheVariants as task
use Rattle.office_fields.specs.Kind.{action_of_word}
use Rattle.office_fields.specs.Requested.{are_parts}
use Rattle.office_fields.specs.declared.field.Field.TheVariants as field
use Rattle.office_fields.specs.declared.field.FieldKind.TheVariants as kind
use Rattle.office_fields.specs.declared.kind.CommandKind.TheVariants.{Act}
use Rattle.desk_call.specs.Body.{bytes_of, command_in, each_given, given_as, given_by, given_in, has_just, is_name_of}
use Rattle.desk_call.specs.Bundle.{bundle_in, has_just_part, is_part_name, part_in, parts_of_items}
use Rattle.desk_send.specs.Fields.{Entry, all_named, entries_of, filled, named_of, texts_as}
use Rattle.desk_send.specs.Json.{data_of, items_by, part_data, whole_data, with_as, with_entries, with_entry, with_list}
use Rattle.desk_send.specs.Texts.{IsValue, text_of}
use Rattle.desk_send.proofs.ActionsBack.{are_entries, command_back, part_back}
use Rattle.desk_send.proofs.Entries.{AreEntries, AreValues, IsEntry, are_unlike, negated}
use Rattle.desk_send.proofs.Flat.{pair_is, text_is}
use Rattle.desk_send.proofs.Added.{LackEntries, are_json_apart, entries_other, is_json_apart, list_added, map_found}
use Rattle.desk_send.proofs.Added.{none_lack, put_other, still_lack, then_found, value_added}
use Rattle.desk_send.proofs.ValuesBack.{decimal_lacks}

-- ---- values

whole_given : (k : FieldKind) (n : ℕ) (d : Data) → ((x : Data) → bytes_of k x ≡ bytes_of kind.Number x)
    → whole_data n ≡ Some d → bytes_of k d ≡ bytes_of kind.Number (number (unsigned n))
whole_given k n d same e = let is : d ≡ number (unsigned n) = cc in same d ∙ ap (bytes_of kind.Number) is

any_colon : (bytes : List ℕ) → Lacks 58 bytes → list_any (λ b. b == 58) bytes ≡ false
any_colon [] h = refl
any_colon (b ∷ bytes) h =
    let parts = and_parts (not (b == 58)) (list_all (λ x. not (x == 58)) bytes) h in
    rw (negated (b == 58) parts.0) (any_colon bytes parts.1)

pair_given : (v : ValueText) (d : Data) → IsValueText v → data_of kind.ValueText v ≡ Some d
    → bytes_of kind.ValueText d ≡ Some (text_of kind.ValueText v)
pair_given v d is e =
    rw (pair_is v d e, any_colon (printed.text_of v.value) (decimal_lacks v is)) refl

truth_given : (b : Bool) (d : Data) → data_of kind.Truth b ≡ Some d
    → bytes_of kind.Truth d ≡ Some (text_of kind.Truth b)
truth_given b d e = let is : d ≡ boolean b = cc in rw is refl

-- the bytes of a value's JSON are the value's
value_given : (k : FieldKind) (v : Value k) (d : Data) → IsValue k v → data_of k v ≡ Some d
    → bytes_of k d ≡ Some (text_of k v)
value_given kind.Number n d is e = whole_given kind.Number n d (λ x. refl) e
value_given kind.Reviews n d is e = whole_given kind.Reviews n d (λ x. refl) e
value_given kind.Length n d is e = whole_given kind.Length n d (λ x. refl) e
value_given kind.Priority n d is e = whole_given kind.Priority n d (λ x. refl) e
value_given kind.Address n d is e = whole_given kind.Address n d (λ x. refl) e
value_given kind.Size n d is e = whole_given kind.Size n d (λ x. refl) e
value_given kind.Start n d is e = whole_given kind.Start n d (λ x. refl) e
value_given kind.Truth b d is e = truth_given b d e
value_given kind.ValueText v d is e = pair_given v d is e
value_given k v d is e = rw (text_is (text_of k v) d e) refl

-- ---- fields

items_given : (f : Field) (vs : List (Value (row_of f).kind)) (ds : Items) → All (IsValue (row_of f).kind) vs
    → items_by (data_of (row_of f).kind) vs ≡ Some ds
    → each_given f ds ≡ Some (map (named f) (map (text_of (row_of f).kind) vs))
items_given f [] ds is e = let none : ds ≡ no_items = cc in rw none refl
items_given f (v ∷ vs) ds is e =
    let k = (row_of f).kind in
    let first = then_found (data_of k v) _ ds e in
    let rest = map_found (items_by (data_of k) vs) (λ more. item first.value more) ds first.holds in
    let both : ds ≡ item first.value rest.value = cc in
    rw (
      both,
      value_given k v first.value (All-head (IsValue k) v vs is) first.is,
      items_given f vs rest.value (All-tail (IsValue k) v vs is) rest.is,
    )
    refl

-- what is given for a field, in members to which it was added
as_given : (f : Field) (o : Occurrence) (v : Readings o (Value (row_of f).kind)) (ms new : Members)
    → AreValues o (IsValue (row_of f).kind) v → with_as o (json_name f) (data_of (row_of f).kind) v ms ≡ Some new
    → get_member (json_name f) ms ≡ None
    → given_as o f (get_member (json_name f) new)
    ≡ Some (map (named f) (texts_as o (text_of (row_of f).kind) v))
as_given f Required v ms new is e lack =
    let k = (row_of f).kind in
    let added = value_added (json_name f) (data_of k v) ms new e in
    rw (
      added.holds,
      get_member-put (json_name f) added.value ms,
      value_given k v added.value is added.is,
    )
    refl
as_given f Optional None ms new is e lack = let same : new ≡ ms = cc in rw (same, lack) refl
as_given f Optional (Some v) ms new is e lack =
    let k = (row_of f).kind in
    let added = value_added (json_name f) (data_of k v) ms new e in
    rw (
      added.holds,
      get_member-put (json_name f) added.value ms,
      value_given k v added.value is added.is,
    )
    refl
as_given f Repeated vs ms new is e lack =
    let k = (row_of f).kind in
    let added = list_added (json_name f) (items_by (data_of k) vs) ms new e in
    rw (
      added.holds,
      get_member-put (json_name f) (array added.value) ms,
      items_given f vs added.value is added.is,
    )
    refl

entry_given : (e : Entry) (ms new : Members) → IsEntry e → with_entry e ms ≡ Some new
    → get_member (json_name e.of) ms ≡ None → given_by e.of (get_member (json_name e.of) new) ≡ Some (named_of e)
entry_given e ms new is added lack = as_given e.of (row_of e.of).occurrence e.value ms new is added lack

abbrev fields_in : List Entry → List Field
fields_in es = map (λ e. e.of) es

entries_given : (es : List Entry) (ms new : Members) → AreEntries es → are_json_apart es ≡ true
    → LackEntries es ms → with_entries es ms ≡ Some new
    → given_in (fields_in es) (object new) ≡ Some (all_named es)
entries_given [] ms new are apart lack h = refl
entries_given (e ∷ es) ms new are apart lack h =
    let parts = and_parts (is_json_apart (json_name e.of) es) (are_json_apart es) apart in
    let first = then_found (with_entry e ms) (with_entries es) new h in
    let here : get_member (json_name e.of) new ≡ get_member (json_name e.of) first.value =
    entries_other es (json_name e.of) first.value new parts.0 first.holds in
    let later = still_lack e es ms first.value parts.0 first.is lack.1 in
    rw (
      here,
      entry_given e ms first.value are.0 first.is lack.0,
      entries_given es first.value new are.1 parts.1 later first.holds,
    )
    refl

-- ---- names of members

abbrev keys_pass : (List ℕ → Bool) → Members → Bool
keys_pass test no_members = true
keys_pass test (member k d ms) = test k && keys_pass test ms

keys_by_order : (test : List ℕ → Bool) (o : Ordering) (a b c : Members) → keys_pass test a ≡ true
    → keys_pass test b ≡ true → keys_pass test c ≡ true → keys_pass test (match_ordering o a b c) ≡ true
keys_by_order test Less a b c h j k = h
keys_by_order test Equal a b c h j k = j
keys_by_order test Greater a b c h j k = k

put_passes : (test : List ℕ → Bool) (name : List ℕ) (d : Data) (ms : Members) → test name ≡ true
    → keys_pass test ms ≡ true → keys_pass test (put name d ms) ≡ true
put_passes test name d no_members h pass = rw h refl
put_passes test name d (member k e ms) h pass =
    let parts = and_parts (test k) (keys_pass test ms) pass in
    keys_by_order test (slice_cmp nat_cmp name k) (member name d (member k e ms)) (member k d ms)
    (member k e (put name d ms)) (rw h pass) (rw parts.0 parts.1)
    (rw parts.0 (put_passes test name d ms h parts.1))

as_passes : {A : Type 0} (test : List ℕ → Bool) (o : Occurrence) (name : List ℕ) (data_by : A → Option Data)
    (v : Readings o A) (ms new : Members) → test name ≡ true → with_as o name data_by v ms ≡ Some new
    → keys_pass test ms ≡ true → keys_pass test new ≡ true
as_passes test Required name data_by v ms new h e pass =
    let added = value_added name (data_by v) ms new e in
    rw added.holds (put_passes test name added.value ms h pass)
as_passes test Optional name data_by None ms new h e pass = let same : new ≡ ms = cc in rw same pass
as_passes test Optional name data_by (Some v) ms new h e pass =
    let added = value_added name (data_by v) ms new e in
    rw added.holds (put_passes test name added.value ms h pass)
as_passes test Repeated name data_by vs ms new h e pass =
    let added = list_added name (items_by data_by vs) ms new e in
    rw added.holds (put_passes test name (array added.value) ms h pass)

abbrev names_pass : (List ℕ → Bool) → List Entry → Bool
names_pass test es = list_all (λ e. test (json_name e.of)) es

entries_pass : (test : List ℕ → Bool) (es : List Entry) (ms new : Members) → names_pass test es ≡ true
    → with_entries es ms ≡ Some new → keys_pass test ms ≡ true → keys_pass test new ≡ true
entries_pass test [] ms new h e pass = let same : new ≡ ms = cc in rw same pass
entries_pass test (x ∷ es) ms new h e pass =
    let parts = and_parts (test (json_name x.of)) (names_pass test es) h in
    let first = then_found (with_entry x ms) (with_entries es) new e in
    let k = (row_of x.of).kind in
    entries_pass test es first.value new parts.1 first.holds
    (as_passes test (row_of x.of).occurrence (json_name x.of) (data_of k) x.value ms first.value parts.0 first.is pass)

just : (fields : List Field) (ms : Members) → keys_pass (is_name_of fields) ms ≡ true → has_just fields ms ≡ true
just fields no_members h = refl
just fields (member k d ms) h =
    let parts = and_parts (is_name_of fields k) (keys_pass (is_name_of fields) ms) h in
    rw parts.0 (just fields ms parts.1)

just_part : (fields : List Field) (ms : Members) → keys_pass (is_part_name fields) ms ≡ true
    → has_just_part fields ms ≡ true
just_part fields no_members h = refl
just_part fields (member k d ms) h =
    let parts = and_parts (is_part_name fields k) (keys_pass (is_part_name fields) ms) h in
    rw parts.0 (just_part fields ms parts.1)

-- ---- what the table says of each action

-- computed for each: the fields, their names apart, and each name that of a field
record IsTabled (a : Action) (net : List ℕ) : Type 0 where
  fields : fields_in (entries_of a) ≡ action_fields (kind_of a)
  apart : are_json_apart (filled field.Net net ∷ entries_of a) ≡ true
  known : names_pass (is_name_of (fields_of (Act (kind_of a)))) (filled field.Net net ∷ entries_of a) ≡ true
  part : names_pass (is_part_name (action_fields (kind_of a))) (entries_of a) ≡ true
  other : is_json_apart (codes "command") (entries_of a) ≡ true
  word : action_of_word (action_word (kind_of a)) ≡ Some (kind_of a)

is_tabled : (a : Action) (net : List ℕ) → IsTabled a net
is_tabled (act.OpenNet c) net =
    record { fields = refl; apart = refl; known = refl; part = refl; other = refl; word = refl }
is_tabled a net = record { fields = refl; apart = refl; known = refl; part = refl; other = refl; word = refl }

given_of : (fs gs : List Field) (d : Data) (values : List NamedValue) → fs ≡ gs → given_in fs d ≡ Some values
    → given_in gs d ≡ Some values
given_of fs gs d values same given = subst (λ (l : List Field). given_in l d ≡ Some values) same given

-- ---- an action

pub action_read : (net : List ℕ) (a : Action) (body : List ℕ) (new : Members) → IsPlainName net → IsAction a
    → with_entries (filled field.Net net ∷ entries_of a) no_members ≡ Some new → json_in body ≡ Some (object new)
    → command_in (kind_of a) body ≡ Some (record { net = net; task = task.Act a })
unfolding command_in
action_read net a body new named is h json =
    let es = filled field.Net net ∷ entries_of a in
    let tabled = is_tabled a net in
    let fields : fields_in es ≡ fields_of (Act (kind_of a)) = ap (λ l. field.Net ∷ l) tabled.fields in
    let given = given_of (fields_in es) (fields_of (Act (kind_of a))) (object new) (all_named es) fields
    (entries_given es no_members new (named, are_entries a is) tabled.apart (none_lack es) h) in
    let known = just (fields_of (Act (kind_of a))) new
    (entries_pass (is_name_of (fields_of (Act (kind_of a)))) es no_members new tabled.known h refl) in
    rw (json, known, given, command_back net a named is) refl

-- ---- a bundle

abbrev word_member : Action → Members
word_member a = put (codes "command") (string (action_word (kind_of a))) no_members

-- a name apart from the member's isn't there
not_there : (q name : List ℕ) (d : Data) → bytes_eq q name ≡ false → get_member q (put name d no_members) ≡ None
not_there q name d other = put_other q name d no_members other

word_lack : (es : List Entry) (d : Data) → is_json_apart (codes "command") es ≡ true
    → LackEntries es (put (codes "command") d no_members)
word_lack [] d h = tt
word_lack (e ∷ es) d h =
    let parts = and_parts (are_unlike (json_name e.of) (codes "command")) (is_json_apart (codes "command") es) h in
    let apart = and_parts (not (bytes_eq (json_name e.of) (codes "command")))
    (not (bytes_eq (codes "command") (json_name e.of))) parts.0 in
    (not_there (json_name e.of) (codes "command") d (negated _ apart.0), word_lack es d parts.1)

part_read : (a : Action) (d : Data) → IsAction a → part_data a ≡ Some d → part_in d ≡ Some a
unfolding part_in
part_read a d is e =
    let es = entries_of a in
    let tabled = is_tabled a [] in
    let found = map_found (with_entries es (word_member a)) object d e in
    let new = found.value in
    let seen : d ≡ object new = sym found.holds in
    let word : get_member (codes "command") new ≡ Some (string (action_word (kind_of a))) =
    entries_other es (codes "command") (word_member a) new tabled.other found.is in
    let apart = (and_parts (is_json_apart (codes "net") es) (are_json_apart es) tabled.apart).1 in
    let given = given_of (fields_in es) (action_fields (kind_of a)) (object new) (all_named es) tabled.fields
    (entries_given es (word_member a) new (are_entries a is) apart
    (word_lack es (string (action_word (kind_of a))) tabled.other) found.is) in
    let known = just_part (action_fields (kind_of a)) new
    (entries_pass (is_part_name (action_fields (kind_of a))) es (word_member a) new tabled.part found.is refl) in
    rw (
      seen,
      word,
      tabled.word,
      known,
      given,
      part_back a is,
    )
    refl

parts_read : (parts : List Action) (ds : Items) → All IsAction parts → items_by part_data parts ≡ Some ds
    → parts_of_items ds ≡ Some parts
parts_read [] ds is e = let none : ds ≡ no_items = cc in rw none refl
parts_read (a ∷ parts) ds is e =
    let first = then_found (part_data a) _ ds e in
    let rest = map_found (items_by part_data parts) (λ more. item first.value more) ds first.holds in
    let both : ds ≡ item first.value rest.value = cc in
    rw (
      both,
      part_read a first.value (All-head IsAction a parts is) first.is,
      parts_read parts rest.value (All-tail IsAction a parts is) rest.is,
    )
    refl

some_parts : (parts : List Action) → AreParts parts → are_parts parts ≡ Some parts
some_parts parts are =
    let tests : (not (length parts == 0) && nat_le (length parts) part_limit) ≡ true =
    grind (arith, nat_tests, are.some, are.few) in
    rw tests refl

pub bundle_read : (parts : List Action) (body : List ℕ) (new : Members) → AreParts parts → All IsAction parts
    → with_list (codes "commands") (items_by part_data parts) no_members ≡ Some new
    → json_in body ≡ Some (object new) → bundle_in body ≡ Some parts
unfolding bundle_in
bundle_read parts body new are is h json =
    let added = list_added (codes "commands") (items_by part_data parts) no_members new h in
    rw (
      json,
      added.holds,
      parts_read parts added.value is added.is,
      some_parts parts are,
    )
    refl
