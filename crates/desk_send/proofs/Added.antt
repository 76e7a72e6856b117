-- The members of an object that fields were added to, one after the other.
use Rattle.desk_send.proofs.Common.{◌≡◌, ◌∙◌, ◌&&◌, not, ℕ, Bool, true, false, List, [], ◌∷◌, Option, Some, None}
use Rattle.desk_send.proofs.Common.{Ordering, Less, Equal, Greater, refl, sym, ap, nat_cmp, list_all, slice_cmp}
use Rattle.desk_send.proofs.Common.{option_map, match_ordering, ⊤, bytes_eq, and_parts, false≢true, bytes_eq-Decides}
use Rattle.desk_send.proofs.Common.{Data, Items, Members, array, member, no_members, put, get_member, row_of, Readings}
use Rattle.desk_send.proofs.Common.{◌>>=◌, Occurrence, Required, Optional, Repeated, json_name}
use Rattle.serde_json.proofs.Views.{get_member-put_other}
use Rattle.desk_send.specs.Fields.{Entry}
use Rattle.desk_send.specs.Json.{data_of, items_by, with_as, with_entries, with_entry, with_list, with_value}
use Rattle.desk_send.proofs.Entries.{are_unlike, negated}

-- ---- what was added, if anything

pub record Found {A : Type 0} (o : Option A) (P : A → Type 0) : Type 0 where
  pub value : A
  pub is : o ≡ Some value
  pub holds : P value

pub value_added : (name : List ℕ) (found : Option Data) (ms new : Members) → with_value name found ms ≡ Some new
    → Found found (λ d. new ≡ put name d ms)
value_added name None ms new e = cc
value_added name (Some d) ms new e = record { value = d; is = refl; holds = cc }

pub list_added : (name : List ℕ) (found : Option Items) (ms new : Members) → with_list name found ms ≡ Some new
    → Found found (λ ds. new ≡ put name (array ds) ms)
list_added name None ms new e = cc
list_added name (Some ds) ms new e = record { value = ds; is = refl; holds = cc }

pub then_found : {A B : Type 0} (o : Option A) (f : A → Option B) (b : B) → (o >>= f) ≡ Some b
    → Found o (λ a. f a ≡ Some b)
then_found None f b e = cc
then_found (Some a) f b e = record { value = a; is = refl; holds = e }

pub map_found : {A B : Type 0} (o : Option A) (f : A → B) (b : B) → option_map f o ≡ Some b → Found o (λ a. f a ≡ b)
map_found None f b e = cc
map_found (Some a) f b e = record { value = a; is = refl; holds = cc }

-- ---- a member under another name

unlike : (a b : List ℕ) → bytes_eq a b ≡ false → a ≡ b → ⊥
unlike a b other same = false≢true (sym other ∙ (bytes_eq-Decides a b).1 same)

pub put_other : (q name : List ℕ) (d : Data) (ms : Members) → bytes_eq q name ≡ false
    → get_member q (put name d ms) ≡ get_member q ms
put_other q name d ms other = get_member-put_other q name d ms (unlike q name other)

as_other : {A : Type 0} (o : Occurrence) (q name : List ℕ) (data_by : A → Option Data) (v : Readings o A)
    (ms new : Members) → bytes_eq q name ≡ false → with_as o name data_by v ms ≡ Some new
    → get_member q new ≡ get_member q ms
as_other Required q name data_by v ms new other e =
    let added = value_added name (data_by v) ms new e in
    ap (get_member q) added.holds ∙ put_other q name added.value ms other
as_other Optional q name data_by None ms new other e = let same : new ≡ ms = cc in ap (get_member q) same
as_other Optional q name data_by (Some v) ms new other e =
    let added = value_added name (data_by v) ms new e in
    ap (get_member q) added.holds ∙ put_other q name added.value ms other
as_other Repeated q name data_by vs ms new other e =
    let added = list_added name (items_by data_by vs) ms new e in
    ap (get_member q) added.holds ∙ put_other q name (array added.value) ms other

pub entry_other : (e : Entry) (q : List ℕ) (ms new : Members) → bytes_eq q (json_name e.of) ≡ false
    → with_entry e ms ≡ Some new → get_member q new ≡ get_member q ms
entry_other e q ms new other h =
    as_other (row_of e.of).occurrence q (json_name e.of) (data_of (row_of e.of).kind) e.value ms new other h

-- ---- names of members apart, tested both ways round

abbrev pub is_json_apart : List ℕ → List Entry → Bool
is_json_apart name es = list_all (λ e. are_unlike (json_name e.of) name) es

abbrev pub are_json_apart : List Entry → Bool
are_json_apart [] = true
are_json_apart (e ∷ es) = is_json_apart (json_name e.of) es && are_json_apart es

pub entries_other : (es : List Entry) (q : List ℕ) (ms new : Members) → is_json_apart q es ≡ true
    → with_entries es ms ≡ Some new → get_member q new ≡ get_member q ms
entries_other [] q ms new h e = let same : new ≡ ms = cc in ap (get_member q) same
entries_other (x ∷ es) q ms new h e =
    let parts = and_parts (are_unlike (json_name x.of) q) (is_json_apart q es) h in
    let apart = and_parts (not (bytes_eq (json_name x.of) q)) (not (bytes_eq q (json_name x.of))) parts.0 in
    let first = then_found (with_entry x ms) (with_entries es) new e in
    entries_other es q first.value new parts.1 first.holds
    ∙ entry_other x q ms first.value (negated _ apart.1) first.is

-- no member has the name of one of the fields
abbrev pub LackEntries : List Entry → Members → Type 0
LackEntries [] ms = ⊤
LackEntries (e ∷ es) ms = (get_member (json_name e.of) ms ≡ None) × LackEntries es ms

pub still_lack : (e : Entry) (es : List Entry) (ms new : Members) → is_json_apart (json_name e.of) es ≡ true
    → with_entry e ms ≡ Some new → LackEntries es ms → LackEntries es new
still_lack e [] ms new h added lack = tt
still_lack e (x ∷ es) ms new h added lack =
    let parts = and_parts (are_unlike (json_name x.of) (json_name e.of)) (is_json_apart (json_name e.of) es) h in
    let apart = and_parts (not (bytes_eq (json_name x.of) (json_name e.of)))
    (not (bytes_eq (json_name e.of) (json_name x.of))) parts.0 in (
      entry_other e (json_name x.of) ms new (negated _ apart.0) added ∙ lack.0,
      still_lack e es ms new parts.1 added lack.1,
    )

pub none_lack : (es : List Entry) → LackEntries es no_members
none_lack [] = tt
none_lack (e ∷ es) = (refl, none_lack es)

-- ---- what holds of each member

abbrev pub AreMembers : (List ℕ → Type 0) → (Data → Type 0) → Members → Type 0
AreMembers P Q no_members = ⊤
AreMembers P Q (member k d ms) = P k × Q d × AreMembers P Q ms

module _ (P : List ℕ → Type 0) (Q : Data → Type 0) where
  by_order : (o : Ordering) (a b c : Members) → AreMembers P Q a → AreMembers P Q b → AreMembers P Q c
      → AreMembers P Q (match_ordering o a b c)
  by_order Less a b c h j k = h
  by_order Equal a b c h j k = j
  by_order Greater a b c h j k = k

  pub put_keeps : (name : List ℕ) (d : Data) (ms : Members) → P name → Q d → AreMembers P Q ms
      → AreMembers P Q (put name d ms)
  put_keeps name d no_members p q h = (p, q, tt)
  put_keeps name d (member k e ms) p q h =
      by_order (slice_cmp nat_cmp name k) (member name d (member k e ms)) (member k d ms)
      (member k e (put name d ms)) (p, q, h) (h.0, q, h.2) (h.0, h.1, put_keeps name d ms p q h.2)

  pub as_keeps : {A : Type 0} (o : Occurrence) (name : List ℕ) (data_by : A → Option Data) (v : Readings o A)
      (ms new : Members) → P name → ((x : A) (d : Data) → data_by x ≡ Some d → Q d)
      → ((xs : List A) (ds : Items) → items_by data_by xs ≡ Some ds → Q (array ds))
      → with_as o name data_by v ms ≡ Some new → AreMembers P Q ms → AreMembers P Q new
  as_keeps Required name data_by v ms new p one many e h =
      let added = value_added name (data_by v) ms new e in
      rw added.holds (put_keeps name added.value ms p (one v added.value added.is) h)
  as_keeps Optional name data_by None ms new p one many e h = let same : new ≡ ms = cc in rw same h
  as_keeps Optional name data_by (Some v) ms new p one many e h =
      let added = value_added name (data_by v) ms new e in
      rw added.holds (put_keeps name added.value ms p (one v added.value added.is) h)
  as_keeps Repeated name data_by vs ms new p one many e h =
      let added = list_added name (items_by data_by vs) ms new e in
      rw added.holds (put_keeps name (array added.value) ms p (many vs added.value added.is) h)
