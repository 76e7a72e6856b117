-- The differences of two sheets come in order.
use Rattle.page_changes.proofs.Common.{◌≡◌, ◌+◌, ◌<◌, ◌≤◌, ◌++◌, ◌∙◌, Bool, true, false, ℕ, List, [], ◌∷◌, take, drop}
use Rattle.page_changes.proofs.Common.{Option, Some, None, suc, refl, sym, ap, subst, arith, flat_map, Less, cond}
use Rattle.page_changes.proofs.Common.{cond-false, cond-true, number_of, Message, Sheet, Difference, Region}
use Rattle.std.proofs.Common.{◌*◌, nat_lt}
use Rattle.std.specs.List.Sorted.{IsStrictlySortedBy}
use Rattle.std.proofs.lemmas.Bool.{ltb-false, ltb-true}
use Rattle.std.proofs.lemmas.Cmp.{ranked}
use Rattle.dbc_sheet.specs.Messages.{AreMessages, by_number}
use Rattle.dbc_sheet.specs.Sheet.{node_name, table_name}
use Rattle.dbc_sheet.specs.Signals.{signal_name}
use Rattle.dbc_sheet.specs.Pairs.{partner}
use Rattle.dbc_compare.specs.Differences.{are_reordered, below, between, by_numbers, change_if, changes_between}
use Rattle.dbc_compare.specs.Differences.{differences, differences_about, field_changes, gone_message}
use Rattle.dbc_compare.specs.Differences.{gone_thing, message_differences, node_changes, pair_differences}
use Rattle.dbc_compare.specs.Differences.{sheet_differences, shown_message, shown_thing, signal_changes, table_changes}
use Rattle.dbc_compare.specs.Differences.{thing_differences}
use Rattle.dbc_compare.specs.Fields.{Valued, message_breaks, message_fields, none_breaks, sheet_fields}
use Rattle.dbc_compare.specs.Value.{Value, same_value}
use Rattle.dbc_compare.specs.declared.difference.Alteration.{Alteration}
use Rattle.dbc_compare.specs.declared.difference.Alteration.TheVariants as change
use Rattle.dbc_compare.specs.declared.field.SheetField.{SheetField}
use Rattle.dbc_compare.specs.declared.place.Region.TheVariants as place
use Rattle.page_changes.specs.Changes.{AreRising, Rise, is_gone_by, order_at, order_of}

-- ---- lists that rise, from one number up to another

abbrev Climb : ℕ → ℕ → List Difference → Type 0
Climb low high [] = low ≤ high
Climb low high (d ∷ ds) = (low ≤ order_of d) × Climb (order_of d) high ds

lower : (low least high : ℕ) (ds : List Difference) → low ≤ least → Climb least high ds → Climb low high ds
lower low least high [] le h = omega (arith, le, h)
lower low least high (d ∷ ds) le h = (omega (arith, le, h.0), h.1)

joined : (low middle high : ℕ) (xs ys : List Difference) → Climb low middle xs → Climb middle high ys
    → Climb low high (xs ++ ys)
joined low middle high [] ys h k = lower low middle high ys h k
joined low middle high (x ∷ xs) ys h k = (h.0, joined (order_of x) middle high xs ys h.1 k)

sooner : (low least : ℕ) (ds : List Difference) → low ≤ least → Rise least ds → Rise low ds
sooner low least [] le h = tt
sooner low least (d ∷ ds) le h = (omega (arith, le, h.0), h.1)

before : (low high : ℕ) (xs ys : List Difference) → Climb low high xs → Rise high ys → Rise low (xs ++ ys)
before low high [] ys h k = sooner low high ys h k
before low high (x ∷ xs) ys h k = (h.0, before (order_of x) high xs ys h.1 k)

each : {A : Type 0} (n : ℕ) (f : A → List Difference) → ((x : A) → Climb n n (f x)) → (xs : List A)
    → Climb n n (flat_map f xs)
each n f h [] = omega arith
each n f h (x ∷ xs) = joined n n n (f x) (flat_map f xs) (h x) (each n f h xs)

-- ---- in one place

-- none of the changes is that the thing was removed
abbrev NoneGone : List Alteration → Type 0
NoneGone [] = Unit {0}
NoneGone (c ∷ changes) = (is_gone_by None c ≡ false) × NoneGone changes

both : (xs ys : List Alteration) → NoneGone xs → NoneGone ys → NoneGone (xs ++ ys)
both [] ys h k = k
both (x ∷ xs) ys h k = (h.0, both xs ys h.1 k)

one_or_none : (b : Bool) (c : Alteration) → is_gone_by None c ≡ false → NoneGone (cond b [] (c ∷ []))
one_or_none true c e = tt
one_or_none false c e = (e, tt)

-- a field that differs is no such change
of_field : (f : SheetField) (breaks : Bool) (old new : Value) → NoneGone (field_changes f breaks old new)
unfolding field_changes
of_field f breaks old new = one_or_none (same_value old new) _ refl

of_fields : (breaks : SheetField → Bool) (old new : List Valued) → NoneGone (changes_between breaks old new)
of_fields breaks [] new = tt
of_fields breaks (o ∷ old) [] = tt
of_fields breaks (o ∷ old) (n ∷ new) = both _ _ (of_field o.0 (breaks o.0) o.1 n.1) (of_fields breaks old new)

-- of what is there
about : (here : Region) (changes : List Alteration) → NoneGone changes
    → Climb (order_at false here) (order_at false here) (differences_about here None changes)
unfolding differences_about
about here [] h = omega arith
about here (c ∷ changes) h =
    let n = order_at false here in
    let is : order_at (is_gone_by None c) here ≡ n = ap (λ gone. order_at gone here) h.0 in
    let rest = about here changes h.1 in
    (omega (arith, is), subst (λ k. Climb k n (differences_about here None changes)) (sym is) rest)

-- of what has a name
about_named : (here : Region) (name : List ℕ) (changes : List Alteration)
    → Climb (order_at false here) (order_at false here) (differences_about here (Some name) changes)
unfolding differences_about
about_named here name [] = omega arith
about_named here name (c ∷ changes) = (omega arith, about_named here name changes)

reordered : (here : Region) (b : Bool)
    → Climb (order_at false here) (order_at false here) (differences_about here None (change_if b change.Reordered))
reordered here true = about here (change.Reordered ∷ []) (refl, tt)
reordered here false = about here [] tt

things : {A : Type 0} (here : Region) (name : A → List ℕ) (changes : A → A → List Alteration) (old new : List A)
    → Climb (order_at false here) (order_at false here) (thing_differences here name changes old new)
unfolding thing_differences
things here name changes old new =
    let n = order_at false here in
    joined n n n _ _ (each n (shown_thing here name changes old) (λ x. about_named here (name x) _) new)
    (joined n n n _ _ (each n (gone_thing here name new) (λ x. about_named here (name x) _) old)
    (reordered here (are_reordered name old new)))

-- ---- of messages

-- where those of a message come that is there, and of one that is gone
abbrev order_of_shown : Message → ℕ
order_of_shown m = 2 * number_of m + 1

abbrev order_of_gone : Message → ℕ
order_of_gone m = 2 * number_of m + 2

shown : (found : Option Message) (m : Message) → Climb (order_of_shown m) (order_of_shown m) (shown_message found m)
unfolding pair_differences
shown None m = about (between m m) (change.Added ∷ []) (refl, tt)
shown (Some old) m =
    let here = between old m in
    let n = order_of_shown m in
    joined n n n _ _ (about here _ (of_fields message_breaks (message_fields old) (message_fields m)))
    (things here signal_name signal_changes old.signals m.signals)

gone : (found : Option Message) (m : Message) → Climb (order_of_gone m) (order_of_gone m) (gone_message found m)
unfolding differences_about
gone None m = (omega arith, omega arith)
gone (Some new) m = omega arith

-- ---- messages by number

-- their numbers rise, from one at least
abbrev Ascend : ℕ → List Message → Type 0
Ascend least [] = Unit {0}
Ascend least (m ∷ messages) = (least ≤ number_of m) × Ascend (number_of m + 1) messages

ascend_from : (least : ℕ) (m : Message) (messages : List Message) → least ≤ number_of m
    → IsStrictlySortedBy by_number (m ∷ messages) → Ascend least (m ∷ messages)
unfolding IsStrictlySortedBy
ascend_from least m [] le h = (le, tt)
ascend_from least m (x ∷ messages) le h =
    let above : number_of m < number_of x = ranked (number_of m) (number_of x) Less (sym h.0.0) in
    (le, ascend_from (number_of m + 1) x messages (omega arith) h.1)

ascend : (messages : List Message) → IsStrictlySortedBy by_number messages → Ascend 0 messages
ascend [] h = tt
ascend (m ∷ messages) h = ascend_from 0 m messages (omega arith) h

module _ (gives takes : Message → List Difference)
    (of_given : (m : Message) → Climb (order_of_gone m) (order_of_gone m) (gives m))
    (of_taken : (m : Message) → Climb (order_of_shown m) (order_of_shown m) (takes m)) where
  all_given : (low least : ℕ) (old : List Message) → low ≤ 2 * least + 2 → Ascend least old
      → Rise low (flat_map gives old)
  all_given low least [] le h = tt
  all_given low least (m ∷ old) le h =
      let n = order_of_gone m in
      before low n (gives m) (flat_map gives old)
      (lower low n n (gives m) (omega (arith, h.0)) (of_given m))
      (all_given n (number_of m + 1) old (omega arith) h.1)

  -- the first ones, whose numbers are below that, and the others
  record Split (low n : ℕ) (old : List Message) (k : ℕ) : Type 0 where
    front : Climb low (2 * n + 1) (flat_map gives (take k old))
    rest : Ascend n (drop k old)

  at_head : (low least n : ℕ) (m : Message) (old : List Message) (b : Bool) → nat_lt (number_of m) n ≡ b
      → low ≤ 2 * least + 2 → low ≤ 2 * n + 1 → Ascend least (m ∷ old)
      → (number_of m < n → Split (order_of_gone m) n old (below n old)) → Split low n (m ∷ old) (below n (m ∷ old))
  at_head low least n m old true t le above h later =
      let less : number_of m < n = ltb-true (number_of m) n t in
      let inner : Split (order_of_gone m) n old (below n old) = later less in
      let k : ℕ = below n old in
      let next : 1 + k ≡ suc k = omega arith in
      let count : below n (m ∷ old) ≡ suc k = cond-true (nat_lt (number_of m) n) (1 + k) 0 t ∙ next in
      subst (Split low n (m ∷ old)) (sym count) record {
        front = joined low (order_of_gone m) (2 * n + 1) (gives m) (flat_map gives (take k old))
            (lower low (order_of_gone m) (order_of_gone m) (gives m) (omega (arith, h.0)) (of_given m)) inner.front;
        rest = inner.rest;
      }
  at_head low least n m old false f le above h later =
      let no_less : n ≤ number_of m = ltb-false (number_of m) n f in
      let count : below n (m ∷ old) ≡ 0 = cond-false (nat_lt (number_of m) n) (1 + below n old) 0 f in
      subst (Split low n (m ∷ old)) (sym count) record { front = above; rest = (no_less, h.1) }

  split : (old : List Message) (low least n : ℕ) → low ≤ 2 * least + 2 → low ≤ 2 * n + 1 → Ascend least old
      → Split low n old (below n old)
  split [] low least n le above h = record { front = above; rest = tt }
  split (m ∷ old) low least n le above h =
      at_head low least n m old (nat_lt (number_of m) n) refl le above h
      (λ less. split old (order_of_gone m) (number_of m + 1) n (omega arith) (omega (arith, less)) h.1)

  -- those of the old numbers, from one at least, and of the new numbers, from the next one at least
  rises : (new old : List Message) (low least next : ℕ) → low ≤ 2 * least + 2 → low ≤ 2 * next + 1
      → Ascend least old → Ascend next new → Rise low (by_numbers gives takes old new)
  rises [] old low least next le above h k = all_given low least old le h
  rises (m ∷ new) old low least next le above h k =
      let n = order_of_shown m in
      let parts : Split low (number_of m) old (below (number_of m) old) =
      split old low least (number_of m) le (omega (arith, k.0)) h in
      let left = drop (below (number_of m) old) old in
      before low n (flat_map gives (take (below (number_of m) old) old)) (takes m ++ by_numbers gives takes left new)
      parts.front
      (before n n (takes m) (by_numbers gives takes left new) (of_taken m)
      (rises new left n (number_of m) (number_of m + 1) (omega arith) (omega arith) parts.rest k.1))

-- ---- of two sheets

pub rising : (old new : Sheet) → AreMessages old.messages → AreMessages new.messages
    → AreRising (differences old new)
rising old new first second =
    let nodes = thing_differences place.Nodes node_name node_changes old.nodes new.nodes in
    let tables = thing_differences place.Tables table_name table_changes old.tables new.tables in
    let messages = message_differences old.messages new.messages in
    before 0 0 (sheet_differences old new) (nodes ++ (tables ++ messages))
    (about place.Sheet _ (of_fields none_breaks (sheet_fields old) (sheet_fields new)))
    (before 0 0 nodes (tables ++ messages) (things place.Nodes node_name node_changes old.nodes new.nodes)
    (before 0 0 tables messages (things place.Tables table_name table_changes old.tables new.tables)
    (rises (λ m. gone_message (partner new.messages old.messages m) m)
    (λ m. shown_message (partner old.messages new.messages m) m)
    (λ m. gone (partner new.messages old.messages m) m) (λ m. shown (partner old.messages new.messages m) m)
    new.messages old.messages 0 0 0 (omega arith) (omega arith) (ascend old.messages first.ascending)
    (ascend new.messages second.ascending))))
