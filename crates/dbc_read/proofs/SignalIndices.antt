-- Where a signal is: the index of its message, its own among that message's signals, and that among all signals.
use Rattle.dbc_read.proofs.Common.{◌≡◌, ◌==◌, ◌&&◌, ◌||◌, ◌<◌, ◌∙◌, ◌++◌, ℕ, zero, suc, Bool, true, false, List, []}
use Rattle.dbc_read.proofs.Common.{◌∷◌, length, map, Some, None, nat_eq, slice_index_or, slice_set, refl, sym, ap}
use Rattle.dbc_read.proofs.Common.{subst, true≢false, arith, slice_get, AllByRecursion, flat_map, list_any, bytes_eq}
use Rattle.dbc_read.proofs.Common.{Decides-eqb, length-map, list_any-append, dbc_number, SignalKey, keys_of}
use Rattle.dbc_read.proofs.Common.{same_signal, Signal, message_of, signal_of, signals_of, MessageLine}
use Rattle.std.specs.List.{IsDistinct}
use Rattle.std.proofs.lemmas.Option.{slice_get_within}
use Rattle.dbc_grammar.specs.Statement as dbc
use Rattle.dbc_read.specs.Attaching.{AreIndicesOf, HasSignal, all_signals, at_index, with_attachment, flat_index}
use Rattle.dbc_read.specs.Attaching.{index_after}
use Rattle.dbc_read.specs.Faults.{line_number}
use Rattle.dbc_read.specs.Numbers.{line_numbers}
use Rattle.dbc_read.specs.declared.attaching.Attachment.{Attachment}
use Rattle.dbc_read.specs.declared.attaching.Attachment.TheVariants as what
use Rattle.dbc_read.proofs.Gathering.{none_true, or_parts, some_true}
use Rattle.dbc_read.proofs.Positions.{front_stays}

-- One item of a list changed.
module _ {A : Type 0} (f : A → A) where
  pub set_is_change : (xs : List A) (i : ℕ) (d : A) → slice_set xs i (f (slice_index_or xs i d)) ≡ at_index f xs i
  set_is_change [] i d = refl
  set_is_change (x ∷ xs) zero d = refl
  set_is_change (x ∷ xs) (suc i) d = ap (λ l. x ∷ l) (set_is_change xs i d)

  changed_before : (xs ys : List A) (j : ℕ) → j < length xs → at_index f (xs ++ ys) j ≡ at_index f xs j ++ ys
  changed_before [] ys j h = absurd (omega arith)
  changed_before (x ∷ xs) ys zero h = refl
  changed_before (x ∷ xs) ys (suc j) h = ap (λ l. x ∷ l) (changed_before xs ys j (omega arith))

  changed_after : (xs ys : List A) (k : ℕ) → at_index f (xs ++ ys) (index_after xs k) ≡ xs ++ at_index f ys k
  changed_after [] ys k = refl
  changed_after (x ∷ xs) ys k = ap (λ l. x ∷ l) (changed_after xs ys k)

  module _ {V : Type 0} (get : A → V) where
    pub change_sets : (v : V) → ((x : A) → get (f x) ≡ v) → (xs : List A) (i : ℕ)
        → map get (at_index f xs i) ≡ slice_set (map get xs) i v
    change_sets v same [] i = refl
    change_sets v same (x ∷ xs) zero = ap (λ y. y ∷ map get xs) (same x)
    change_sets v same (x ∷ xs) (suc i) = ap (λ l. get x ∷ l) (change_sets v same xs i)

    pub change_leaves : ((x : A) → get (f x) ≡ get x) → (xs : List A) (i : ℕ) → map get (at_index f xs i) ≡ map get xs
    change_leaves same [] i = refl
    change_leaves same (x ∷ xs) zero = ap (λ y. y ∷ map get xs) (same x)
    change_leaves same (x ∷ xs) (suc i) = ap (λ l. get x ∷ l) (change_leaves same xs i)

-- A line at an index of the lines.
module _ (f : Signal → Signal) (now : MessageLine) (d : MessageLine) where
  pub lines_stay : (lines : List MessageLine) (i j : ℕ) → HasSignal lines i j
      → message_of now ≡ message_of (slice_index_or lines i d)
      → map message_of (slice_set lines i now) ≡ map message_of lines
  lines_stay [] i j h e = absurd h
  lines_stay (line ∷ lines) zero j h e = ap (λ m. m ∷ map message_of lines) e
  lines_stay (line ∷ lines) (suc i) j h e = ap (λ l. message_of line ∷ l) (lines_stay lines i j h e)

  pub signal_changed : (lines : List MessageLine) (i j : ℕ) → HasSignal lines i j
      → now.signals.items ≡ at_index f (slice_index_or lines i d).signals.items j
      → all_signals (slice_set lines i now) ≡ at_index f (all_signals lines) (flat_index lines i j)
  signal_changed [] i j h e = absurd h
  signal_changed (line ∷ lines) zero j h e = ap (λ l. l ++ all_signals lines) e
      ∙ sym (changed_before f line.signals.items (all_signals lines) j h)
  signal_changed (line ∷ lines) (suc i) j h e =
      ap (λ l. line.signals.items ++ l) (signal_changed lines i j h e)
      ∙ sym (changed_after f line.signals.items (all_signals lines) (flat_index lines i j))

-- what is attached is no part of what the message's own statement says of the signal
pub attached_leaves : (a : Attachment) (s : Signal) → signal_of (with_attachment a s) ≡ signal_of s
attached_leaves (what.Comment text) s = refl
attached_leaves w s = refl

pub message_within : (lines : List MessageLine) (i j : ℕ) → HasSignal lines i j → i < length lines
message_within [] i j h = absurd h
message_within (line ∷ lines) zero j h = omega arith
message_within (line ∷ lines) (suc i) j h = let rest = message_within lines i j h in omega arith

pub signal_within : (d : MessageLine) (lines : List MessageLine) (i j : ℕ) → HasSignal lines i j
    → j < length (slice_index_or lines i d).signals.items
signal_within d [] i j h = absurd h
signal_within d (line ∷ lines) zero j h = h
signal_within d (line ∷ lines) (suc i) j h = signal_within d lines i j h

pub signal_there : (d : MessageLine) (lines : List MessageLine) (i j : ℕ) → i < length lines
    → j < length (slice_index_or lines i d).signals.items → HasSignal lines i j
signal_there d [] i j h k = absurd (omega arith)
signal_there d (line ∷ lines) zero j h k = k
signal_there d (line ∷ lines) (suc i) j h k = signal_there d lines i j (omega arith) k

-- The numbers of the lines are those of the messages.
pub numbers_of_lines : (lines : List MessageLine)
    → map (λ (m : dbc.MessageLine). dbc_number m.ident) (map message_of lines) ≡ line_numbers lines
numbers_of_lines [] = refl
numbers_of_lines (line ∷ lines) = ap (λ l. line_number line ∷ l) (numbers_of_lines lines)

-- The key of the signal that has a number and a name.
module _ (number : ℕ) (name : List ℕ) where
  abbrev test : SignalKey → Bool
  test key = same_signal key (number, name)

  abbrev is_named : Signal → Bool
  is_named s = bytes_eq s.name name

  abbrev keyed : ℕ → List Signal → List SignalKey
  keyed n items = map (λ (s : dbc.SignalLine). (n, s.name)) (signals_of items)

  abbrev keys : List MessageLine → List SignalKey
  keys lines = flat_map keys_of (map message_of lines)

  after_these : (n : ℕ) (items : List Signal) (ys : List SignalKey) (k : ℕ) → slice_get (map test ys) k ≡ Some true
      → slice_get (map test (keyed n items ++ ys)) (index_after items k) ≡ Some true
  after_these n [] ys k h = h
  after_these n (s ∷ items) ys k h = after_these n items ys k h

  named_there : (n : ℕ) (items : List Signal) (j : ℕ) → n == number ≡ true
      → slice_get (map is_named items) j ≡ Some true → slice_get (map test (keyed n items)) j ≡ Some true
  named_there n [] j e h = none_true h
  named_there n (s ∷ items) zero e h = ap (λ b. Some (b && is_named s)) e ∙ h
  named_there n (s ∷ items) (suc j) e h = named_there n items j e h

  none_named : (n : ℕ) (items : List Signal) → list_any is_named items ≡ false → list_any test (keyed n items) ≡ false
  none_named n [] h = refl
  none_named n (s ∷ items) h =
      let parts = or_parts (is_named s) (list_any is_named items) h in
      ap (λ b. (n == number && b) || list_any test (keyed n items)) parts.0
      ∙ ap (λ b. b || list_any test (keyed n items)) (and_false (n == number)) ∙ none_named n items parts.1
    where
      and_false : (b : Bool) → (b && false) ≡ false
      and_false true = refl
      and_false false = refl

  none_numbered : (n : ℕ) (items : List Signal) → n == number ≡ false → list_any test (keyed n items) ≡ false
  none_numbered n [] e = refl
  none_numbered n (s ∷ items) e = ap (λ b. (b && is_named s) || list_any test (keyed n items)) e
      ∙ none_numbered n items e

  both_none : (xs ys : List SignalKey) → list_any test xs ≡ false → list_any test ys ≡ false
      → list_any test (xs ++ ys) ≡ false
  both_none xs ys h k = list_any-append test xs ys ∙ ap (λ b. b || list_any test ys) h ∙ k

  -- none has the number
  pub no_number : (lines : List MessageLine) → list_any (λ n. n == number) (line_numbers lines) ≡ false
      → list_any test (keys lines) ≡ false
  no_number [] h = refl
  no_number (line ∷ lines) h =
      let parts = or_parts (line_number line == number) (list_any (λ n. n == number) (line_numbers lines)) h in
      both_none (keyed (line_number line) line.signals.items) (keys lines)
      (none_numbered (line_number line) line.signals.items parts.0) (no_number lines parts.1)

  same_number : (a b : ℕ) → a == b ≡ true → a ≡ b
  same_number a b h = (Decides-eqb a b).0 h

  -- the others have other numbers
  others : (n : ℕ) (ns : List ℕ) → n == number ≡ true → AllByRecursion (λ m. nat_eq n m ≡ false) ns
      → list_any (λ m. m == number) ns ≡ false
  others n [] e h = refl
  others n (m ∷ ns) e h = ap (λ b. b || list_any (λ m. m == number) ns) (apart (m == number) refl) ∙ others n ns e h.1
    where
      apart : (b : Bool) → m == number ≡ b → b ≡ false
      apart false k = refl
      apart true k = absurd (true≢false
          (sym ((Decides-eqb n m).1 (same_number n number e ∙ sym (same_number m number k))) ∙ h.0))

  another : (n : ℕ) (ns : List ℕ) (i : ℕ) → AllByRecursion (λ m. nat_eq n m ≡ false) ns
      → slice_get (map (λ m. m == number) ns) i ≡ Some true → n == number ≡ false
  another n [] i h e = none_true e
  another n (m ∷ ns) zero h e = apart (n == number) refl
    where
      apart : (b : Bool) → n == number ≡ b → b ≡ false
      apart false k = refl
      apart true k = absurd (true≢false
          (sym ((Decides-eqb n m).1 (same_number n number k ∙ sym (same_number m number (some_true (m == number) e))))
          ∙ h.0))
  another n (m ∷ ns) (suc i) h e = another n ns i h.1 e

  module _ (d : MessageLine) where
    -- the message of the number has the name
    pub named_at : (lines : List MessageLine) (i j : ℕ) → slice_get (map (λ n. n == number) (line_numbers lines)) i
        ≡ Some true
        → slice_get (map is_named (slice_index_or lines i d).signals.items) j ≡ Some true
        → slice_get (map test (keys lines)) (flat_index lines i j) ≡ Some true
    named_at [] i j h k = none_true h
    named_at (line ∷ lines) zero j h k =
        front_stays test (keyed (line_number line) line.signals.items) (keys lines) j
        (named_there (line_number line) line.signals.items j (some_true (line_number line == number) h) k)
    named_at (line ∷ lines) (suc i) j h k =
        after_these (line_number line) line.signals.items (keys lines) (flat_index lines i j) (named_at lines i j h k)

    -- the message of the number hasn't the name
    pub not_named : (lines : List MessageLine) (i : ℕ) → IsDistinct nat_eq (line_numbers lines)
        → slice_get (map (λ n. n == number) (line_numbers lines)) i ≡ Some true
        → list_any is_named (slice_index_or lines i d).signals.items ≡ false → list_any test (keys lines) ≡ false
    unfolding IsDistinct
    not_named [] i apart h k = none_true h
    not_named (line ∷ lines) zero apart h k =
        both_none (keyed (line_number line) line.signals.items) (keys lines)
        (none_named (line_number line) line.signals.items k)
        (no_number lines (others (line_number line) (line_numbers lines) (some_true (line_number line == number) h)
        apart.0))
    not_named (line ∷ lines) (suc i) apart h k =
        both_none (keyed (line_number line) line.signals.items) (keys lines)
        (none_numbered (line_number line) line.signals.items
        (another (line_number line) (line_numbers lines) i apart.0 h))
        (not_named lines i apart.1 h k)

-- What is found of a number and a name, where the numbers of the lines are known.

pub number_within : (number : ℕ) (numbers : List ℕ) (lines : List MessageLine) (i : ℕ) → numbers ≡ line_numbers lines
    → slice_get (map (λ n. n == number) numbers) i ≡ Some true → i < length lines
number_within number numbers lines i are h =
    let within = slice_get_within (map (λ n. n == number) numbers) i true h in
    let long = length-map numbers (λ n. n == number) ∙ ap length are ∙ length-map lines line_number in
    omega arith

module _ (number : ℕ) (name : List ℕ) (numbers : List ℕ) (lines : List MessageLine) (are : numbers ≡ line_numbers lines)
  where
    pub number_missing : list_any (λ n. n == number) numbers ≡ false → AreIndicesOf lines (Some number) name None
    number_missing h = record {
      within = tt;
      index =
          no_number number name lines (ap (list_any (λ n. n == number)) (sym are) ∙ h);
    }

    module _ (i : ℕ) (line : MessageLine) (items : List Signal)
        (there : slice_get (map (λ n. n == number) numbers) i ≡ Some true)
        (same_items : items ≡ (slice_index_or lines i line).signals.items) where
      number_there : slice_get (map (λ n. n == number) (line_numbers lines)) i ≡ Some true
      number_there = ap (λ ns. slice_get (map (λ n. n == number) ns) i) (sym are) ∙ there

      pub indices_found : (j : ℕ) → slice_get (map (λ (s : Signal). bytes_eq s.name name) items) j ≡ Some true
          → AreIndicesOf lines (Some number) name (Some (record { message = i; signal = j }))
      indices_found j h =
          let here = ap (λ l. slice_get (map (λ (s : Signal). bytes_eq s.name name) l) j) (sym same_items) ∙ h in
          let long = slice_get_within
          (map (λ (s : Signal). bytes_eq s.name name) (slice_index_or lines i line).signals.items) j true here in
          let count = length-map (slice_index_or lines i line).signals.items (λ (s : Signal). bytes_eq s.name name) in
          record {
            within = signal_there line lines i j (number_within number numbers lines i are there) (omega arith);
            index = named_at number name line lines i j number_there here;
          }

      pub name_missing : IsDistinct nat_eq numbers → list_any (λ (s : Signal). bytes_eq s.name name) items ≡ false
          → AreIndicesOf lines (Some number) name None
      name_missing apart h = record {
        within = tt;
        index = not_named number name line lines i (subst (IsDistinct nat_eq) are apart) number_there
            (ap (list_any (λ (s : Signal). bytes_eq s.name name)) (sym same_items) ∙ h);
      }
