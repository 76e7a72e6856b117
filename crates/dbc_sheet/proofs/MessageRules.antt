-- What the messages of a sheet keep.
use Rattle.dbc_sheet.proofs.Common.{◌≡◌, ◌==◌, ◌<◌, ◌≤◌, ◌∙◌, ◌||◌, ◌&&◌, not, true, false, ℕ, List, [], ◌∷◌, length}
use Rattle.dbc_sheet.proofs.Common.{rules, get_or, Some, None, refl, sym, ap, subst, arith, nat_le, insert, remove}
use Rattle.dbc_sheet.proofs.Common.{bytes_eq, put, IsGap, first_refusal, put_gap, remove_at, none_holds, message_limit}
use Rattle.dbc_sheet.proofs.Common.{AreNamedApart, has_name, holds_name, DoubleNumber, DoubleName}
use Rattle.std.proofs.Common.{zero, suc}
use Rattle.std.specs.List.{IsDistinct}
use Rattle.std.specs.List.Sorted.{IsStrictlySortedBy}
use Rattle.std.proofs.lemmas.Bool.Decides.{nat_tests}
use Rattle.std.proofs.lemmas.List.Edits.{length-insert, length-remove}
use Rattle.std.proofs.lemmas.List.Kept.{IsStrictlySortedBy-filter}
use Rattle.std.specs.Cmp.Rules.{comparing}
use Rattle.base.specs.Ascending.{IsAt}
use Rattle.base.proofs.AscendingLists.{any_at, any_gap}
use Rattle.base.proofs.PutKeeps.{IsStrictlySortedBy-put}
use Rattle.dbc_words.specs.declared.name_set.NameSet.{NameSet}
use Rattle.dbc_words.proofs.Naming.{any-insert, apart-insert, apart-filter, names-remove}
use Rattle.dbc_sheet.specs.Messages.{AreIndexed, by_number, message_name, message_tests, number_of}
use Rattle.dbc_sheet.specs.declared.message.Message.{Message}

pub none_indexed : (messages : List Message) (names : NameSet) → messages ≡ []
    → ((n : List ℕ) → holds_name names n ≡ false) → AreIndexed messages names
unfolding IsDistinct IsStrictlySortedBy
none_indexed messages names none e =
    rw none (record { together = record { ascending = tt; apart = tt; few = omega arith }; index = e })

pub not_full : (messages : List Message) → ¬ (message_limit ≤ length messages)
    → nat_le message_limit (length messages) ≡ false
not_full messages h = grind (arith, nat_tests)

-- what a search finds among the messages that it was handed
pub at_in : (seen messages : List Message) (k n at : ℕ) → seen ≡ messages → k ≡ n → IsAt number_of seen k at
    → IsAt number_of messages n at
at_in seen messages k n at e f h = subst (λ ms. IsAt number_of ms n at) e (subst (λ j. IsAt number_of seen j at) f h)

pub gap_in : (seen messages : List Message) (k n at : ℕ) → seen ≡ messages → k ≡ n → IsGap number_of seen k at
    → IsGap number_of messages n at
gap_in seen messages k n at e f h = subst (λ ms. IsGap number_of ms n at) e (subst (λ j. IsGap number_of seen j at) f h)

-- which test refuses
pub second_refuses : (messages : List Message) (m : Message) (at : ℕ) → ¬ (message_limit ≤ length messages)
    → IsAt number_of messages (number_of m) at
    → first_refusal (message_tests messages m) ≡ Some DoubleNumber
second_refuses messages m at few there = rw (not_full messages few, any_at number_of messages (number_of m) at there)
    refl

pub third_refuses : (messages : List Message) (m : Message) (at : ℕ) → nat_le message_limit (length messages) ≡ false
    → IsGap number_of messages (number_of m) at
    → has_name message_name messages m.name ≡ true → first_refusal (message_tests messages m) ≡ Some DoubleName
third_refuses messages m at few gap there = rw (few, any_gap number_of messages (number_of m) at gap, there) refl

pub none_refuses : (messages : List Message) (m : Message) (at : ℕ) → nat_le message_limit (length messages) ≡ false
    → IsGap number_of messages (number_of m) at
    → has_name message_name messages m.name ≡ false → first_refusal (message_tests messages m) ≡ None
none_refuses messages m at few gap new = rw (few, any_gap number_of messages (number_of m) at gap, new) refl

one_more : (messages : List Message) (m : Message) (at : ℕ) → at ≤ length messages
    → nat_le message_limit (length messages) ≡ false → length (insert messages at m) ≤ message_limit
one_more messages m at within h = rw (length-insert messages at m within) (grind (arith, nat_tests))

put_keeps_order : (messages : List Message) (m : Message) → IsStrictlySortedBy by_number messages
    → IsStrictlySortedBy by_number (put by_number m messages)
put_keeps_order messages m h = IsStrictlySortedBy-put by_number (search (comparing, rules)) m messages h

-- one more that isn't refused
pub with_message : (messages more : List Message) (m : Message) (at : ℕ) (names with : NameSet)
    → AreIndexed messages names
    → first_refusal (message_tests messages m) ≡ None → IsGap number_of messages (number_of m) at
    → more ≡ insert messages at m
    → ((n : List ℕ) → holds_name with n ≡ (bytes_eq m.name n || holds_name names n)) → AreIndexed more with
with_message messages more m at names with is free gap same index =
    let tests = none_holds (message_tests messages m) free in
    rw same (record {
      together = record {
        ascending = subst (IsStrictlySortedBy by_number) (put_gap number_of m messages at gap)
            (put_keeps_order messages m is.together.ascending);
        apart = apart-insert message_name messages at m is.together.apart tests.1.1.0;
        few = one_more messages m at gap.within tests.0;
      };
      index = λ n. index n ∙ ap (λ b. bytes_eq m.name n || b) (is.index n)
          ∙ sym (any-insert (λ a. bytes_eq a.name n) messages at m);
    })

-- the same messages, and a set of the same names
pub same_messages : (messages more : List Message) (names with : NameSet) → AreIndexed messages names → more ≡ messages
    → ((n : List ℕ) → holds_name with n ≡ holds_name names n) → AreIndexed more with
same_messages messages more names with is same index =
    rw same (record { together = is.together; index = λ n. index n ∙ is.index n })

-- what is inserted and taken out again leaves no trace
pub remove_inserted : {A : Type 0} (xs : List A) (i : ℕ) (x : A) → i ≤ length xs → remove (insert xs i x) i ≡ xs
remove_inserted xs zero x h = refl
remove_inserted [] (suc i) x h = absurd (let w : suc i ≤ 0 = h in omega (arith, w))
remove_inserted (y ∷ ys) (suc i) x h = ap (λ zs. y ∷ zs) (remove_inserted ys i x (omega (arith, h)))

few_left : (messages : List Message) (at : ℕ) → at < length messages → length messages ≤ message_limit
    → length (remove messages at) ≤ message_limit
few_left messages at within few = let n = length-remove messages at within in omega (arith, n, few)

-- one is taken out
pub without_message : (messages rest : List Message) (m : Message) (n at : ℕ) (names left : NameSet)
    → AreIndexed messages names
    → IsAt number_of messages n at → m ≡ get_or messages at m → rest ≡ remove messages at
    → ((k : List ℕ) → holds_name left k ≡ (not (bytes_eq m.name k) && holds_name names k)) → AreIndexed rest left
without_message messages rest m n at names left is there found same index =
    rw same (record {
      together = record {
        ascending = subst (IsStrictlySortedBy by_number) (sym (remove_at number_of messages n at there))
            (IsStrictlySortedBy-filter by_number (λ x. not (number_of x == n)) messages is.together.ascending);
        apart = subst (AreNamedApart message_name) (sym (remove_at number_of messages n at there))
            (apart-filter message_name (λ x. not (number_of x == n)) messages is.together.apart);
        few = few_left messages at there.within is.together.few;
      };
      index = λ k. index k ∙ ap (λ b. not (bytes_eq m.name k) && b) (is.index k)
          ∙ ap (λ x. not (bytes_eq x.name k) && has_name message_name messages k) found
          ∙ sym (names-remove message_name messages at m k there.within is.together.apart);
    })
