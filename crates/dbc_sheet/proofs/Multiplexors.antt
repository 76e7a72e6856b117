-- The multiplexor among the signals of a message.
use Rattle.dbc_sheet.proofs.Common.{◌≡◌, ◌<◌, ◌+◌, ◌∙◌, ◌&&◌, ◌||◌, Bool, true, false, not, ℕ, List, [], ◌∷◌, length}
use Rattle.dbc_sheet.proofs.Common.{take, get_or, map, None, Some, refl, sym, ap, list_any, bytes_eq, first_refusal}
use Rattle.dbc_sheet.proofs.Common.{none_holds, AreNamedApart, false≢true}
use Rattle.std.proofs.Common.{cond, ◌++◌}
use Rattle.std.specs.List.{AllByRecursion, IsDistinct}
use Rattle.bitlayout.specs.Mux.{is_multiplexor}
use Rattle.dbc_words.proofs.Gathering.{apart_more, next_taken, not_apart}
use Rattle.dbc_words.proofs.NamedThings.{all_without, found_is, none_found, others_have_not, some_none, some_same}
use Rattle.dbc_words.proofs.Naming.{distinct-filter}
use Rattle.dbc_words.proofs.Rosters.{any_and_last, any_by, apart_and_last, apart_by}
use Rattle.std.proofs.Math.Bool.{or_comm}
use Rattle.dbc_sheet.specs.Signals.{HaveOneMultiplexor, IsMultiplexorKnown, at_signal, has_multiplexor}
use Rattle.dbc_sheet.specs.Signals.{signal_is_multiplexor, signal_name, signal_named, signal_tests, without_signal}
use Rattle.dbc_sheet.specs.declared.signal.Signal.{Signal}

both_or : (a b c : Bool) → ((a && b) || (b && c)) ≡ (b && (a || c))
both_or true true c = refl
both_or false true c = refl
both_or true false c = refl
both_or false false c = refl

pub any_both : {A : Type 0} (p : A → Bool) (b : Bool) (xs : List A) → list_any (λ a. p a && b) xs ≡ (b && list_any p xs)
any_both p true [] = refl
any_both p false [] = refl
any_both p b (x ∷ xs) = ap (λ r. (p x && b) || r) (any_both p b xs) ∙ both_or (p x) b (list_any p xs)

-- one more signal that isn't refused
pub known_with : (signals more : List Signal) (s : Signal) (multiplexed multiplexes next : Bool)
    → IsMultiplexorKnown signals multiplexed
    → first_refusal (signal_tests signals s) ≡ None → more ≡ signals ++ s ∷ [] → multiplexes ≡ signal_is_multiplexor s
    → next ≡ (multiplexed || multiplexes) → IsMultiplexorKnown more next
known_with signals more s multiplexed multiplexes next is free same own known =
    let tests = none_holds (signal_tests signals s) free in
    rw same (record {
      one_multiplexor = apart_and_last (λ a b. signal_is_multiplexor a && signal_is_multiplexor b) signals s
          is.one_multiplexor (any_both signal_is_multiplexor (signal_is_multiplexor s) signals ∙ tests.1.1.0);
      known = known ∙ ap (λ b. b || multiplexes) is.known ∙ or_comm (has_multiplexor signals) multiplexes
          ∙ ap (λ b. b || has_multiplexor signals) own ∙ sym (any_and_last signal_is_multiplexor signals s);
    })

pub none_known : (signals : List Signal) → signals ≡ [] → IsMultiplexorKnown signals false
unfolding IsDistinct
none_known signals none = rw none (record { one_multiplexor = tt; known = refl })

multiplexors_kept : (change : Signal → Signal) (n : List ℕ) (signals : List Signal)
    → ((s : Signal) → (change s).mux ≡ s.mux)
    → map signal_is_multiplexor (at_signal change n signals) ≡ map signal_is_multiplexor signals
multiplexors_kept change n [] same = refl
multiplexors_kept change n (s ∷ signals) same =
    ap (λ b. b ∷ map signal_is_multiplexor (at_signal change n signals)) (by_test (bytes_eq s.name n))
    ∙ ap (λ bs. signal_is_multiplexor s ∷ bs) (multiplexors_kept change n signals same)
  where
    by_test : (b : Bool) → signal_is_multiplexor (cond b (change s) s) ≡ signal_is_multiplexor s
    by_test true = ap is_multiplexor (same s)
    by_test false = refl

-- a signal is changed, and not when it is present
pub known_changed : (change : Signal → Signal) (n : List ℕ) (signals more : List Signal) (multiplexed : Bool)
    → IsMultiplexorKnown signals multiplexed
    → ((s : Signal) → (change s).mux ≡ s.mux) → more ≡ at_signal change n signals → IsMultiplexorKnown more multiplexed
known_changed change n signals more multiplexed is same e =
    let kept : map signal_is_multiplexor (at_signal change n signals) ≡ map signal_is_multiplexor signals =
    multiplexors_kept change n signals same in
    rw e (record {
      one_multiplexor = apart_by (λ a b. a && b) signal_is_multiplexor signals (at_signal change n signals) kept
          is.one_multiplexor;
      known = is.known ∙ sym (any_by (λ b. b) signal_is_multiplexor signals (at_signal change n signals) kept);
    })

none_is_multiplexor : (s : Signal) (signals : List Signal) → signal_is_multiplexor s ≡ true
    → AllByRecursion (λ t. (signal_is_multiplexor s && signal_is_multiplexor t) ≡ false) signals
    → has_multiplexor signals ≡ false
none_is_multiplexor s [] e h = refl
none_is_multiplexor s (t ∷ signals) e h =
    ap (λ b. b || has_multiplexor signals) (sym (ap (λ b. b && signal_is_multiplexor t) e) ∙ h.0)
    ∙ none_is_multiplexor s signals e h.1

later_out : (t u v : Bool) → (t && u) ≡ false → (t || (not u && v)) ≡ (not u && (t || v))
later_out true true v h = absurd (false≢true (sym h))
later_out true false v h = refl
later_out false u v h = refl

first_out : (x : Signal) (xs : List Signal) (t : Bool)
    → AllByRecursion (λ y. (signal_is_multiplexor x && signal_is_multiplexor y) ≡ false) xs
    → signal_is_multiplexor x ≡ t
    → has_multiplexor xs ≡ (not t && (t || has_multiplexor xs))
first_out x xs true h e = none_is_multiplexor x xs e h
first_out x xs false h e = refl

-- the multiplexor is left, but where it is the signal that is taken out
rest_has_multiplexor : (signals : List Signal) (n : List ℕ) (s : Signal) → HaveOneMultiplexor signals
    → AreNamedApart signal_name signals → signal_named signals n ≡ Some s
    → has_multiplexor (without_signal signals n) ≡ (not (signal_is_multiplexor s) && has_multiplexor signals)
unfolding IsDistinct
rest_has_multiplexor [] n s one apart e = absurd (some_none s (sym e))
rest_has_multiplexor (x ∷ xs) n s one apart e =
    by_name (bytes_eq x.name n) refl e (rest_has_multiplexor xs n s one.1 apart.1)
  where
    by_name : (b : Bool) → bytes_eq x.name n ≡ b → cond b (Some x) (signal_named xs n) ≡ Some s
        → (signal_named xs n ≡ Some s
        → has_multiplexor (without_signal xs n) ≡ (not (signal_is_multiplexor s) && has_multiplexor xs))
        → has_multiplexor (cond (not b) (x ∷ without_signal xs n) (without_signal xs n))
        ≡ (not (signal_is_multiplexor s) && (signal_is_multiplexor x || has_multiplexor xs))
    by_name true h same later =
        ap has_multiplexor (all_without signal_name n xs (others_have_not signal_name n x xs h apart.0))
        ∙ first_out x xs (signal_is_multiplexor x) one.0 refl
        ∙ ap (λ t. not (signal_is_multiplexor t) && (signal_is_multiplexor x || has_multiplexor xs))
        (some_same x s same)
    by_name false h found later =
        ap (λ b. signal_is_multiplexor x || b) (later found)
        ∙ later_out (signal_is_multiplexor x) (signal_is_multiplexor s) (has_multiplexor xs)
        (found_is (λ y. (signal_is_multiplexor x && signal_is_multiplexor y) ≡ false) (λ y. bytes_eq y.name n) xs s
        found one.0)

-- a signal is taken out
pub known_without : (signals rest : List Signal) (n : List ℕ) (s : Signal) (multiplexed next : Bool)
    → IsMultiplexorKnown signals multiplexed
    → AreNamedApart signal_name signals → signal_named signals n ≡ Some s → rest ≡ without_signal signals n
    → next ≡ (not (signal_is_multiplexor s) && multiplexed)
    → IsMultiplexorKnown rest next
known_without signals rest n s multiplexed next is apart found same known =
    rw same (record {
      one_multiplexor = distinct-filter (λ a b. signal_is_multiplexor a && signal_is_multiplexor b)
          (λ a. not (bytes_eq a.name n)) signals is.one_multiplexor;
      known = known ∙ ap (λ b. not (signal_is_multiplexor s) && b) is.known
          ∙ sym (rest_has_multiplexor signals n s is.one_multiplexor apart found);
    })

-- no signal is taken out
pub known_still : (signals rest : List Signal) (n : List ℕ) (multiplexed : Bool)
    → IsMultiplexorKnown signals multiplexed → signal_named signals n ≡ None
    → rest ≡ without_signal signals n → IsMultiplexorKnown rest multiplexed
known_still signals rest n multiplexed is absent same =
    rw (same ∙ all_without signal_name n signals (none_found (λ s. bytes_eq s.name n) signals absent)) is

-- signals that are looked at one by one

-- the next one is not the multiplexor, or none of those before is
pub known_more : (signals : List Signal) (i : ℕ) (s : Signal) (multiplexed multiplexes next : Bool) → i < length signals
    → s ≡ get_or signals i s
    → HaveOneMultiplexor (take i signals) → multiplexed ≡ has_multiplexor (take i signals)
    → multiplexes ≡ signal_is_multiplexor s
    → (multiplexes && multiplexed) ≡ false → next ≡ (multiplexes || multiplexed)
    → IsMultiplexorKnown (take (i + 1) signals) next
known_more signals i s multiplexed multiplexes next lt is one known own free later =
    let both = λ (a b : Signal). signal_is_multiplexor a && signal_is_multiplexor b in
    let before = take i signals in
    record {
      one_multiplexor = apart_more both signals i s lt is one
          (any_both signal_is_multiplexor (signal_is_multiplexor s) before ∙ (λ k. sym own k && sym known k) ∙ free);
      known = later ∙ (λ k. own k || known k) ∙ sym (any_and_last signal_is_multiplexor before s)
          ∙ sym (ap has_multiplexor (next_taken both signals i s lt is));
    }

-- it is, and so is one of those before
pub two_known : (signals : List Signal) (i : ℕ) (s : Signal) (multiplexed multiplexes : Bool) → i < length signals
    → s ≡ get_or signals i s
    → multiplexed ≡ has_multiplexor (take i signals) → multiplexes ≡ signal_is_multiplexor s
    → (multiplexes && multiplexed) ≡ true → ¬ (HaveOneMultiplexor signals)
two_known signals i s multiplexed multiplexes lt is known own two =
    not_apart (λ a b. signal_is_multiplexor a && signal_is_multiplexor b) signals i s lt is
    (any_both signal_is_multiplexor (signal_is_multiplexor s) (take i signals) ∙ (λ k. sym own k && sym known k) ∙ two)
