-- The signals of messages have distinct keys where the messages have distinct numbers and each message's signals names.
use Rattle.dbc_grammar.proofs.Common.{◌≡◌, ◌==◌, ◌&&◌, ◌++◌, ◌∙◌, ℕ, Bool, true, false, List, [], ◌∷◌, map, refl, ap}
use Rattle.dbc_grammar.proofs.Common.{AllByRecursion, flat_map, bytes_eq, AreNamedApart, number_of, IsWellFormed}
use Rattle.dbc_grammar.proofs.Common.{Message, Sheet}
use Rattle.std.specs.List.{IsDistinct}
use Rattle.dbc_grammar.specs.Saying.{SignalKey, same_signal}
use Rattle.dbc_sheet.specs.Signals.{signal_name}
use Rattle.dbc_sheet.specs.WellFormed.{IsWellFormedMessage}
use Rattle.dbc_sheet.specs.declared.signal.Signal.{Signal}
use Rattle.dbc_grammar.proofs.AscendingUnique.{distinct_if_ascending}

all_append : {A : Type 0} (P : A → Type 0) (xs ys : List A) → AllByRecursion P xs → AllByRecursion P ys
    → AllByRecursion P (xs ++ ys)
all_append P [] ys a b = b
all_append P (x ∷ xs) ys a b = (a.0, all_append P xs ys a.1 b)

and_false : (b : Bool) → (b && false) ≡ false
and_false true = refl
and_false false = refl

abbrev AreOther : SignalKey → List SignalKey → Type 0
AreOther key keys = AllByRecursion (λ k. same_signal key k ≡ false) keys

module _ {S : Type 0} (name : S → List ℕ) where
  abbrev pub keys_in : ℕ → List S → List SignalKey
  keys_in number signals = map (λ s. (number, name s)) signals

  other_number : (n m : ℕ) (x : List ℕ) (signals : List S) → n == m ≡ false → AreOther (n, x) (keys_in m signals)
  other_number n m x [] h = tt
  other_number n m x (s ∷ signals) h = (ap (λ b. b && bytes_eq x (name s)) h, other_number n m x signals h)

  other_name : (n : ℕ) (x : List ℕ) (signals : List S) → AllByRecursion (λ s. bytes_eq x (name s) ≡ false) signals
      → AreOther (n, x) (keys_in n signals)
  other_name n x [] h = tt
  other_name n x (s ∷ signals) h = (ap (λ b. n == n && b) h.0 ∙ and_false (n == n), other_name n x signals h.1)

  -- the signals of one message before those of others
  one_message : (n : ℕ) (signals : List S) (rest : List SignalKey) → ((x : List ℕ) → AreOther (n, x) rest)
      → AreNamedApart name signals
      → IsDistinct same_signal rest → IsDistinct same_signal (keys_in n signals ++ rest)
  unfolding IsDistinct
  one_message n [] rest other apart distinct = distinct
  one_message n (s ∷ signals) rest other apart distinct = (
    all_append _ (keys_in n signals) rest (other_name n (name s) signals apart.0) (other (name s)),
    one_message n signals rest other apart.1 distinct,
  )

  module _ {M : Type 0} (number : M → ℕ) (signals : M → List S) where
    other_messages : (n : ℕ) (x : List ℕ) (messages : List M) → AllByRecursion (λ m. n == number m ≡ false) messages
        → AreOther (n, x) (flat_map (λ m. keys_in (number m) (signals m)) messages)
    other_messages n x [] h = tt
    other_messages n x (m ∷ messages) h =
        all_append _ (keys_in (number m) (signals m)) _ (other_number n (number m) x (signals m) h.0)
        (other_messages n x messages h.1)

    pub keys_distinct : (messages : List M) → IsDistinct (λ a b. number a == number b) messages
        → AllByRecursion (λ m. AreNamedApart name (signals m)) messages
        → IsDistinct same_signal (flat_map (λ m. map (λ s. (number m, name s)) (signals m)) messages)
    unfolding IsDistinct
    keys_distinct [] numbers names = tt
    keys_distinct (m ∷ messages) numbers names =
        one_message (number m) (signals m) _ (λ x. other_messages (number m) x messages numbers.0) names.0
        (keys_distinct messages numbers.1 names.1)

apart_in : (messages : List Message) → AllByRecursion IsWellFormedMessage messages
    → AllByRecursion (λ m. AreNamedApart signal_name m.signals) messages
apart_in [] all = tt
apart_in (m ∷ messages) all = (all.0.signals.apart, apart_in messages all.1)

-- the signals of a well-formed sheet
pub sheet_keys_distinct : (s : Sheet) → IsWellFormed s
    → IsDistinct same_signal
    (flat_map (λ (m : Message). map (λ (x : Signal). (number_of m, x.name)) m.signals) s.messages)
sheet_keys_distinct s well =
    let numbers = distinct_if_ascending number_of s.messages well.together.ascending in
    keys_distinct signal_name number_of (λ (m : Message). m.signals) s.messages numbers
    (apart_in s.messages well.messages)
