-- Nodes, messages and signals that are built have names and numbers of their own only where their lines have.
use Rattle.dbc_read.proofs.Common.{◌≡◌, ◌==◌, ℕ, Bool, false, nat_eq, List, [], ◌∷◌, map, AllByRecursion, flat_map}
use Rattle.dbc_read.proofs.Common.{bytes_eq, dbc_number, AreNamedApart, number_of, keys_of, same_signal, node_name}
use Rattle.dbc_read.proofs.Common.{signal_name, SignalLine, Message, Node, Signal}
use Rattle.std.specs.List.{IsDistinct}
use Rattle.dbc_grammar.specs.Statement.{MessageLine}
use Rattle.dbc_grammar.proofs.SignalKeys.{keys_distinct}
use Rattle.dbc_read.specs.Built.{feeds_after, messages_from, nodes_from, rest_of, signals_from}
use Rattle.dbc_read.specs.declared.feed.Feeds.{Feeds}
use Rattle.std.specs.Prelude.{drop}

other_nodes : (x : List ℕ) (names comments : List (List ℕ))
    → AllByRecursion (λ (n : Node). bytes_eq x n.name ≡ false) (nodes_from names comments)
    → AllByRecursion (λ y. bytes_eq x y ≡ false) names
other_nodes x [] comments h = tt
other_nodes x (name ∷ names) comments h = (h.0, other_nodes x names (drop 1 comments) h.1)

pub names_apart : (names comments : List (List ℕ)) → AreNamedApart node_name (nodes_from names comments)
    → IsDistinct bytes_eq names
unfolding IsDistinct
names_apart [] comments h = tt
names_apart (name ∷ names) comments h =
    (other_nodes name names (drop 1 comments) h.0, names_apart names (drop 1 comments) h.1)

other_signals : (x : List ℕ) (lines : List SignalLine) (f : Feeds)
    → AllByRecursion (λ (s : Signal). bytes_eq x s.name ≡ false) (signals_from lines f)
    → AllByRecursion (λ (l : SignalLine). bytes_eq x l.name ≡ false) lines
other_signals x [] f h = tt
other_signals x (line ∷ lines) f h = (h.0, other_signals x lines (rest_of f) h.1)

lines_apart : (lines : List SignalLine) (f : Feeds) → AreNamedApart signal_name (signals_from lines f)
    → AreNamedApart (λ (l : SignalLine). l.name) lines
unfolding IsDistinct
lines_apart [] f h = tt
lines_apart (line ∷ lines) f h = (other_signals line.name lines (rest_of f) h.0, lines_apart lines (rest_of f) h.1)

each_apart : (lines : List MessageLine) (comments : List (List ℕ)) (f : Feeds)
    → AllByRecursion (λ (m : Message). AreNamedApart signal_name m.signals) (messages_from lines comments f)
    → AllByRecursion (λ (l : MessageLine). AreNamedApart (λ (s : SignalLine). s.name) l.signals) lines
each_apart [] comments f h = tt
each_apart (line ∷ lines) comments f h =
    (lines_apart line.signals f h.0, each_apart lines (drop 1 comments) (feeds_after line.signals f) h.1)

abbrev pub line_number : MessageLine → ℕ
line_number l = dbc_number l.ident

other_numbers : (n : ℕ) (lines : List MessageLine) (comments : List (List ℕ)) (f : Feeds)
    → AllByRecursion (λ (m : Message). n == number_of m ≡ false) (messages_from lines comments f)
    → AllByRecursion (λ (l : MessageLine). n == line_number l ≡ false) lines
other_numbers n [] comments f h = tt
other_numbers n (line ∷ lines) comments f h =
    (h.0, other_numbers n lines (drop 1 comments) (feeds_after line.signals f) h.1)

numbered_apart : (lines : List MessageLine) (comments : List (List ℕ)) (f : Feeds)
    → IsDistinct (λ a b. number_of a == number_of b) (messages_from lines comments f)
    → IsDistinct (λ (a b : MessageLine). line_number a == line_number b) lines
unfolding IsDistinct
numbered_apart [] comments f h = tt
numbered_apart (line ∷ lines) comments f h = (
  other_numbers (line_number line) lines (drop 1 comments) (feeds_after line.signals f) h.0,
  numbered_apart lines (drop 1 comments) (feeds_after line.signals f) h.1,
)

pub apart_mapped : {A B : Type 0} (e : B → B → Bool) (f : A → B) (xs : List A) → IsDistinct (λ a b. e (f a) (f b)) xs
    → IsDistinct e (map f xs)
unfolding IsDistinct
apart_mapped e f [] h = tt
apart_mapped {A} e f (x ∷ xs) h = (each xs h.0, apart_mapped e f xs h.1)
  where
    each : (ys : List A) → AllByRecursion (λ y. e (f x) (f y) ≡ false) ys
        → AllByRecursion (λ y. e (f x) y ≡ false) (map f ys)
    each [] a = tt
    each (y ∷ ys) a = (a.0, each ys a.1)

module _ (lines : List MessageLine) (comments : List (List ℕ)) (f : Feeds)
    (numbers : IsDistinct (λ a b. number_of a == number_of b) (messages_from lines comments f)) where
  pub numbers_apart : IsDistinct nat_eq (map line_number lines)
  numbers_apart = apart_mapped nat_eq line_number lines (numbered_apart lines comments f numbers)

  pub keys_apart : AllByRecursion (λ (m : Message). AreNamedApart signal_name m.signals)
      (messages_from lines comments f) → IsDistinct same_signal (flat_map keys_of lines)
  keys_apart names =
      keys_distinct (λ (s : SignalLine). s.name) line_number (λ (l : MessageLine). l.signals) lines
      (numbered_apart lines comments f numbers)
      (each_apart lines comments f names)
