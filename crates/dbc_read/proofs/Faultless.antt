-- Where no item is at fault, all that is gathered can be in one sheet; and only there.
use Rattle.dbc_read.proofs.Common.{◌≡◌, ◌∙◌, ◌≤◌, ◌&&◌, ℕ, Bool, arith, false, nat_eq, List, [], ◌∷◌, length, map, drop}
use Rattle.dbc_read.proofs.Common.{refl, sym, ap, subst, AllByRecursion, bytes_eq, length-map, is_multiplexor}
use Rattle.dbc_read.proofs.Common.{message_limit, roster_limit, message_name, number_of, node_name, table_name}
use Rattle.dbc_read.proofs.Common.{signal_name, AreFewTexts, Signal, ValueTable, ValueText, table_of, message_of}
use Rattle.dbc_read.proofs.Common.{names_of, signals_of, MessageLine, NodeName, TableLine}
use Rattle.std.specs.List.{IsDistinct}
use Rattle.bitlayout.specs.declared.place.Mux.{Mux}
use Rattle.dbc_read.specs.Built.{CanBeSheet, feeds_after, feeds_in, first_or, messages_from, nodes_from, rest_of}
use Rattle.dbc_read.specs.Built.{signals_from}
use Rattle.dbc_read.specs.Described.{Described, described, described_with, own_offsets}
use Rattle.dbc_read.specs.Faults.{AreDefined, AreNamedWithin, HaveSignalLines, entries_of, line_number}
use Rattle.dbc_read.specs.Fit.{IsFit}
use Rattle.dbc_read.specs.declared.feed.Feeds.{Feeds}
use Rattle.dbc_read.specs.declared.gathered.Gathered.{Gathered}
use Rattle.dbc_read.proofs.DistinctNames.{apart_mapped}
use Rattle.dbc_statements.specs.declared.statement.SignalOffsets.{SignalOffsets}

-- Things that have the keys of others are as distinct as those, and as many.
module _ {A B K : Type 0} (same : K → K → Bool) (f : A → K) (g : B → K) where
  apart_unmapped : (ys : List B) → IsDistinct same (map g ys) → IsDistinct (λ a b. same (g a) (g b)) ys
  unfolding IsDistinct
  apart_unmapped [] h = tt
  apart_unmapped (y ∷ ys) h = (each ys h.0, apart_unmapped ys h.1)
    where
      each : (zs : List B) → AllByRecursion (λ k. same (g y) k ≡ false) (map g zs)
          → AllByRecursion (λ z. same (g y) (g z) ≡ false) zs
      each [] a = tt
      each (z ∷ zs) a = (a.0, each zs a.1)

  distinct_too : (xs : List A) (ys : List B) → map g ys ≡ map f xs → IsDistinct (λ a b. same (f a) (f b)) xs
      → IsDistinct (λ a b. same (g a) (g b)) ys
  distinct_too xs ys e h = apart_unmapped ys (subst (IsDistinct same) (sym e) (apart_mapped same f xs h))

  as_many : (xs : List A) (ys : List B) → map g ys ≡ map f xs → length ys ≡ length xs
  as_many xs ys e = sym (length-map ys g) ∙ ap length e ∙ length-map xs f

-- Keys of what is built.

node_keys : (nodes : List NodeName) (comments : List (List ℕ)) → map node_name (nodes_from (names_of nodes) comments)
    ≡ map (λ (n : NodeName). n.name) nodes
node_keys [] comments = refl
node_keys (n ∷ nodes) comments = ap (λ l. n.name ∷ l) (node_keys nodes (drop 1 comments))

table_keys : (tables : List TableLine) → map table_name (map table_of tables) ≡ map (λ (t : TableLine). t.name) tables
table_keys [] = refl
table_keys (t ∷ tables) = ap (λ l. t.name ∷ l) (table_keys tables)

signal_keys : (other : SignalOffsets) (items : List Signal) (offsets : List SignalOffsets) (f : Feeds)
    → map signal_name (signals_from (signals_of items) f) ≡ map (λ (s : Described). s.signal.name)
    (described_with other items offsets)
signal_keys other [] offsets f = refl
signal_keys other (s ∷ items) offsets f = ap (λ l. s.name ∷ l) (signal_keys other items (drop 1 offsets) (rest_of f))

signal_marks : (other : SignalOffsets) (items : List Signal) (offsets : List SignalOffsets) (f : Feeds)
    → map (λ (s : Signal). s.mux) (signals_from (signals_of items) f) ≡ map (λ (s : Described). s.signal.mux)
    (described_with other items offsets)
signal_marks other [] offsets f = refl
signal_marks other (s ∷ items) offsets f = ap (λ l. s.mux ∷ l) (signal_marks other items (drop 1 offsets) (rest_of f))

message_keys : (lines : List MessageLine) (comments : List (List ℕ)) (f : Feeds)
    → map message_name (messages_from (map message_of lines) comments f) ≡ map (λ (m : MessageLine). m.name) lines
message_keys [] comments f = refl
message_keys (m ∷ lines) comments f =
    ap (λ l. m.name ∷ l) (message_keys lines (drop 1 comments) (feeds_after (signals_of m.signals.items) f))

message_numbers : (lines : List MessageLine) (comments : List (List ℕ)) (f : Feeds)
    → map number_of (messages_from (map message_of lines) comments f) ≡ map line_number lines
message_numbers [] comments f = refl
message_numbers (m ∷ lines) comments f =
    ap (λ l. line_number m ∷ l) (message_numbers lines (drop 1 comments) (feeds_after (signals_of m.signals.items) f))

-- Texts for values, which are few in each list.

abbrev AreFew : List (List ValueText) → Type 0
AreFew lists = AllByRecursion AreFewTexts lists

few_first : (lists : List (List ValueText)) → AreFew lists → AreFewTexts (first_or [] lists)
few_first [] h = omega arith
few_first (l ∷ lists) h = h.0

few_rest : (lists : List (List ValueText)) → AreFew lists → AreFew (drop 1 lists)
few_rest [] h = tt
few_rest (l ∷ lists) h = h.1

few_after : (lines : List Signal) (f : Feeds) → AreFew f.values → AreFew (feeds_after (signals_of lines) f).values
few_after [] f h = h
few_after (s ∷ lines) f h = few_after lines (rest_of f) (few_rest f.values h)

signals_few : (lines : List Signal) (f : Feeds) → AreFew f.values
    → AllByRecursion (λ (s : Signal). AreFewTexts s.values) (signals_from (signals_of lines) f)
signals_few [] f h = tt
signals_few (s ∷ lines) f h = (few_first f.values h, signals_few lines (rest_of f) (few_rest f.values h))

tables_few : (tables : List TableLine) → AreFew (entries_of tables)
    → AllByRecursion (λ (t : ValueTable). AreFewTexts t.entries) (map table_of tables)
tables_few [] h = tt
tables_few (t ∷ tables) h = (h.0, tables_few tables h.1)

messages_fit : (lines : List MessageLine) (comments : List (List ℕ)) (f : Feeds) → HaveSignalLines lines
    → AreFew f.values → AllByRecursion IsFit (messages_from (map message_of lines) comments f)
messages_fit [] comments f h few = tt
messages_fit (m ∷ lines) comments f h few =
    let signals = m.signals.items in
    let made = signals_from (signals_of signals) f in
    let keys = signal_keys (own_offsets m) signals m.offsets.items f in
    let marks = signal_marks (own_offsets m) signals m.offsets.items f in (
      record {
        together = record {
          apart = distinct_too bytes_eq (λ (s : Described). s.signal.name) signal_name (described m) made keys
              h.0.names.apart;
          one_multiplexor = distinct_too (λ (a b : Mux). is_multiplexor a && is_multiplexor b)
              (λ (s : Described). s.signal.mux) (λ (s : Signal). s.mux) (described m) made marks h.0.one_multiplexor;
          few = subst (λ n. n ≤ roster_limit)
              (sym (as_many bytes_eq (λ (s : Described). s.signal.name) signal_name (described m) made keys))
              h.0.names.few;
        };
        values = signals_few signals f few;
      },
      messages_fit lines (drop 1 comments) (feeds_after (signals_of signals) f) h.1 (few_after signals f few),
    )

pub can_be_sheet : (g : Gathered) → AreDefined g → AreFew g.signal_values → CanBeSheet g
can_be_sheet g are values =
    let nodes = are.nodes in
    let tables = are.tables in
    let messages = are.messages in
    let node_list = nodes_from (names_of g.nodes) g.node_comments in
    let message_list = messages_from (map message_of g.messages) g.message_comments (feeds_in g) in
    let node_equal = node_keys g.nodes g.node_comments in
    let name_equal = message_keys g.messages g.message_comments (feeds_in g) in
    record {
      nodes = record {
        apart = distinct_too bytes_eq (λ (n : NodeName). n.name) node_name g.nodes node_list node_equal nodes.apart;
        few = subst (λ n. n ≤ roster_limit)
            (sym (as_many bytes_eq (λ (n : NodeName). n.name) node_name g.nodes node_list node_equal)) nodes.few;
      };
      tables = record {
        together = record {
          apart = distinct_too bytes_eq (λ (t : TableLine). t.name) table_name g.tables (map table_of g.tables)
              (table_keys g.tables) tables.apart;
          few = subst (λ n. n ≤ roster_limit) (sym (length-map g.tables table_of)) tables.few;
        };
        entries = tables_few g.tables are.entries;
      };
      messages = messages_fit g.messages g.message_comments (feeds_in g) messages.signals values;
      together = record {
        numbers = distinct_too nat_eq line_number number_of g.messages message_list
            (message_numbers g.messages g.message_comments (feeds_in g)) messages.numbers.apart;
        names = distinct_too bytes_eq (λ (m : MessageLine). m.name) message_name g.messages message_list name_equal
            messages.names.apart;
        few = subst (λ n. n ≤ message_limit)
            (sym (as_many bytes_eq (λ (m : MessageLine). m.name) message_name g.messages message_list name_equal))
            messages.names.few;
      };
    }

-- Where it can be in one sheet, no definition is at fault.

named_within : {A B : Type 0} (f : A → List ℕ) (g : B → List ℕ) (limit : ℕ) (xs : List A) (ys : List B)
    → map f xs ≡ map g ys → IsDistinct (λ a b. bytes_eq (f a) (f b)) xs → length xs ≤ limit
    → AreNamedWithin g limit ys
named_within f g limit xs ys same apart few = record {
  apart = distinct_too bytes_eq f g xs ys (sym same) apart;
  few = subst (λ n. n ≤ limit) (sym (as_many bytes_eq f g xs ys (sym same))) few;
}

entries_few : (tables : List TableLine)
    → AllByRecursion (λ (t : ValueTable). AreFewTexts t.entries) (map table_of tables) → AreFew (entries_of tables)
entries_few [] h = tt
entries_few (t ∷ tables) h = (h.0, entries_few tables h.1)

signals_described : (lines : List MessageLine) (comments : List (List ℕ)) (f : Feeds)
    → AllByRecursion IsFit (messages_from (map message_of lines) comments f) → HaveSignalLines lines
signals_described [] comments f h = tt
signals_described (m ∷ lines) comments f h =
    let signals = m.signals.items in
    let made = signals_from (signals_of signals) f in
    let marks = signal_marks (own_offsets m) signals m.offsets.items f in (
      record {
        names = named_within signal_name (λ (s : Described). s.signal.name) roster_limit made (described m)
            (signal_keys (own_offsets m) signals m.offsets.items f) h.0.together.apart h.0.together.few;
        one_multiplexor = distinct_too (λ (a b : Mux). is_multiplexor a && is_multiplexor b) (λ (s : Signal). s.mux)
            (λ (s : Described). s.signal.mux) made (described m) (sym marks) h.0.together.one_multiplexor;
      },
      signals_described lines (drop 1 comments) (feeds_after (signals_of signals) f) h.1,
    )

pub defined_if_sheet : (g : Gathered) → CanBeSheet g → AreDefined g
defined_if_sheet g h =
    let node_list = nodes_from (names_of g.nodes) g.node_comments in
    let message_list = messages_from (map message_of g.messages) g.message_comments (feeds_in g) in
    record {
      nodes = named_within node_name (λ (n : NodeName). n.name) roster_limit node_list g.nodes
          (node_keys g.nodes g.node_comments) h.nodes.apart h.nodes.few;
      tables = named_within table_name (λ (t : TableLine). t.name) roster_limit (map table_of g.tables) g.tables
          (table_keys g.tables) h.tables.together.apart h.tables.together.few;
      messages = record {
        numbers = record {
          apart = distinct_too nat_eq number_of line_number message_list g.messages
              (sym (message_numbers g.messages g.message_comments (feeds_in g))) h.together.numbers;
          few = subst (λ n. n ≤ message_limit)
              (sym (as_many nat_eq number_of line_number message_list g.messages
              (sym (message_numbers g.messages g.message_comments (feeds_in g))))) h.together.few;
        };
        names = named_within message_name (λ (m : MessageLine). m.name) message_limit message_list g.messages
            (message_keys g.messages g.message_comments (feeds_in g)) h.together.names h.together.few;
        signals = signals_described g.messages g.message_comments (feeds_in g) h.messages;
      };
      entries = entries_few g.tables h.tables.entries;
    }
