-- Entries, one for each node, each message or each signal of a well-formed sheet, in order and without empty ones, say
-- of each its own value.
use Rattle.dbc_grammar.proofs.Common.{◌≡◌, ◌&&◌, ◌++◌, ◌∙◌, ℕ, Bool, true, false, List, [], ◌∷◌, map, refl, sym, ap}
use Rattle.dbc_grammar.proofs.Common.{subst, arith, AllByRecursion, flat_map, bytes_eq, nat_tests, bytes_eq-Decides}
use Rattle.dbc_grammar.proofs.Common.{bytes_eq-flip, number_of, IsWellFormed, Message, Sheet}
use Rattle.std.proofs.Common.{nat_eq}
use Rattle.std.specs.List.{IsDistinct}
use Rattle.dbc_grammar.specs.Saying.{SignalKey, same_signal}
use Rattle.dbc_sheet.specs.Sheet.{node_name}
use Rattle.dbc_sheet.specs.declared.node.Node.{Node}
use Rattle.dbc_sheet.specs.declared.signal.Signal.{Signal}
use Rattle.dbc_grammar.proofs.EachStated.{each_stated, kept_entries, keys, last_value}
use Rattle.dbc_grammar.proofs.AscendingUnique.{distinct_if_ascending}
use Rattle.dbc_grammar.proofs.SignalKeys.{sheet_keys_distinct}

pub nat_itself : (n : ℕ) → nat_eq n n ≡ true
nat_itself n = grind (arith, nat_tests)

pub nat_flip : (m n : ℕ) → nat_eq m n ≡ nat_eq n m
nat_flip m n = grind (arith, nat_tests)

pub bytes_itself : (bs : List ℕ) → bytes_eq bs bs ≡ true
bytes_itself bs = (bytes_eq-Decides bs bs).1 refl

pub signal_itself : (k : SignalKey) → same_signal k k ≡ true
signal_itself k = ap (λ b. b && bytes_eq k.1 k.1) (nat_itself k.0) ∙ bytes_itself k.1

pub signal_flip : (j k : SignalKey) → same_signal j k ≡ same_signal k j
signal_flip j k = λ i. nat_flip j.0 k.0 i && bytes_eq-flip j.1 k.1 i

module _ {A K V : Type 0} (key : A → K) (value : A → V) where
  -- what entries say of each thing in a list, in order
  abbrev pub entries : List A → List (K × V)
  entries xs = map (λ x. (key x, value x)) xs

  keys_before : (xs : List A) (rest : List (K × V)) (ks : List K) → keys rest ≡ ks
      → keys (entries xs ++ rest) ≡ map key xs ++ ks
  keys_before [] rest ks e = e
  keys_before (x ∷ xs) rest ks e = ap (λ js. key x ∷ js) (keys_before xs rest ks e)

  cut : (P : K × V → Type 0) (xs : List A) (rest : List (K × V)) → AllByRecursion P (entries xs ++ rest)
      → AllByRecursion (λ x. P (key x, value x)) xs × AllByRecursion P rest
  cut P [] rest all = (tt, all)
  cut P (x ∷ xs) rest all = let parts = cut P xs rest all.1 in ((all.0, parts.0), parts.1)

  keys-entries : (xs : List A) → keys (entries xs) ≡ map key xs
  keys-entries [] = refl
  keys-entries (x ∷ xs) = ap (λ js. key x ∷ js) (keys-entries xs)

  each_entry : (P : K × V → Type 0) (xs : List A) → AllByRecursion P (entries xs)
      → AllByRecursion (λ x. P (key x, value x)) xs
  each_entry P [] all = tt
  each_entry P (x ∷ xs) all = (all.0, each_entry P xs all.1)

  -- what distinguishes things by their keys distinguishes the keys
  distinct_keys : (same : K → K → Bool) (xs : List A) → IsDistinct (λ x y. same (key x) (key y)) xs
      → IsDistinct same (map key xs)
  unfolding IsDistinct
  distinct_keys same [] apart = tt
  distinct_keys same (x ∷ xs) apart = (by xs apart.0, distinct_keys same xs apart.1)
    where
      by : (ys : List A) → AllByRecursion (λ y. same (key x) (key y) ≡ false) ys
          → AllByRecursion (λ k. same (key x) k ≡ false) (map key ys)
      by [] all = tt
      by (y ∷ ys) all = (all.0, by ys all.1)

module _ {M S K V : Type 0} (parts : M → List S) (key : M → S → K) (value : S → V) where
  -- what entries say of each part of each thing in a list, in order
  abbrev pub part_entries : List M → List (K × V)
  part_entries ms = flat_map (λ m. entries (key m) value (parts m)) ms

  keys-part_entries : (ms : List M) → keys (part_entries ms) ≡ flat_map (λ m. map (key m) (parts m)) ms
  keys-part_entries [] = refl
  keys-part_entries (m ∷ ms) = keys_before (key m) value (parts m) _ _ (keys-part_entries ms)

  each_part : (P : K × V → Type 0) (ms : List M) → AllByRecursion P (part_entries ms)
      → AllByRecursion (λ m. AllByRecursion (λ x. P (key m x, value x)) (parts m)) ms
  each_part P [] all = tt
  each_part P (m ∷ ms) all = let here = cut (key m) value P (parts m) _ all in (here.0, each_part P ms here.1)

abbrev pub signal_key : Message → Signal → SignalKey
signal_key m x = (number_of m, x.name)

abbrev pub message_signals : Message → List Signal
message_signals m = m.signals

module _ {V : Type 0} (keep : V → Bool) (d : V) (empty : (v : V) → keep v ≡ false → v ≡ d) (s : Sheet)
    (well : IsWellFormed s) where
  pub nodes_stated : (value : Node → V)
      → AllByRecursion (λ n. last_value bytes_eq d n.name (kept_entries keep (entries node_name value s.nodes))
      ≡ value n) s.nodes
  nodes_stated value =
      each_entry node_name value _ s.nodes
      (each_stated bytes_eq bytes_itself bytes_eq-flip keep d empty (entries node_name value s.nodes)
      (subst (IsDistinct bytes_eq) (sym (keys-entries node_name value s.nodes))
      (distinct_keys node_name value bytes_eq s.nodes well.nodes.apart)))

  pub messages_stated : (value : Message → V)
      → AllByRecursion (λ m. last_value nat_eq d (number_of m) (kept_entries keep (entries number_of value s.messages))
      ≡ value m) s.messages
  messages_stated value =
      let numbers = distinct_keys number_of value nat_eq s.messages
      (distinct_if_ascending number_of s.messages well.together.ascending) in
      each_entry number_of value _ s.messages
      (each_stated nat_eq nat_itself nat_flip keep d empty (entries number_of value s.messages)
      (subst (IsDistinct nat_eq) (sym (keys-entries number_of value s.messages)) numbers))

  pub signals_stated : (value : Signal → V) → AllByRecursion (λ m. AllByRecursion (λ x.
      last_value same_signal d (signal_key m x)
      (kept_entries keep (part_entries message_signals signal_key value s.messages)) ≡ value x) m.signals)
      s.messages
  signals_stated value =
      each_part message_signals signal_key value _ s.messages
      (each_stated same_signal signal_itself signal_flip keep d empty
      (part_entries message_signals signal_key value s.messages)
      (subst (IsDistinct same_signal) (sym (keys-part_entries message_signals signal_key value s.messages))
      (sheet_keys_distinct s well)))
