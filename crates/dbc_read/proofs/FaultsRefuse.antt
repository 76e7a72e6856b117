-- What is gathered with a fault can't be in one sheet.
use Rattle.dbc_read.proofs.Common.{◌≡◌, ◌∙◌, ◌≤◌, ◌+◌, ◌++◌, ◌&&◌, ◌||◌, ◌==◌, ℕ, Bool, true, false, List, [], ◌∷◌}
use Rattle.dbc_read.proofs.Common.{length, length-append, refl, sym, subst, arith, true≢false, AllByRecursion, list_any}
use Rattle.dbc_read.proofs.Common.{bytes_eq, is_multiplexor, message_limit, roster_limit, has_name, AreFewTexts}
use Rattle.dbc_read.proofs.Common.{ValueText, ReadCode, TooMany, ReadFault, MessageLine, NodeName, TableLine}
use Rattle.dbc_grammar.specs.Statement.{Statement}
use Rattle.dbc_lex.specs.declared.fault.ReadCode.TheVariants.{DoubleName, DoubleNumber, TwoMultiplexors}
use Rattle.dbc_read.specs.Built.{CanBeSheet}
use Rattle.dbc_read.specs.Described.{Described, described}
use Rattle.dbc_read.specs.Faults as faults
use Rattle.dbc_read.specs.Faults.{AreDefined, AreMessageLines, AreNamedWithin, AreNumbered, AreSignalLines}
use Rattle.dbc_read.specs.Faults.{HaveOneMultiplexor, HaveSignalLines, IsEntriesFault, IsFault, IsFaultAt}
use Rattle.dbc_read.specs.Faults.{IsFaultOfDefinitions, IsFaultOfMessages, IsFaultOfSignals, IsMultiplexorRefused}
use Rattle.dbc_read.specs.Faults.{IsNameRefused, IsNumberRefused, entries_of, line_number}
use Rattle.dbc_read.specs.Gathered.{AreGathered}
use Rattle.dbc_read.specs.declared.gathered.Gathered.{Gathered}
use Rattle.dbc_read.proofs.Faultless.{defined_if_sheet}
use Rattle.dbc_read.proofs.Refused.{each_middle, none_before}
use Rattle.dbc_read.proofs.SheetsStated.{values_few}

-- an item after as many as the limit is one too many
too_many : {A : Type 0} (limit : ℕ) (before : List A) (item : A) (after : List A) → length before ≡ limit
    → length (before ++ item ∷ after) ≤ limit → ⊥
too_many limit before item after full few =
    let e : length (before ++ item ∷ after) ≡ length before + length (item ∷ after) =
    length-append before (item ∷ after) in
    omega (arith, e, full, few)

none_and_one : (b : Bool) → b ≡ true → b ≡ false → ⊥
none_and_one b one none = true≢false (sym one ∙ none)

name_refused : {A : Type 0} (name : A → List ℕ) (limit : ℕ) (before : List A) (item : A) (after : List A)
    (code : ReadCode) → IsNameRefused name limit before item code
    → AreNamedWithin name limit (before ++ item ∷ after) → ⊥
name_refused name limit before item after TooMany h are = too_many limit before item after h.1 are.few
name_refused {A} name limit before item after DoubleName h are =
    none_and_one (has_name name before (name item)) h.2
    (none_before (λ (a b : A). bytes_eq (name a) (name b)) before item after are.apart)
name_refused name limit before item after code h are = absurd h

number_refused : (before : List MessageLine) (item : MessageLine) (after : List MessageLine) (code : ReadCode)
    → IsNumberRefused before item code → AreNumbered (before ++ item ∷ after) → ⊥
number_refused before item after TooMany h are = too_many message_limit before item after h.1 are.few
number_refused before item after DoubleNumber h are =
    none_and_one (list_any (λ l. line_number l == line_number item) before) h.2
    (none_before (λ (a b : MessageLine). line_number a == line_number b) before item after are.apart)
number_refused before item after code h are = absurd h

and_one : (a b : Bool) → b ≡ true → (a && b) ≡ a
and_one true b e = e
and_one false b e = refl

both_or_first : {A : Type 0} (test : A → Bool) (b : Bool) → b ≡ true → (xs : List A)
    → list_any (λ t. test t && b) xs ≡ list_any test xs
both_or_first test b e [] = refl
both_or_first test b e (x ∷ xs) = λ i. and_one (test x) b e i || both_or_first test b e xs i

multiplexor_refused : (before : List Described) (item : Described) (after : List Described) (code : ReadCode)
    → IsMultiplexorRefused before item code → HaveOneMultiplexor (before ++ item ∷ after) → ⊥
multiplexor_refused before item after TwoMultiplexors h one =
    none_and_one (list_any (λ (t : Described). is_multiplexor t.signal.mux) before) h.2
    (sym (both_or_first (λ (t : Described). is_multiplexor t.signal.mux) (is_multiplexor item.signal.mux) h.1 before)
    ∙ none_before (λ (a b : Described). is_multiplexor a.signal.mux && is_multiplexor b.signal.mux) before item after
    one)
multiplexor_refused before item after code h one = absurd h

name_fault : {A : Type 0} (offset : A → ℕ) (name : A → List ℕ) (limit : ℕ) (items : List A) (fault : ReadFault)
    → IsFaultAt offset (IsNameRefused name limit) items fault → AreNamedWithin name limit items → ⊥
name_fault offset name limit items fault h are =
    name_refused name limit h.before h.item h.after fault.code h.refused (subst (AreNamedWithin name limit) h.parts are)

signals_fault : (signals : List Described) (fault : ReadFault) → IsFaultOfSignals signals fault → AreSignalLines signals
    → ⊥
signals_fault signals fault (faults.signal h) are =
    name_fault (λ (s : Described). s.offsets.at) (λ (s : Described). s.signal.name) roster_limit signals fault h
    are.names
signals_fault signals fault (faults.multiplexor h) are =
    multiplexor_refused h.before h.item h.after fault.code h.refused
    (subst HaveOneMultiplexor h.parts are.one_multiplexor)

messages_fault : (messages : List MessageLine) (fault : ReadFault) → IsFaultOfMessages messages fault
    → AreMessageLines messages → ⊥
messages_fault messages fault (faults.number h) are =
    number_refused h.before h.item h.after fault.code h.refused (subst AreNumbered h.parts are.numbers)
messages_fault messages fault (faults.name h) are =
    name_fault (λ (m : MessageLine). m.name_at) (λ (m : MessageLine). m.name) message_limit messages fault h are.names
messages_fault messages fault (faults.signals h) are =
    signals_fault (described h.line) fault h.is
    (each_middle (λ (m : MessageLine). AreSignalLines (described m)) h.before h.line h.after
    (subst HaveSignalLines h.parts are.signals))

entries_fault : (lists : List (List ValueText)) (fault : ReadFault) → IsEntriesFault lists fault
    → AllByRecursion AreFewTexts lists → ⊥
entries_fault lists fault h are =
    h.many (each_middle AreFewTexts h.before h.entries h.after (subst (AllByRecursion AreFewTexts) h.parts are))

definition_fault : (g : Gathered) (fault : ReadFault) → IsFaultOfDefinitions g fault → AreDefined g → ⊥
definition_fault g fault (faults.node h) are =
    name_fault (λ (n : NodeName). n.at) (λ (n : NodeName). n.name) roster_limit g.nodes fault h are.nodes
definition_fault g fault (faults.table h) are =
    name_fault (λ (t : TableLine). t.at) (λ (t : TableLine). t.name) roster_limit g.tables fault h are.tables
definition_fault g fault (faults.messages h) are = messages_fault g.messages fault h are.messages
definition_fault g fault (faults.table_entries h) are = entries_fault (entries_of g.tables) fault h are.entries

pub refused_fault : (ss : List Statement) (g : Gathered) → AreGathered ss g → (fault : ReadFault) → IsFault g fault
    → ¬ CanBeSheet g
refused_fault ss g gathered fault (faults.definition h) = λ can. definition_fault g fault h (defined_if_sheet g can)
refused_fault ss g gathered fault (faults.value_texts h) =
    λ can. entries_fault g.signal_values fault h (values_few ss g gathered can)
