-- What a network keeps where a file is imported.
use Rattle.office_law.proofs.Common.{◌≡◌, ◌<◌, ◌≤◌, ◌+◌, not, Bool, true, false, cond, ℕ, List, [], ◌∷◌, map, length}
use Rattle.office_law.proofs.Common.{Contains, sym, ap, arith, All, bytes_eq, false≢true, false_from_ne_true, not-true}
use Rattle.office_law.proofs.Common.{or_parts, nat_tests, All-append, All-contains, All-filter, All-from_recursion}
use Rattle.office_law.proofs.Common.{filter_passes, recursion_from_All, list_any_none, IsStrictlySortedBy-filter, put}
use Rattle.office_law.proofs.Common.{Test, All-put, length-put, dbc_number, message_limit, roster_limit, AreNamedApart}
use Rattle.office_law.proofs.Common.{has_name, IsText, apart-filter, IsNode, IsSheet, IsClearMessage, message_name}
use Rattle.office_law.proofs.Common.{number_of, node_name, AreFewTexts, Message, Sheet, sheet_of, Refusal, LiveMessage}
use Rattle.office_law.proofs.Common.{Net, has_ident, is_held, is_live, is_named, live_name, same_ident, imported}
use Rattle.office_law.proofs.Common.{is_too_large, message_import_tests, new_messages, owned_by, IsNet, with_message}
use Rattle.office_law.proofs.Common.{when}
use Rattle.std.specs.Prelude.{nat_lt}
use Rattle.std.specs.List.{IsDistinct}
use Rattle.std.specs.List.Sorted.{IsStrictlySortedBy}
use Rattle.dbc_sheet.specs.Form.{IsTable}
use Rattle.dbc_sheet.specs.Messages.{by_number}
use Rattle.dbc_sheet.specs.Sheet.{table_name}
use Rattle.dbc_sheet.specs.declared.value_table.ValueTable.{ValueTable}
use Rattle.office_types.specs.State.{by_number as live_by_number}
use Rattle.office_types.specs.declared.refusal.Refusal.TheVariants as no
use Rattle.office_rules.specs.Importing.{is_live_so, may_bring, new_named, or_else, widened, with_frame, with_messages}
use Rattle.office_rules.proofs.Widened.{each_and, widened_roster}
use Rattle.office_law.proofs.Idents.{same_ident-true}
use Rattle.office_law.proofs.KeptMessages.{IsNet-joined}
use Rattle.office_law.proofs.Lists.{All-from_contains, All-from_none, Contains-first, Contains-later, after_first}
use Rattle.office_law.proofs.NoTestHolds.{NoneHolds}
use Rattle.office_law.proofs.Sheets.{keeps_message}
use Rattle.office_law.proofs.ChangesByTests.{CanImport, CanJoin}

-- The frame, with what is new in the file.

is_text : (a b : List ℕ) → IsText a → IsText b → IsText (or_else a b)
is_text [] b h k = k
is_text (x ∷ a) b h k = h

IsSheet-widened : (t s : Sheet) → IsSheet t → IsSheet s
    → nat_lt roster_limit (length t.nodes + length (new_named node_name t.nodes s.nodes)) ≡ false
    → nat_lt roster_limit (length t.tables + length (new_named table_name t.tables s.tables)) ≡ false
    → IsSheet (widened t s)
IsSheet-widened t s h k few_nodes few_tables = record {
  well_formed = record {
    nodes = widened_roster node_name t.nodes s.nodes h.well_formed.nodes k.well_formed.nodes few_nodes;
    tables = widened_roster table_name t.tables s.tables h.well_formed.tables k.well_formed.tables few_tables;
    entries = each_and (λ (e : ValueTable). AreFewTexts e.entries) t.tables (new_named table_name t.tables s.tables)
        h.well_formed.entries
        (recursion_from_All _ (new_named table_name t.tables s.tables)
        (All-filter (λ a. not (has_name table_name t.tables (table_name a))) (λ (e : ValueTable). AreFewTexts e.entries)
        s.tables (All-from_recursion _ s.tables k.well_formed.entries)));
    together = h.well_formed.together;
    messages = h.well_formed.messages;
  };
  version = is_text t.version s.version h.version k.version;
  comment = is_text t.comment s.comment h.comment k.comment;
  nodes = All-append IsNode t.nodes (new_named node_name t.nodes s.nodes) h.nodes
      (All-filter (λ a. not (has_name node_name t.nodes (node_name a))) IsNode s.nodes k.nodes);
  tables = All-append IsTable t.tables (new_named table_name t.tables s.tables) h.tables
      (All-filter (λ a. not (has_name table_name t.tables (table_name a))) IsTable s.tables k.tables);
  messages = h.messages;
}

-- what the limits say where none is passed
record Fits (net : Net) (s : Sheet) : Type 0 where
  messages : length net.live + length (new_messages net s.messages) ≤ message_limit
  nodes : nat_lt roster_limit (length net.head.frame.nodes + length (new_named node_name net.head.frame.nodes s.nodes))
      ≡ false
  tables : nat_lt roster_limit
      (length net.head.frame.tables + length (new_named table_name net.head.frame.tables s.tables)) ≡ false

few_enough : (n limit : ℕ) → nat_lt limit n ≡ false → n ≤ limit
few_enough n limit h = grind (arith, nat_tests)

fits : (net : Net) (s : Sheet) → is_too_large net s ≡ false → Fits net s
fits net s h =
    let first = or_parts _ _ h in
    let later = or_parts _ _ first.1 in
    record {
      messages = few_enough (length net.live + length (new_messages net s.messages)) message_limit first.0;
      nodes = later.0;
      tables = later.1;
    }

IsNet-framed : (net : Net) (s : Sheet) → IsNet net → IsSheet s → Fits net s
    → IsNet (with_frame net (widened net.head.frame s))
IsNet-framed net s h k few = record {
  named = h.named;
  head = record { reviewed = h.head.reviewed; submitted = h.head.submitted; frame_alone = h.head.frame_alone };
  live = record {
    sheet = IsSheet-widened (sheet_of net) s h.live.sheet k few.nodes few.tables;
    clear = h.live.clear;
    owned = h.live.owned;
  };
  blocks = h.blocks;
  held = h.held;
  approvals = h.approvals;
  releases = h.releases;
}

-- The new messages, one after the other.

-- a message may still join after another one did
joins_later : (net : Net) (m o : LiveMessage) → CanJoin net o → bytes_eq m.message.name o.message.name ≡ false
    → same_ident m.message.ident o.message.ident ≡ false
    → CanJoin (with_message net m) o
joins_later net m o can names idents = record {
  form = can.form;
  owner = can.owner;
  clear = can.clear;
  unnamed = list_any_none (λ l. bytes_eq (live_name l) o.message.name) (put live_by_number m net.live)
      (All-put (λ l. bytes_eq (live_name l) o.message.name ≡ false) live_by_number m net.live names
      (All-from_none (λ l. bytes_eq (live_name l) o.message.name) net.live can.unnamed));
  new = list_any_none (has_ident o.message.ident) (put live_by_number m net.live)
      (All-put (λ l. has_ident o.message.ident l ≡ false) live_by_number m net.live idents
      (All-from_none (has_ident o.message.ident) net.live can.new));
  free = can.free;
}

other_ident : (m o : Message) → number_of m < number_of o → same_ident m.ident o.ident ≡ false
other_ident m o lt = false_from_ne_true _
    (λ e. let same : number_of m ≡ number_of o = ap dbc_number (same_ident-true m.ident o.ident e) in
    omega (arith, lt, same))

all_joined : (team : List ℕ) (ms : List Message) (net : Net) → IsNet net
    → ((m : Message) → Contains ms m → CanJoin net (owned_by team m)) → AreNamedApart message_name ms
    → IsStrictlySortedBy by_number ms → length net.live + length ms ≤ message_limit
    → IsNet (with_messages net (map (owned_by team) ms))
unfolding IsDistinct IsStrictlySortedBy
all_joined team [] net h can apart ascending few = h
all_joined team (m ∷ ms) net h can apart ascending few =
    let l : length (put live_by_number (owned_by team m) net.live) ≤ length net.live + 1 =
    length-put live_by_number (owned_by team m) net.live in
    all_joined team ms (with_message net (owned_by team m))
    (IsNet-joined net (owned_by team m) h (can m (Contains-first m ms)) (omega (arith, few)))
    (λ o c. joins_later net (owned_by team m) (owned_by team o) (can o (Contains-later m o ms c))
    (All-contains (λ y. bytes_eq m.name y.name ≡ false) ms o (All-from_recursion _ ms apart.0) c)
    (other_ident m o (after_first number_of m ms ascending o c)))
    apart.1 ascending.1 (omega (arith, few, l))

-- the tests of a message that isn't live
later_tests : (b : Bool) (xs ys : List (Test Refusal)) → b ≡ false → NoneHolds (cond b xs ys) → NoneHolds ys
later_tests true xs ys e h = absurd (false≢true (sym e))
later_tests false xs ys e h = h

-- a new message is one of the file's, and no live message has its identifier
pub is_new : (net : Net) (ms : List Message) (m : Message) → Contains (new_messages net ms) m
    → (is_live net m.ident ≡ false) × Contains ms m
is_new net ms m c = (
  not-true _ (All-contains (λ x. not (is_live net x.ident) ≡ true) (new_messages net ms) m
      (filter_passes (λ x. not (is_live net x.ident)) ms) c),
  All-contains (Contains ms) (new_messages net ms) m
      (All-filter (λ x. not (is_live net x.ident)) (Contains ms) ms (All-from_contains (Contains ms) ms (λ x d. d))) c,
)

-- its identifier isn't held, and its name is new
pub is_free : (team : List ℕ) (net : Net) (ms : List Message) (m : Message)
    → All (λ x. NoneHolds (message_import_tests team net x)) ms → Contains (new_messages net ms) m
    → (is_held net m.ident ≡ false) × (is_named net m.name ≡ false)
is_free team net ms m each c =
    let w = is_new net ms m c in
    let passed = later_tests (is_live net m.ident) (when (not (is_live_so net m)) no.IdentTaken ∷ [])
    (when (is_held net m.ident) no.Held ∷ when (is_named net m.name) no.NameTaken
    ∷ when (not (may_bring team net m.ident)) no.OutsideBlock ∷ []) w.0
    (All-contains (λ x. NoneHolds (message_import_tests team net x)) ms m each w.1) in
    (passed.0, passed.1.0)

-- a new message that no test refuses may join
may_join : (team : List ℕ) (net : Net) (s : Sheet) → CanImport team net s → (m : Message)
    → Contains (new_messages net s.messages) m → CanJoin net (owned_by team m)
may_join team net s can m c =
    let w = is_new net s.messages m c in
    let free = is_free team net s.messages m can.each c in
    record {
      form = keeps_message s m can.sheet w.1;
      owner = can.owner;
      clear = All-contains IsClearMessage s.messages m can.clear w.1;
      unnamed = free.1;
      new = w.0;
      free = free.0;
    }

-- a network with a file's messages
pub IsNet-imported : (team : List ℕ) (net : Net) (s : Sheet) → IsNet net → CanImport team net s
    → IsNet (imported team net s)
IsNet-imported team net s h can =
    let few = fits net s can.fits in
    let framed = with_frame net (widened net.head.frame s) in
    all_joined team (new_messages net s.messages) framed (IsNet-framed net s h can.sheet few)
    (λ m c. let join = may_join team net s can m c in
    record {
      form = join.form;
      owner = join.owner;
      clear = join.clear;
      unnamed = join.unnamed;
      new = join.new;
      free = join.free;
    })
    (apart-filter message_name (λ m. not (is_live net m.ident)) s.messages can.sheet.well_formed.together.apart)
    (IsStrictlySortedBy-filter by_number (λ m. not (is_live net m.ident)) s.messages
    can.sheet.well_formed.together.ascending)
    few.messages
