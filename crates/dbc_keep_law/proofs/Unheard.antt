-- Statements that are passed over say nothing: without them, or some of them, the others say the same sheet.
use Rattle.dbc_keep_law.proofs.Common.{◌≡◌, ◌==◌, ℕ, Bool, true, false, not, ◌||◌, List, [], ◌∷◌, ◌++◌, map, filter}
use Rattle.dbc_keep_law.proofs.Common.{Option, Some, None, unwrap_or, if◌then◌else◌, refl, sym, ap, subst, ◌∙◌}
use Rattle.dbc_keep_law.proofs.Common.{IsPermutation, arith, AllByRecursion, cons_option, flat_map, last_or, list_any}
use Rattle.dbc_keep_law.proofs.Common.{bytes_eq, and_from, and_parts, eqb-true, nat_tests, bytes_eq-Decides, dbc_number}
use Rattle.dbc_keep_law.proofs.Common.{Sheet, Integer, Content, VersionIs, NodesAre, TableIs, MessageIs, CommentIs}
use Rattle.dbc_keep_law.proofs.Common.{NodeCommentIs, MessageCommentIs, SignalCommentIs, ValueTextsAre, ValueTypeIs}
use Rattle.dbc_keep_law.proofs.Common.{SpnIs, MessageLine, SignalLine, Statement}
use Rattle.std.proofs.Common.{nat_eq}
use Rattle.dbc_grammar.specs.Saying.{
  SignalKey,
  Says,
  comment_in,
  each_in,
  has_message,
  has_node,
  has_signal,
  is_passed,
  keys_of,
  last_at,
  message_comment_in,
  message_in,
  messages_of,
  node_comment_in,
  node_names_of,
  nodes_in,
  same_signal,
  signal_comment_in,
  signal_keys_of,
  spn_in,
  table_in,
  value_texts_in,
  value_type_in,
  version_in,
  whole_message,
  whole_node,
  whole_signal,
}

-- the statements without those of some contents
abbrev pub heard : (Content → Bool) → List Statement → List Statement
heard gone ss = filter (λ (s : Statement). not (gone s.content)) ss

-- ---- one kind, of which those contents say nothing

module _ {X : Type 0} (kind : Content → Option X) (gone : Content → Bool)
    (none : (c : Content) → gone c ≡ true → kind c ≡ None) where
  silent_by : (s : Statement) (ss : List Statement) (b : Bool) → gone s.content ≡ b
      → each_in kind (heard gone ss) ≡ each_in kind ss
      → each_in kind (heard gone (s ∷ ss)) ≡ each_in kind (s ∷ ss)
  silent_by s ss true e more = rw e (more ∙ ap (λ o. cons_option o (each_in kind ss)) (sym (none s.content e)))
  silent_by s ss false e more = rw e (ap (λ xs. cons_option (kind s.content) xs) more)

  pub silent : (ss : List Statement) → each_in kind (heard gone ss) ≡ each_in kind ss
  silent [] = refl
  silent (s ∷ ss) = silent_by s ss (gone s.content) refl (silent ss)

-- ---- one kind, of which those contents say something of other keys alone

abbrev Apart : {K V : Type 0} → (K → K → Bool) → K → Option (K × V) → Type 0
Apart same key None = Unit {0}
Apart same key (Some p) = same p.0 key ≡ false

module _ {K V : Type 0} (same : K → K → Bool) (key : K) (kind : Content → Option (K × V)) (gone : Content → Bool)
    (apart : (c : Content) → gone c ≡ true → Apart same key (kind c)) where
  abbrev last_of : Option V → List Statement → Option V
  last_of o ss = last_at same key o (each_in kind ss)

  skipped : (o : Option V) (x : Option (K × V)) (xs : List (K × V)) → Apart same key x
      → last_at same key o xs ≡ last_at same key o (cons_option x xs)
  skipped o None xs h = refl
  skipped o (Some p) xs h = sym (ap (λ b. last_at same key (if b then Some p.1 else o) xs) h)

  both : (x : Option (K × V)) (xs ys : List (K × V)) → ((o : Option V) → last_at same key o xs ≡ last_at same key o ys)
      → (o : Option V)
      → last_at same key o (cons_option x xs) ≡ last_at same key o (cons_option x ys)
  both None xs ys h o = h o
  both (Some p) xs ys h o = h (if same p.0 key then Some p.1 else o)

  keyed_by : (s : Statement) (ss : List Statement) (b : Bool) → gone s.content ≡ b
      → ((o : Option V) → last_of o (heard gone ss) ≡ last_of o ss)
      → (o : Option V) → last_of o (heard gone (s ∷ ss)) ≡ last_of o (s ∷ ss)
  keyed_by s ss true e more o = rw e (more o ∙ skipped o (kind s.content) (each_in kind ss) (apart s.content e))
  keyed_by s ss false e more o = rw e (both (kind s.content) (each_in kind (heard gone ss)) (each_in kind ss) more o)

  keyed : (ss : List Statement) (o : Option V) → last_of o (heard gone ss) ≡ last_of o ss
  keyed [] o = refl
  keyed (s ∷ ss) o = keyed_by s ss (gone s.content) refl (keyed ss) o

-- ---- what a passed content says

false_by : {K : Type 0} (has : K → Bool) (same : K → K → Bool) → ((a b : K) → same a b ≡ true → a ≡ b) → (x key : K)
    → not (has x) ≡ true → has key ≡ true
    → same x key ≡ false
false_by has same equal x key h there = by_answer (same x key) refl
  where
    by_answer : (b : Bool) → same x key ≡ b → same x key ≡ false
    by_answer false e = e
    by_answer true e =
        let x_there : has x ≡ true = ap has (equal x key e) ∙ there in
        let no : not true ≡ true = subst (λ b. not b ≡ true) x_there h in
        absurd cc

names_equal : (a b : List ℕ) → bytes_eq a b ≡ true → a ≡ b
names_equal a b e = (bytes_eq-Decides a b).0 e

numbers_equal : (a b : ℕ) → nat_eq a b ≡ true → a ≡ b
numbers_equal a b e = eqb-true a b e

keys_equal : (a b : SignalKey) → same_signal a b ≡ true → a ≡ b
keys_equal a b e =
    let parts = and_parts (a.0 == b.0) (bytes_eq a.1 b.1) e in
    let number = eqb-true a.0 b.0 parts.0 in
    let name = names_equal a.1 b.1 parts.1 in
    λ i. (number i, name i)

module _ (ss : List Statement) where
  no_version_in : (c : Content) → is_passed ss c ≡ true → version_in c ≡ None
  no_version_in (VersionIs t) h = absurd cc
  no_version_in c h = refl

  no_comment_in : (c : Content) → is_passed ss c ≡ true → comment_in c ≡ None
  no_comment_in (CommentIs t) h = absurd cc
  no_comment_in c h = refl

  no_nodes_in : (c : Content) → is_passed ss c ≡ true → nodes_in c ≡ None
  no_nodes_in (NodesAre ns) h = absurd cc
  no_nodes_in c h = refl

  no_table_in : (c : Content) → is_passed ss c ≡ true → table_in c ≡ None
  no_table_in (TableIs n es) h = absurd cc
  no_table_in c h = refl

  no_message_in : (c : Content) → is_passed ss c ≡ true → message_in c ≡ None
  no_message_in (MessageIs m) h = absurd cc
  no_message_in c h = refl

  apart_node_comment_in : (key : List ℕ) → has_node ss key ≡ true → (c : Content) → is_passed ss c ≡ true
      → Apart bytes_eq key (node_comment_in c)
  apart_node_comment_in key there (NodeCommentIs n t) h = false_by (has_node ss) bytes_eq names_equal n key h there
  apart_node_comment_in key there c h = tt

  apart_message_comment_in : (key : ℕ) → has_message ss (Some key) ≡ true → (c : Content) → is_passed ss c ≡ true
      → Apart nat_eq key (message_comment_in c)
  apart_message_comment_in key there (MessageCommentIs (Some n) t) h =
      false_by (λ k. has_message ss (Some k)) nat_eq numbers_equal n key h there
  apart_message_comment_in key there c h = tt

  apart_signal_comment_in : (key : SignalKey) → has_signal ss (Some key.0) key.1 ≡ true → (c : Content)
      → is_passed ss c ≡ true → Apart same_signal key (signal_comment_in c)
  apart_signal_comment_in key there (SignalCommentIs (Some m) n t) h =
      false_by (λ (k : SignalKey). has_signal ss (Some k.0) k.1) same_signal keys_equal (m, n) key h there
  apart_signal_comment_in key there c h = tt

  apart_value_texts_in : (key : SignalKey) → has_signal ss (Some key.0) key.1 ≡ true → (c : Content)
      → is_passed ss c ≡ true → Apart same_signal key (value_texts_in c)
  apart_value_texts_in key there (ValueTextsAre (Some m) n vs) h =
      false_by (λ (k : SignalKey). has_signal ss (Some k.0) k.1) same_signal keys_equal (m, n) key h there
  apart_value_texts_in key there c h = tt

  apart_value_type_in : (key : SignalKey) → has_signal ss (Some key.0) key.1 ≡ true → (c : Content)
      → is_passed ss c ≡ true → Apart same_signal key (value_type_in c)
  apart_value_type_in key there (ValueTypeIs (Some m) n v) h =
      false_by (λ (k : SignalKey). has_signal ss (Some k.0) k.1) same_signal keys_equal (m, n) key h there
  apart_value_type_in key there c h = tt

  apart_spn_in : (key : SignalKey) → has_signal ss (Some key.0) key.1 ≡ true → (c : Content) → is_passed ss c ≡ true
      → Apart same_signal key (spn_in c)
  apart_spn_in key there (SpnIs (Some m) n p) h =
      false_by (λ (k : SignalKey). has_signal ss (Some k.0) k.1) same_signal keys_equal (m, n) key h there
  apart_spn_in key there c h = tt

-- ---- what is cited is there

or_true : (b : Bool) → (b || true) ≡ true
or_true true = refl
or_true false = refl

module _ {K : Type 0} (eq : K → K → Bool) (itself : (k : K) → eq k k ≡ true) where
  abbrev pub AreIn : List K → List K → Type 0
  AreIn xs ys = AllByRecursion (λ k. list_any (λ n. eq n k) xs ≡ true) ys

  weaken : (x : K) (xs ys : List K) → AreIn xs ys → AreIn (x ∷ xs) ys
  weaken x xs [] h = tt
  weaken x xs (y ∷ ys) h = (rw h.0 (or_true (eq x y)), weaken x xs ys h.1)

  pub present : (xs : List K) → AreIn xs xs
  present [] = tt
  present (x ∷ xs) = (rw (itself x) refl, weaken x xs xs (present xs))

pub name_itself : (bs : List ℕ) → bytes_eq bs bs ≡ true
name_itself bs = (bytes_eq-Decides bs bs).1 refl

pub number_itself : (n : ℕ) → n == n ≡ true
number_itself n = grind (arith, nat_tests)

pub key_itself : (k : SignalKey) → same_signal k k ≡ true
key_itself k = and_from (k.0 == k.0) (bytes_eq k.1 k.1) (number_itself k.0) (name_itself k.1)

module _ {A B : Type 0} (P : B → Type 0) where
  pub all_of_map : (f : A → B) (xs : List A) → AllByRecursion P (map f xs) → AllByRecursion (λ x. P (f x)) xs
  all_of_map f [] h = tt
  all_of_map f (x ∷ xs) h = (h.0, all_of_map f xs h.1)

pub all_of_append : {A : Type 0} (P : A → Type 0) (xs ys : List A) → AllByRecursion P (xs ++ ys)
    → AllByRecursion P xs × AllByRecursion P ys
all_of_append P [] ys h = (tt, h)
all_of_append P (x ∷ xs) ys h = let others = all_of_append P xs ys h.1 in ((h.0, others.0), others.1)

map_same : {A B : Type 0} (P : A → Type 0) (f g : A → B) → ((x : A) → P x → f x ≡ g x) → (xs : List A)
    → AllByRecursion P xs → map f xs ≡ map g xs
map_same P f g same [] h = refl
map_same P f g same (x ∷ xs) h = λ i. same x h.0 i ∷ map_same P f g same xs h.1 i

-- ---- the whole

module _ (ss : List Statement) (gone : Content → Bool)
    (only : (c : Content) → gone c ≡ true → is_passed ss c ≡ true) where
  abbrev hs : List Statement
  hs = heard gone ss

  quiet : {X : Type 0} (kind : Content → Option X) → ((c : Content) → is_passed ss c ≡ true → kind c ≡ None)
      → each_in kind hs ≡ each_in kind ss
  quiet kind none = silent kind gone (λ c e. none c (only c e)) ss

  pub same_names : node_names_of hs ≡ node_names_of ss
  same_names = ap (flat_map (λ (names : List (List ℕ)). names)) (quiet nodes_in (no_nodes_in ss))

  pub same_messages : messages_of hs ≡ messages_of ss
  same_messages = quiet message_in (no_message_in ss)

  same_node : (name : List ℕ) → has_node ss name ≡ true → whole_node hs name ≡ whole_node ss name
  same_node name there =
      let q = keyed bytes_eq name node_comment_in gone
      (λ c e. apart_node_comment_in ss name there c (only c e)) ss None in
      λ i. record { name = name; comment = unwrap_or (q i) [] }

  abbrev IsThere : ℕ → SignalLine → Type 0
  IsThere number line = has_signal ss (Some number) line.name ≡ true

  same_signal_whole : (number : ℕ) (line : SignalLine) → IsThere number line
      → whole_signal hs number line ≡ whole_signal ss number line
  same_signal_whole number line there =
      let key : SignalKey = (number, line.name) in
      let c = keyed same_signal key signal_comment_in gone
      (λ c e. apart_signal_comment_in ss key there c (only c e)) ss None in
      let p = keyed same_signal key spn_in gone (λ c e. apart_spn_in ss key there c (only c e)) ss None in
      let v = keyed same_signal key value_texts_in gone
      (λ c e. apart_value_texts_in ss key there c (only c e)) ss None in
      let t = keyed same_signal key value_type_in gone (λ c e. apart_value_type_in ss key there c (only c e)) ss None in
      λ i. record {
        name = line.name;
        layout = line.layout;
        signed = line.signed;
        mux = line.mux;
        factor = line.factor;
        offset = line.offset;
        minimum = line.minimum;
        maximum = line.maximum;
        unit = line.unit;
        receivers = line.receivers;
        comment = unwrap_or (c i) [];
        spn = unwrap_or (p i) 0;
        values = unwrap_or (v i) [];
        value_type = unwrap_or (t i) Integer;
      }

  pub record AreThere (line : MessageLine) : Type 0 where
    pub message : has_message ss (Some (dbc_number line.ident)) ≡ true
    pub signals : AllByRecursion (IsThere (dbc_number line.ident)) line.signals

  same_message : (line : MessageLine) → AreThere line → whole_message hs line ≡ whole_message ss line
  same_message line there =
      let number = dbc_number line.ident in
      let q = keyed nat_eq number message_comment_in gone
      (λ c e. apart_message_comment_in ss number there.message c (only c e)) ss None in
      let signals = map_same (IsThere number) (whole_signal hs number) (whole_signal ss number)
      (same_signal_whole number) line.signals there.signals in
      λ i. record {
        ident = line.ident;
        name = line.name;
        length = line.length;
        transmitter = line.transmitter;
        comment = unwrap_or (q i) [];
        signals = signals i;
      }

  names_there : AllByRecursion (λ n. has_node ss n ≡ true) (node_names_of ss)
  names_there = present bytes_eq name_itself (node_names_of ss)

  -- of some of the messages, whose numbers and keys are there
  messages_there : (ms : List MessageLine)
      → AllByRecursion (λ n. has_message ss (Some n) ≡ true) (map (λ (m : MessageLine). dbc_number m.ident) ms)
      → AllByRecursion (λ (k : SignalKey). has_signal ss (Some k.0) k.1 ≡ true) (flat_map keys_of ms)
      → AllByRecursion AreThere ms
  messages_there [] numbers keys = tt
  messages_there (m ∷ ms) numbers keys =
      let number = dbc_number m.ident in
      let parts = all_of_append (λ (k : SignalKey). has_signal ss (Some k.0) k.1 ≡ true) (keys_of m)
      (flat_map keys_of ms) keys in
      let signals = all_of_map (λ (k : SignalKey). has_signal ss (Some k.0) k.1 ≡ true)
      (λ (s : SignalLine). (number, s.name)) m.signals parts.0 in
      (record { message = numbers.0; signals = signals }, messages_there ms numbers.1 parts.1)

  all_there : AllByRecursion AreThere (messages_of ss)
  all_there =
      messages_there (messages_of ss)
      (present (λ a b. a == b) number_itself (map (λ (m : MessageLine). dbc_number m.ident) (messages_of ss)))
      (present same_signal key_itself (signal_keys_of ss))

  nodes_same : map (whole_node hs) (node_names_of hs) ≡ map (whole_node ss) (node_names_of ss)
  nodes_same =
      ap (map (whole_node hs)) same_names
      ∙ map_same (λ n. has_node ss n ≡ true) (whole_node hs) (whole_node ss) same_node
      (node_names_of ss) names_there

  messages_same : map (whole_message hs) (messages_of hs) ≡ map (whole_message ss) (messages_of ss)
  messages_same =
      ap (map (whole_message hs)) same_messages
      ∙ map_same AreThere (whole_message hs) (whole_message ss) same_message (messages_of ss) all_there

  last_same : {V : Type 0} (v : V) (kind : Content → Option V) → ((c : Content) → is_passed ss c ≡ true → kind c ≡ None)
      → unwrap_or (last_or None (each_in kind hs)) v ≡ unwrap_or (last_or None (each_in kind ss)) v
  last_same v kind none = ap (λ xs. unwrap_or (last_or None xs) v) (quiet kind none)

  -- all of them say what the others say
  pub says_with : (s : Sheet) → Says hs s → Says ss s
  says_with s h = record {
    is_sheet = h.is_sheet;
    version = h.version ∙ last_same [] version_in (no_version_in ss);
    comment = h.comment ∙ last_same [] comment_in (no_comment_in ss);
    nodes = h.nodes ∙ nodes_same;
    tables = h.tables ∙ quiet table_in (no_table_in ss);
    messages = subst (λ ms. IsPermutation ms s.messages) messages_same h.messages;
  }

  -- and the others what all of them say
  pub says_without : (s : Sheet) → Says ss s → Says hs s
  says_without s h = record {
    is_sheet = h.is_sheet;
    version = h.version ∙ sym (last_same [] version_in (no_version_in ss));
    comment = h.comment ∙ sym (last_same [] comment_in (no_comment_in ss));
    nodes = h.nodes ∙ sym nodes_same;
    tables = h.tables ∙ sym (quiet table_in (no_table_in ss));
    messages = subst (λ ms. IsPermutation ms s.messages) (sym messages_same) h.messages;
  }
