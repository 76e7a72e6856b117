-- A kept text reads as its sheet.
use Rattle.dbc_keep_law.proofs.Common.{◌≡◌, ◌==◌, ℕ, Bool, true, false, not, List, [], ◌∷◌, ◌++◌, map, filter, Option}
use Rattle.dbc_keep_law.proofs.Common.{Some, None, if◌then◌else◌, refl, sym, ap, subst, ◌∙◌, append-nil, AllByRecursion}
use Rattle.dbc_keep_law.proofs.Common.{filter_map, flat_map, list_any, bytes_eq, IsSheet, number_of, Version, Node}
use Rattle.dbc_keep_law.proofs.Common.{Sheet, ValueText, ValueType, Part, SignalKey, Says, each_in, is_passed}
use Rattle.dbc_keep_law.proofs.Common.{message_in, nodes_in, passed_by, has_message, has_signal, same_signal, keys_of}
use Rattle.dbc_keep_law.proofs.Common.{Cited, Content, VersionIs, NodesAre, TableIs, MessageIs, CommentIs}
use Rattle.dbc_keep_law.proofs.Common.{NodeCommentIs, MessageCommentIs, SignalCommentIs, ValueTextsAre, ValueTypeIs}
use Rattle.dbc_keep_law.proofs.Common.{SpnIs, Dropped, PassedOver, MessageLine, Statement, dbc_number}
use Rattle.dbc_keep_law.proofs.Common.{divisions_are_parts, contents_of, node_names, each_in-contents}
use Rattle.dbc_words.specs.ValueType.{value_type_number}
use Rattle.dbc_sheet.specs.declared.message.Message.{Message}
use Rattle.dbc_sheet.specs.declared.signal.Signal.{Signal}
use Rattle.dbc_grammar.specs.Reads.{Reads, ReadsAs, ReadsAsOneAtMost}
use Rattle.dbc_law.proofs.Contents as sheet_contents
use Rattle.dbc_law.proofs.Contents.{contents}
use Rattle.dbc_law.proofs.Saying.{contents_say}
use Rattle.dbc_keep_law.specs.Kept.{kept_text, place_of}
use Rattle.dbc_keep_law.specs.Law.{Keeps, KeepsSheet}
use Rattle.dbc_keep_law.specs.Passages.{Passage, passage_of, statements_of}
use Rattle.dbc_keep_law.proofs.FramedStatements.{CanPass}
use Rattle.dbc_keep_law.proofs.KeptDivides.{contents_at, kept_contents, kept_divides, passages}
use Rattle.dbc_keep_law.proofs.KeptSays.{
  Agree,
  Strip,
  ◌and_also◌,
  all_gone,
  all_kept,
  contents_decide,
  drop,
  heard_contents,
  key_in,
  keys_of_sheet,
  message_there,
  node_there,
  passed_agree,
  says_agree,
  sheet_passed,
  signal_there,
}
use Rattle.dbc_keep_law.proofs.Standing.{Entry, Stands, entry_of, parts_stand}
use Rattle.dbc_keep_law.proofs.Unheard.{all_of_append, all_of_map, heard, key_itself, name_itself, number_itself}
use Rattle.dbc_keep_law.proofs.Unheard.{present, says_with, says_without, silent}

-- ---- what a sheet's lines cite is there

module _ (s : Sheet) where
  nodes_there : AllByRecursion (λ (n : Node). node_there s n.name ≡ true) s.nodes
  nodes_there =
      all_of_map (λ k. list_any (λ n. bytes_eq n k) (node_names s) ≡ true) (λ (n : Node). n.name) s.nodes
      (present bytes_eq name_itself (node_names s))

  record AreThere (m : Message) : Type 0 where
    message : message_there s (Some (number_of m)) ≡ true
    signals : AllByRecursion (λ (x : Signal). signal_there s (Some (number_of m)) x.name ≡ true) m.signals

  there_in : (ms : List Message) → AllByRecursion (λ n. message_there s (Some n) ≡ true) (map number_of ms)
      → AllByRecursion (λ (k : SignalKey). list_any (λ key. same_signal key k) (keys_of_sheet s) ≡ true)
      (flat_map (λ (m : Message). map (key_in (number_of m)) m.signals) ms)
      → AllByRecursion AreThere ms
  there_in [] numbers keys = tt
  there_in (m ∷ ms) numbers keys =
      let parts = all_of_append (λ (k : SignalKey). list_any (λ key. same_signal key k) (keys_of_sheet s) ≡ true)
      (map (key_in (number_of m)) m.signals) _ keys in
      let signals = all_of_map (λ (k : SignalKey). list_any (λ key. same_signal key k) (keys_of_sheet s) ≡ true)
      (key_in (number_of m)) m.signals parts.0 in
      (record { message = numbers.0; signals = signals }, there_in ms numbers.1 parts.1)

  messages_there : AllByRecursion AreThere s.messages
  messages_there = there_in s.messages (present (λ a b. a == b) number_itself (map number_of s.messages))
      (present same_signal key_itself (keys_of_sheet s))

-- ---- something that holds of each content of a section

pub all_append : {A : Type 0} (P : A → Type 0) (xs ys : List A) → AllByRecursion P xs → AllByRecursion P ys
    → AllByRecursion P (xs ++ ys)
all_append P [] ys h k = k
all_append P (x ∷ xs) ys h k = (h.0, all_append P xs ys h.1 k)

all_flat : {A B : Type 0} (Q : A → Type 0) (P : B → Type 0) (f : A → List B) → ((x : A) → Q x → AllByRecursion P (f x))
    → (xs : List A) → AllByRecursion Q xs
    → AllByRecursion P (flat_map f xs)
all_flat Q P f each [] h = tt
all_flat Q P f each (x ∷ xs) h = all_append P (f x) (flat_map f xs) (each x h.0) (all_flat Q P f each xs h.1)

module _ (P : Content → Type 0) where
  pub of_each : {A : Type 0} (f : A → Content) → ((x : A) → P (f x)) → (xs : List A) → AllByRecursion P (map f xs)
  of_each f h [] = tt
  of_each f h (x ∷ xs) = (h x, of_each f h xs)

  pub of_comments : (says : List ℕ → Content) → ((t : List ℕ) → P (says t)) → (t : List ℕ)
      → AllByRecursion P (sheet_contents.comments says t)
  of_comments says h [] = tt
  of_comments says h (b ∷ bs) = (h (b ∷ bs), tt)

  of_unless : (b : Bool) (c : Content) → P c → AllByRecursion P (if b then [] else (c ∷ []))
  of_unless true c h = tt
  of_unless false c h = (h, tt)

  of_if : (b : Bool) (c : Content) → P c → AllByRecursion P (if b then c ∷ [] else [])
  of_if true c h = (h, tt)
  of_if false c h = tt

  of_texts : (number : ℕ) (name : List ℕ) → ((vs : List ValueText) → P (ValueTextsAre (Some number) name vs))
      → (vs : List ValueText)
      → AllByRecursion P (sheet_contents.texts number name vs)
  of_texts number name h [] = tt
  of_texts number name h (v ∷ vs) = (h (v ∷ vs), tt)

  module _ (s : Sheet)
      (node : (name t : List ℕ) → node_there s name ≡ true → P (NodeCommentIs name t))
      (message : (n : ℕ) (t : List ℕ) → message_there s (Some n) ≡ true → P (MessageCommentIs (Some n) t))
      (comment : (n : ℕ) (name t : List ℕ) → signal_there s (Some n) name ≡ true → P (SignalCommentIs (Some n) name t))
      (texts : (n : ℕ) (name : List ℕ) (vs : List ValueText) → signal_there s (Some n) name ≡ true
      → P (ValueTextsAre (Some n) name vs))
      (type : (n : ℕ) (name : List ℕ) (v : ValueType) → signal_there s (Some n) name ≡ true
      → P (ValueTypeIs (Some n) name v))
      (spn : (n : ℕ) (name : List ℕ) (p : ℕ) → signal_there s (Some n) name ≡ true → P (SpnIs (Some n) name p)) where
    pub all_node_comments : AllByRecursion P (flat_map sheet_contents.node_comments s.nodes)
    all_node_comments =
        all_flat (λ (n : Node). node_there s n.name ≡ true) P sheet_contents.node_comments
        (λ n q. of_comments (NodeCommentIs n.name) (λ t. node n.name t q) n.comment) s.nodes (nodes_there s)

    pub all_message_comments : AllByRecursion P (flat_map sheet_contents.message_comments s.messages)
    all_message_comments =
        all_flat (AreThere s) P sheet_contents.message_comments (λ m q.
        all_append P (sheet_contents.comments (MessageCommentIs (Some (number_of m))) m.comment)
        (flat_map (sheet_contents.signal_comments m) m.signals)
        (of_comments (MessageCommentIs (Some (number_of m))) (λ t. message (number_of m) t q.message) m.comment)
        (all_flat (λ (x : Signal). signal_there s (Some (number_of m)) x.name ≡ true) P
        (sheet_contents.signal_comments m)
        (λ x r. of_comments (SignalCommentIs (Some (number_of m)) x.name)
        (λ t. comment (number_of m) x.name t r) x.comment) m.signals q.signals))
        s.messages (messages_there s)

    all_each : (f : Message → Signal → List Content)
        → ((m : Message) (x : Signal) → signal_there s (Some (number_of m)) x.name ≡ true → AllByRecursion P (f m x))
        → AllByRecursion P (sheet_contents.each_signal f s)
    all_each f each =
        all_flat (AreThere s) P (λ (m : Message). flat_map (f m) m.signals)
        (λ m q. all_flat (λ (x : Signal). signal_there s (Some (number_of m)) x.name ≡ true) P (f m)
        (each m) m.signals q.signals) s.messages (messages_there s)

    pub all_spns : AllByRecursion P (sheet_contents.each_signal sheet_contents.spns s)
    all_spns = all_each sheet_contents.spns (λ m x r. of_unless (x.spn == 0) _ (spn (number_of m) x.name x.spn r))

    pub all_values : AllByRecursion P (sheet_contents.each_signal sheet_contents.value_texts s)
    all_values = all_each sheet_contents.value_texts
        (λ m x r. of_texts (number_of m) x.name (λ vs. texts (number_of m) x.name vs r) x.values)

    pub all_types : AllByRecursion P (sheet_contents.each_signal sheet_contents.value_types s)
    all_types = all_each sheet_contents.value_types
        (λ m x r. of_unless (value_type_number x.value_type == 0) _ (type (number_of m) x.name x.value_type r))

-- ---- sections that are left out

infixl 10 ◌and_none◌
◌and_none◌ : {gone : Content → Bool} {cs ds xs : List Content} → Strip gone cs xs → Strip gone ds []
    → Strip gone (cs ++ ds) xs
◌and_none◌ {xs} a b = record { is = (a and_also b).is ∙ append-nil xs }

at_by : (gone : Content → Bool) (place : ℕ) (e : Entry) (es : List Entry) (b : Bool)
    → (place_of e.passage.keyword == place) ≡ b → gone e.content ≡ true
    → AllByRecursion (λ c. gone c ≡ true) (contents_at place es)
    → AllByRecursion (λ c. gone c ≡ true) (contents_at place (e ∷ es))
at_by gone place e es true q h more = rw q (h, more)
at_by gone place e es false q h more = rw q more

at_gone : (gone : Content → Bool) (place : ℕ) (es : List Entry)
    → AllByRecursion (λ (e : Entry). gone e.content ≡ true) es
    → AllByRecursion (λ c. gone c ≡ true) (contents_at place es)
at_gone gone place [] h = tt
at_gone gone place (e ∷ es) h =
    at_by gone place e es (place_of e.passage.keyword == place) refl h.0 (at_gone gone place es h.1)

-- ---- without passed statements

abbrev plain : Sheet → List Content
plain s =
    VersionIs s.version ∷ Dropped ∷ Dropped ∷ NodesAre (node_names s) ∷ map sheet_contents.table s.tables
    ++ map sheet_contents.message s.messages
    ++ sheet_contents.comments CommentIs s.comment ++ flat_map sheet_contents.node_comments s.nodes
    ++ flat_map sheet_contents.message_comments s.messages
    ++ sheet_contents.each_signal sheet_contents.spns s ++ sheet_contents.each_signal sheet_contents.value_texts s
    ++ sheet_contents.each_signal sheet_contents.value_types s

module _ (s : Sheet) where
  abbrev pub gone : Content → Bool
  gone = sheet_passed s

  abbrev pub IsHeard : Content → Type 0
  IsHeard c = gone c ≡ false

  pub node_heard : (name t : List ℕ) → node_there s name ≡ true → IsHeard (NodeCommentIs name t)
  node_heard name t h = ap not h

  pub message_heard : (n : ℕ) (t : List ℕ) → message_there s (Some n) ≡ true → IsHeard (MessageCommentIs (Some n) t)
  message_heard n t h = ap not h

  pub comment_of_heard : (n : ℕ) (name t : List ℕ) → signal_there s (Some n) name ≡ true
      → IsHeard (SignalCommentIs (Some n) name t)
  comment_of_heard n name t h = ap not h

  pub texts_of_heard : (n : ℕ) (name : List ℕ) (vs : List ValueText) → signal_there s (Some n) name ≡ true
      → IsHeard (ValueTextsAre (Some n) name vs)
  texts_of_heard n name vs h = ap not h

  pub type_of_heard : (n : ℕ) (name : List ℕ) (v : ValueType) → signal_there s (Some n) name ≡ true
      → IsHeard (ValueTypeIs (Some n) name v)
  type_of_heard n name v h = ap not h

  pub spn_of_heard : (n : ℕ) (name : List ℕ) (p : ℕ) → signal_there s (Some n) name ≡ true
      → IsHeard (SpnIs (Some n) name p)
  spn_of_heard n name p h = ap not h

  heading_heard : Strip gone (VersionIs s.version ∷ Dropped ∷ Dropped ∷ NodesAre (node_names s) ∷ [])
      (VersionIs s.version ∷ Dropped ∷ Dropped ∷ NodesAre (node_names s) ∷ [])
  heading_heard = record { is = refl }

  tables_heard : Strip gone (map sheet_contents.table s.tables) (map sheet_contents.table s.tables)
  tables_heard = all_kept gone _ (of_each IsHeard sheet_contents.table (λ t. refl) s.tables)

  messages_heard : Strip gone (map sheet_contents.message s.messages) (map sheet_contents.message s.messages)
  messages_heard = all_kept gone _ (of_each IsHeard sheet_contents.message (λ m. refl) s.messages)

  comment_heard : Strip gone (sheet_contents.comments CommentIs s.comment) (sheet_contents.comments CommentIs s.comment)
  comment_heard = all_kept gone _ (of_comments IsHeard CommentIs (λ t. refl) s.comment)

  node_comments_heard : Strip gone (flat_map sheet_contents.node_comments s.nodes)
      (flat_map sheet_contents.node_comments s.nodes)
  node_comments_heard = all_kept gone _
      (all_node_comments IsHeard s node_heard message_heard comment_of_heard texts_of_heard type_of_heard spn_of_heard)

  message_comments_heard : Strip gone (flat_map sheet_contents.message_comments s.messages)
      (flat_map sheet_contents.message_comments s.messages)
  message_comments_heard = all_kept gone _
      (all_message_comments IsHeard s node_heard message_heard comment_of_heard texts_of_heard type_of_heard
      spn_of_heard)

  spns_heard : Strip gone (sheet_contents.each_signal sheet_contents.spns s)
      (sheet_contents.each_signal sheet_contents.spns s)
  spns_heard =
      all_kept gone _
      (all_spns IsHeard s node_heard message_heard comment_of_heard texts_of_heard type_of_heard spn_of_heard)

  values_heard : Strip gone (sheet_contents.each_signal sheet_contents.value_texts s)
      (sheet_contents.each_signal sheet_contents.value_texts s)
  values_heard = all_kept gone _
      (all_values IsHeard s node_heard message_heard comment_of_heard texts_of_heard type_of_heard spn_of_heard)

  types_heard : Strip gone (sheet_contents.each_signal sheet_contents.value_types s)
      (sheet_contents.each_signal sheet_contents.value_types s)
  types_heard =
      all_kept gone _
      (all_types IsHeard s node_heard message_heard comment_of_heard texts_of_heard type_of_heard spn_of_heard)

  defined_heard : (cs : List Content) → Strip gone cs cs → Strip gone (sheet_contents.with_spn_definitions cs) cs
  defined_heard [] h = record { is = refl }
  defined_heard (c ∷ cs) h = record { is = h.is }

  canon_plain : Strip gone (contents s) (plain s)
  canon_plain =
      heading_heard and_also tables_heard and_also messages_heard and_also comment_heard and_also node_comments_heard
      and_also message_comments_heard
      and_also defined_heard _ spns_heard and_also values_heard and_also types_heard

  kept_plain : (es : List Entry) → AllByRecursion (λ (e : Entry). gone e.content ≡ true) es
      → Strip gone (kept_contents s es) (plain s)
  kept_plain es h =
      let at : (place : ℕ) → Strip gone (contents_at place es) [] =
      λ place. all_gone gone _ (at_gone gone place es h) in
      heading_heard and_also tables_heard and_also messages_heard
      and_none at 0 and_none at 1 and_none at 2 and_none at 3 and_none at 4
      and_also comment_heard and_also node_comments_heard and_also message_comments_heard and_none at 5
      and_none at 6 and_none all_gone gone _ (of_if (λ c. gone c ≡ true) _ PassedOver refl)
      and_none at 7 and_none all_gone gone _ (of_if (λ c. gone c ≡ true) _ PassedOver refl)
      and_none at 8 and_also spns_heard
      and_also values_heard and_none at 9 and_none at 10 and_none at 11 and_none at 12 and_none at 13 and_none at 14
      and_also types_heard and_none at 15 and_none at 16

-- ---- nodes and messages alone

abbrev others : Content → Bool
others (NodesAre ns) = false
others (MessageIs m) = false
others c = true

quiet_nodes_in : (c : Content) → others c ≡ true → nodes_in c ≡ None
quiet_nodes_in (NodesAre ns) h = absurd cc
quiet_nodes_in (MessageIs m) h = absurd cc
quiet_nodes_in c h = refl

quiet_message_in : (c : Content) → others c ≡ true → message_in c ≡ None
quiet_message_in (NodesAre ns) h = absurd cc
quiet_message_in (MessageIs m) h = absurd cc
quiet_message_in c h = refl

passed_other : (s : Sheet) (c : Content) → sheet_passed s c ≡ true → others c ≡ true
passed_other s (NodesAre ns) h = absurd cc
passed_other s (MessageIs m) h = absurd cc
passed_other s c h = refl

pub passed_can : (ss : List Statement) (c : Content) → is_passed ss c ≡ true → CanPass c
passed_can ss (VersionIs t) h = absurd cc
passed_can ss (NodesAre ns) h = absurd cc
passed_can ss (TableIs n es) h = absurd cc
passed_can ss (MessageIs m) h = absurd cc
passed_can ss (CommentIs t) h = absurd cc
passed_can ss Dropped h = absurd cc
passed_can ss c h = tt

module _ (s : Sheet) where
  abbrev IsOther : Content → Type 0
  IsOther c = others c ≡ true

  abbrev core : List Content
  core = NodesAre (node_names s) ∷ map sheet_contents.message s.messages

  heading_core : Strip others (VersionIs s.version ∷ Dropped ∷ Dropped ∷ NodesAre (node_names s) ∷ [])
      (NodesAre (node_names s) ∷ [])
  heading_core = record { is = refl }

  tables_core : Strip others (map sheet_contents.table s.tables) []
  tables_core = all_gone others _ (of_each IsOther sheet_contents.table (λ t. refl) s.tables)

  messages_core : Strip others (map sheet_contents.message s.messages) (map sheet_contents.message s.messages)
  messages_core = all_kept others _ (of_each (λ c. others c ≡ false) sheet_contents.message (λ m. refl) s.messages)

  comment_core : Strip others (sheet_contents.comments CommentIs s.comment) []
  comment_core = all_gone others _ (of_comments IsOther CommentIs (λ t. refl) s.comment)

  node_comments_core : Strip others (flat_map sheet_contents.node_comments s.nodes) []
  node_comments_core = all_gone others _
      (all_node_comments IsOther s (λ n t h. refl) (λ n t h. refl) (λ n x t h. refl) (λ n x v h. refl) (λ n x v h. refl)
      (λ n x v h. refl))

  message_comments_core : Strip others (flat_map sheet_contents.message_comments s.messages) []
  message_comments_core = all_gone others _
      (all_message_comments IsOther s (λ n t h. refl) (λ n t h. refl) (λ n x t h. refl) (λ n x v h. refl)
      (λ n x v h. refl) (λ n x v h. refl))

  spns_other : AllByRecursion IsOther (sheet_contents.each_signal sheet_contents.spns s)
  spns_other = all_spns IsOther s (λ n t h. refl) (λ n t h. refl) (λ n x t h. refl) (λ n x v h. refl) (λ n x v h. refl)
      (λ n x v h. refl)

  values_core : Strip others (sheet_contents.each_signal sheet_contents.value_texts s) []
  values_core = all_gone others _
      (all_values IsOther s (λ n t h. refl) (λ n t h. refl) (λ n x t h. refl) (λ n x v h. refl) (λ n x v h. refl)
      (λ n x v h. refl))

  types_core : Strip others (sheet_contents.each_signal sheet_contents.value_types s) []
  types_core = all_gone others _
      (all_types IsOther s (λ n t h. refl) (λ n t h. refl) (λ n x t h. refl) (λ n x v h. refl) (λ n x v h. refl)
      (λ n x v h. refl))

  defined_other : (cs : List Content) → AllByRecursion IsOther cs
      → AllByRecursion IsOther (sheet_contents.with_spn_definitions cs)
  defined_other [] h = tt
  defined_other (c ∷ cs) h = (refl, (refl, h))

  canon_core : Strip others (contents s) core
  canon_core =
      heading_core and_none tables_core and_also messages_core and_none comment_core and_none node_comments_core
      and_none message_comments_core
      and_none all_gone others _ (defined_other _ spns_other) and_none values_core and_none types_core

  kept_core : (es : List Entry) → AllByRecursion (λ (e : Entry). others e.content ≡ true) es
      → Strip others (kept_contents s es) core
  kept_core es h =
      let at : (place : ℕ) → Strip others (contents_at place es) [] =
      λ place. all_gone others _ (at_gone others place es h) in
      heading_core and_none tables_core and_also messages_core
      and_none at 0 and_none at 1 and_none at 2 and_none at 3 and_none at 4
      and_none comment_core and_none node_comments_core and_none message_comments_core and_none at 5
      and_none at 6 and_none all_gone others _ (of_if IsOther _ PassedOver refl)
      and_none at 7 and_none all_gone others _ (of_if IsOther _ PassedOver refl)
      and_none at 8 and_none all_gone others _ spns_other
      and_none values_core and_none at 9 and_none at 10 and_none at 11 and_none at 12 and_none at 13 and_none at 14
      and_none types_core and_none at 15 and_none at 16

-- ---- all together

-- statements of these contents
abbrev bare : List Content → List Statement
bare cs = map (λ c. record { start = 0; keyword = Version; content = c }) cs

bare_contents : (cs : List Content) → contents_of (bare cs) ≡ cs
bare_contents [] = refl
bare_contents (c ∷ cs) = ap (λ (l : List Content). c ∷ l) (bare_contents cs)

-- lists of statements whose nodes and messages are the same
core_same : {X : Type 0} (kind : Content → Option X) → ((c : Content) → others c ≡ true → kind c ≡ None)
    → (ss ts : List Statement) (ds : List Content)
    → drop others (contents_of ss) ≡ ds → drop others (contents_of ts) ≡ ds → each_in kind ss ≡ each_in kind ts
core_same kind quiet ss ts ds h k =
    sym (silent kind others quiet ss) ∙ each_in-contents kind (heard others ss)
    ∙ ap (filter_map kind) (heard_contents others ss ∙ h ∙ sym k ∙ sym (heard_contents others ts))
    ∙ sym (each_in-contents kind (heard others ts)) ∙ silent kind others quiet ts

agree_again : (ss ts : List Statement) (s : Sheet) → each_in nodes_in ss ≡ each_in nodes_in ts
    → each_in message_in ss ≡ each_in message_in ts → Agree ts s → Agree ss s
agree_again ss ts s n m h = record {
  nodes = λ name. ap (λ names. list_any (λ n. bytes_eq n name) (flat_map (λ (names : List (List ℕ)). names) names)) n
      ∙ h.nodes name;
  messages = messages_again;
  signals = signals_again;
}
  where
    messages_again : (cited : Cited) → has_message ss cited ≡ message_there s cited
    messages_again None = refl
    messages_again (Some number) =
        ap (λ ms. list_any (λ n. n == number) (map (λ (m : MessageLine). dbc_number m.ident) ms)) m
        ∙ h.messages (Some number)

    signals_again : (cited : Cited) (name : List ℕ) → has_signal ss cited name ≡ signal_there s cited name
    signals_again None name = refl
    signals_again (Some number) name =
        ap (λ ms. list_any (λ key. same_signal key (number, name)) (flat_map keys_of ms)) m
        ∙ h.signals (Some number) name

others_all : (s : Sheet) (es : List Entry) → AllByRecursion (λ (e : Entry). sheet_passed s e.content ≡ true) es
    → AllByRecursion (λ (e : Entry). others e.content ≡ true) es
others_all s [] h = tt
others_all s (e ∷ es) h = (passed_other s e.content h.0, others_all s es h.1)

pub kept_says : (s : Sheet) → IsSheet s → (es : List Entry)
    → AllByRecursion (λ (e : Entry). sheet_passed s e.content ≡ true) es → (ss : List Statement)
    → contents_of ss ≡ kept_contents s es → Says ss s
kept_says s is es h ss e =
    let cs = bare (contents s) in
    let canon_says = contents_say s is cs (bare_contents (contents s)) in
    let canon_agrees = says_agree cs s canon_says in
    let only_canon : (c : Content) → sheet_passed s c ≡ true → is_passed cs c ≡ true =
    λ c p. passed_agree cs s canon_agrees c ∙ p in
    let plain_says = says_without cs (sheet_passed s) only_canon s canon_says in
    let plain_are : contents_of (heard (sheet_passed s) cs) ≡ plain s =
    heard_contents (sheet_passed s) cs ∙ ap (drop (sheet_passed s)) (bare_contents (contents s)) ∙ (canon_plain s).is in
    let core_of_kept = ap (drop others) e ∙ (kept_core s es (others_all s es h)).is in
    let core_of_canon = ap (drop others) (bare_contents (contents s)) ∙ (canon_core s).is in
    let same_nodes = core_same nodes_in quiet_nodes_in ss cs (core s) core_of_kept core_of_canon in
    let same_messages = core_same message_in quiet_message_in ss cs (core s) core_of_kept core_of_canon in
    let agrees = agree_again ss cs s same_nodes same_messages canon_agrees in
    let only : (c : Content) → sheet_passed s c ≡ true → is_passed ss c ≡ true =
    λ c p. passed_agree ss s agrees c ∙ p in
    let kept_are : contents_of (heard (sheet_passed s) ss) ≡ plain s =
    heard_contents (sheet_passed s) ss ∙ ap (drop (sheet_passed s)) e ∙ (kept_plain s es h).is in
    let here = contents_decide (heard (sheet_passed s) cs) (heard (sheet_passed s) ss) s
    (plain_are ∙ sym kept_are) plain_says in
    says_with ss (sheet_passed s) only s here

-- ---- the passed statements of a source

pub passages_are : (source : List ℕ) (parts : List Part)
    → passages (map (entry_of source) parts) ≡ map (passage_of source) parts
passages_are source [] = refl
passages_are source (part ∷ parts) = ap (λ (l : List Passage). passage_of source part ∷ l) (passages_are source parts)

pub record AreEntries (s : Sheet) (es : List Entry) : Type 0 where
  pub stand : AllByRecursion Stands es
  pub passed : AllByRecursion (λ (e : Entry). sheet_passed s e.content ≡ true) es

module _ (source : List ℕ) (ss : List Statement) (s : Sheet) (agrees : Agree ss s) where
  abbrev pub is_gone : Part → Bool
  is_gone part = is_passed ss part.is.content

  with_part : (part : Part) (parts : List Part) (b : Bool) → is_gone part ≡ b
      → (CanPass part.is.content → Stands (entry_of source part))
      → AreEntries s (map (entry_of source) (filter is_gone parts))
      → AreEntries s (map (entry_of source) (filter is_gone (part ∷ parts)))
  with_part part parts true e stands more =
      rw e (record {
        stand = (stands (passed_can ss part.is.content e), more.stand);
        passed = (sym (passed_agree ss s agrees part.is.content) ∙ e, more.passed);
      })
  with_part part parts false e stands more = rw e more

  pub entries_are : (parts : List Part)
      → AllByRecursion (λ part. CanPass part.is.content → Stands (entry_of source part)) parts
      → AreEntries s (map (entry_of source) (filter is_gone parts))
  entries_are [] h = record { stand = tt; passed = tt }
  entries_are (part ∷ parts) h = with_part part parts (is_gone part) refl h.0 (entries_are parts h.1)

pub kept_reads : (source : List ℕ) (s : Sheet) (ps : List Passage) → Keeps source s ps → Reads (kept_text s ps) s
kept_reads source s ps h =
    let ss = statements_of h.parts in
    let agrees = says_agree ss s h.says in
    let chosen = filter (λ (p : Part). is_passed ss p.is.content) h.parts in
    let es = map (entry_of source) chosen in
    let are = entries_are source ss s agrees h.parts (parts_stand source h.tokens h.parts h.has_tokens h.are_parts) in
    let same : passages es ≡ ps = passages_are source chosen ∙ sym h.passages in
    let d = kept_divides s h.says.is_sheet es are.stand in
    let says = kept_says s h.says.is_sheet es are.passed d.statements d.contents in
    let reads : Reads (kept_text s (passages es)) s = (
      passed_by d.statements,
      record {
        tokens = d.tokens;
        statements = d.statements;
        has_tokens = d.has_tokens;
        divides = d.divides;
        says = says;
        passes = refl;
      },
    ) in
    subst (λ l. Reads (kept_text s l) s) same reads

-- the law: a kept text reads as the sheet that its source reads as
pub keeps_sheet : ReadsAsOneAtMost → KeepsSheet
keeps_sheet one source text s kept (passed, reads) =
    let k = kept.keeps in
    let ss = statements_of k.parts in
    let again : ReadsAs source kept.sheet (passed_by ss) = record {
      tokens = k.tokens;
      statements = ss;
      has_tokens = k.has_tokens;
      divides = (divisions_are_parts k.tokens ss).1 (k.parts, k.are_parts, refl);
      says = k.says;
      passes = refl;
    } in
    let same = (one source kept.sheet s (passed_by ss) passed again reads).0 in
    let here = kept_reads source kept.sheet kept.passages k in
    subst (λ v. Reads v s) (sym kept.text_is) (subst (λ v. Reads (kept_text kept.sheet kept.passages) v) same here)
