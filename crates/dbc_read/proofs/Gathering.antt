-- A loop that gathers what one statement after the other says: what is gathered so far and what is left to say is all
-- that the statements say.
use Rattle.dbc_read.proofs.Common.{◌≡◌, ◌==◌, ◌&&◌, ◌||◌, ◌++◌, ◌∙◌, ℕ, zero, suc, Bool, true, false, not, cond, List}
use Rattle.dbc_read.proofs.Common.{[], ◌∷◌, length, map, replicate, Option, Some, None, is_some, if◌then◌else◌, nat_eq}
use Rattle.dbc_read.proofs.Common.{refl, sym, ap, append_assoc, append-nil, subst, true≢false, slice_get, unwrap_or}
use Rattle.dbc_read.proofs.Common.{AllByRecursion, cons_option, last_or, list_any, bytes_eq, map-append, Keyword}
use Rattle.dbc_read.proofs.Common.{Integer, SignalKey, comment_in, each_in, last_at, message_comment_in, messages_of}
use Rattle.dbc_read.proofs.Common.{node_comment_in, node_names_of, numbers_of, passed_by, same_signal}
use Rattle.dbc_read.proofs.Common.{signal_comment_in, signal_keys_of, spn_in, table_in, value_texts_in, value_type_in}
use Rattle.dbc_read.proofs.Common.{version_in, Cited, ValueText, table_of, content_of, message_of, names_of}
use Rattle.dbc_read.proofs.Common.{statement_of, Content, NodeName, Statement}
use Rattle.std.proofs.Common.{filter}
use Rattle.std.specs.Prelude.{drop}
use Rattle.std.specs.Cmp.{IsEquivalence, nat_eq_equiv}
use Rattle.std.specs.Cmp.Lexicographic.{lists_equiv}
use Rattle.std.specs.List.{IsDistinct}
use Rattle.dbc_words.specs.declared.value_type.ValueType.{ValueType}
use Rattle.dbc_grammar.specs.Saying.{has_message, has_signal, is_passed, with_signal_key}
use Rattle.dbc_grammar.specs.Statement as dbc
use Rattle.dbc_read.specs.Built.{first_or}
use Rattle.dbc_read.specs.Lookup.{IsIndexIn}
use Rattle.dbc_read.specs.Gathering.{Gathers, finished, passed_in, passed_pair}
use Rattle.dbc_read.specs.Gathered.{AreGathered, IsNothing, gathered_after, passed_after, passed_of, set_at}
use Rattle.dbc_read.specs.Passed.{start_and_keyword}
use Rattle.dbc_read.specs.Lookups.{AreCitedIndices, IsCitedIndex, IsMessageIndex, IsSignalIndex}
use Rattle.dbc_read.specs.declared.gathered.Gathered.{Gathered}
use Rattle.dbc_read.specs.declared.passed.Passed.{Passed}
use Rattle.dbc_statements.specs.declared.statement.Content.TheVariants as content

pub some_true : (b : Bool) → Some b ≡ Some true → b ≡ true
some_true b e = ap (λ o. unwrap_or o false) e

pub none_true : {A : Type 0} → ◌≡◌ {A = Option Bool} None (Some true) → A
none_true e = absurd (true≢false (sym (ap is_some e)))

pub or_parts : (a b : Bool) → (a || b) ≡ false → (a ≡ false) × (b ≡ false)
or_parts true b h = absurd (true≢false h)
or_parts false b h = (refl, h)

or_true : (b : Bool) → (b || true) ≡ true
or_true true = refl
or_true false = refl

-- Values of keys, each the last one of the pairs so far, and the pairs that are left.
module _ {K V : Type 0} (same : K → K → Bool) (d : V) where
  pub none_left : (ks : List K) (vs : List V) → finished same d [] ks vs ≡ vs
  none_left [] vs = refl
  none_left (k ∷ ks) [] = refl
  none_left (k ∷ ks) (v ∷ vs) = ap (λ l. v ∷ l) (none_left ks vs)

  from_none : (k : K) (o p : Option V) (ps : List (K × V)) → unwrap_or o d ≡ unwrap_or p d
      → unwrap_or (last_at same k o ps) d ≡ unwrap_or (last_at same k p ps) d
  from_none k o p [] e = e
  from_none k o p (q ∷ ps) e = from_none k (if same q.0 k then Some q.1 else o) (if same q.0 k then Some q.1 else p) ps
      (by (same q.0 k))
    where
      by : (b : Bool) → unwrap_or (if b then Some q.1 else o) d ≡ unwrap_or (if b then Some q.1 else p) d
      by true = refl
      by false = e

  pub all_left : (ps : List (K × V)) (ks : List K) → finished same d ps ks (replicate (length ks) d)
      ≡ map (λ k. unwrap_or (last_at same k None ps) d) ks
  all_left ps [] = refl
  all_left ps (k ∷ ks) = λ i. from_none k (Some d) None ps refl i ∷ all_left ps ks i

  module _ (laws : IsEquivalence same) (k₀ : K) (v₀ : V) (ps : List (K × V)) where
    one_value : (k : K) (v : V) (b : Bool) → same k k₀ ≡ b → unwrap_or (last_at same k (Some v) ((k₀, v₀) ∷ ps)) d
        ≡ unwrap_or (last_at same k (if b then Some v₀ else Some v) ps) d
    one_value k v b e = ap (λ t. unwrap_or (last_at same k (if t then Some v₀ else Some v) ps) d) (laws.symm k₀ k ∙ e)

    others : (ks : List K) (vs : List V) → list_any (λ k. same k k₀) ks ≡ false
        → finished same d ((k₀, v₀) ∷ ps) ks vs ≡ finished same d ps ks vs
    others [] vs h = refl
    others (k ∷ ks) [] h = refl
    others (k ∷ ks) (v ∷ vs) h =
        let parts = or_parts (same k k₀) (list_any (λ x. same x k₀) ks) h in
        λ i. one_value k v false parts.0 i ∷ others ks vs parts.1 i

    none_alike : (k : K) (ks : List K) → same k k₀ ≡ true → AllByRecursion (λ x. same k x ≡ false) ks
        → list_any (λ x. same x k₀) ks ≡ false
    none_alike k [] e h = refl
    none_alike k (x ∷ ks) e h =
        ap (λ b. b || list_any (λ y. same y k₀) ks) (laws.symm x k₀ ∙ sym (laws.congr k k₀ x e) ∙ h.0)
        ∙ none_alike k ks e h.1

    apart_from : (k : K) (ks : List K) (i : ℕ) → AllByRecursion (λ x. same k x ≡ false) ks
        → slice_get (map (λ x. same x k₀) ks) i ≡ Some true → same k k₀ ≡ false
    apart_from k [] i h e = none_true e
    apart_from k (x ∷ ks) zero h e = laws.symm k k₀ ∙ sym (laws.congr x k₀ k (some_true _ e)) ∙ laws.symm x k ∙ h.0
    apart_from k (x ∷ ks) (suc i) h e = apart_from k ks i h.1 e

    -- the next pair is added by its value's going to the index of its key
    pub settled : (ks : List K) (vs : List V) (index : Option ℕ) → IsDistinct same ks
        → IsIndexIn (λ k. same k k₀) ks index
        → finished same d ((k₀, v₀) ∷ ps) ks vs ≡ finished same d ps ks (set_at index v₀ vs)
    unfolding IsDistinct
    settled ks vs None distinct h = others ks vs h
    settled [] vs (Some i) distinct h = none_true h
    settled (k ∷ ks) [] (Some zero) distinct h = refl
    settled (k ∷ ks) [] (Some (suc i)) distinct h = refl
    settled (k ∷ ks) (v ∷ vs) (Some zero) distinct h =
        let e = some_true (same k k₀) h in
        λ i. one_value k v true e i ∷ others ks vs (none_alike k ks e distinct.0) i
    settled (k ∷ ks) (v ∷ vs) (Some (suc n)) distinct h =
        λ i. one_value k v false (apart_from k ks n distinct.0 h) i ∷ settled ks vs (Some n) distinct.1 h i

-- a key has an index exactly where the list has it
pub has_index : {K : Type 0} (test : K → Bool) (keys : List K) (index : Option ℕ) → IsIndexIn test keys index
    → list_any test keys ≡ is_some index
has_index test keys None h = h
has_index test keys (Some i) h = by keys i h
  where
    by : (ks : List _) (j : ℕ) → slice_get (map test ks) j ≡ Some true → list_any test ks ≡ true
    by [] j e = none_true e
    by (k ∷ ks) zero e = ap (λ b. b || list_any test ks) (some_true (test k) e)
    by (k ∷ ks) (suc j) e = ap (λ b. test k || b) (by ks j e) ∙ or_true (test k)

bytes_equiv : IsEquivalence bytes_eq
bytes_equiv = lists_equiv nat_eq_equiv

and_parts : (a b : Bool) → (a && b) ≡ true → (a ≡ true) × (b ≡ true)
and_parts true b h = (refl, h)
and_parts false b h = absurd (true≢false (sym h))

signals_equiv : IsEquivalence same_signal
signals_equiv = record {
  refl = λ x. λ i. nat_eq_equiv.refl x.0 i && bytes_equiv.refl x.1 i;
  symm = λ x y. λ i. nat_eq_equiv.symm x.0 y.0 i && bytes_equiv.symm x.1 y.1 i;
  congr = λ x y z h. let parts = and_parts (x.0 == y.0) (bytes_eq x.1 y.1) h in
      λ i. nat_eq_equiv.congr x.0 y.0 z.0 parts.0 i && bytes_equiv.congr x.1 y.1 z.1 parts.1 i;
}

signal_settled : {V : Type 0} (d : V) (all : List dbc.Statement) (number : Cited) (name : List ℕ) (v : V)
    (ps : List (SignalKey × V)) (vs : List V) (index : Option ℕ)
    → IsSignalIndex all number name index → IsDistinct same_signal (signal_keys_of all)
    → finished same_signal d (cons_option (with_signal_key number name v) ps) (signal_keys_of all) vs
    ≡ finished same_signal d ps (signal_keys_of all) (set_at index v vs)
signal_settled d all None name v ps vs index is distinct =
    ap (λ o. finished same_signal d ps (signal_keys_of all) (set_at o v vs)) (sym is)
signal_settled d all (Some n) name v ps vs index is distinct =
    settled same_signal d signals_equiv (n, name) v ps (signal_keys_of all) vs index distinct is

message_settled : (all : List dbc.Statement) (cited : Cited) (v : List ℕ) (rest : List dbc.Statement)
    (vs : List (List ℕ)) (index : Option ℕ)
    → IsMessageIndex all cited index → IsDistinct nat_eq (numbers_of all)
    → finished nat_eq [] (cons_option (message_comment_in (dbc.MessageCommentIs cited v))
    (each_in message_comment_in rest)) (numbers_of all) vs
    ≡ finished nat_eq [] (each_in message_comment_in rest) (numbers_of all) (set_at index v vs)
message_settled all None v rest vs index is distinct =
    ap (λ o. finished nat_eq [] (each_in message_comment_in rest) (numbers_of all) (set_at o v vs)) (sym is)
message_settled all (Some n) v rest vs index is distinct =
    settled nat_eq [] nat_eq_equiv n v (each_in message_comment_in rest) (numbers_of all) vs index distinct is

has_message_index : (all : List dbc.Statement) (cited : Cited) (index : Option ℕ) → IsMessageIndex all cited index
    → has_message all cited ≡ is_some index
has_message_index all None index is = ap is_some (sym is)
has_message_index all (Some n) index is = has_index (λ m. m == n) (numbers_of all) index is

has_signal_index : (all : List dbc.Statement) (cited : Cited) (name : List ℕ) (index : Option ℕ)
    → IsSignalIndex all cited name index → has_signal all cited name ≡ is_some index
has_signal_index all None name index is = ap is_some (sym is)
has_signal_index all (Some n) name index is = has_index (λ key. same_signal key (n, name)) (signal_keys_of all) index is

-- One statement more, of the content c, which cites what has this index.
module _ (all : List dbc.Statement) (start : ℕ) (keyword : Keyword) (index : Option ℕ) (g : Gathered)
    (rest : List dbc.Statement) where
  abbrev p : Passed
  p = record { at = start; keyword = keyword }

  abbrev these : Content → List dbc.Statement
  these c = record { start = start; keyword = keyword; content = content_of c } ∷ rest

  abbrev new : Content → Gathered
  new c = gathered_after index p c g

  version_step : (c : Content) (whole : Option (List ℕ)) → last_or g.version (each_in version_in (these c)) ≡ whole
      → last_or (new c).version (each_in version_in rest) ≡ whole
  version_step (content.Version text) whole h = h
  version_step c whole h = h

  comment_step : (c : Content) (whole : Option (List ℕ)) → last_or g.comment (each_in comment_in (these c)) ≡ whole
      → last_or (new c).comment (each_in comment_in rest) ≡ whole
  comment_step (content.Comment text) whole h = h
  comment_step c whole h = h

  nodes_step : (c : Content) (whole : List (List ℕ)) → names_of g.nodes ++ node_names_of (these c) ≡ whole
      → names_of (new c).nodes ++ node_names_of rest ≡ whole
  nodes_step (content.Nodes nodes) whole h =
      ap (λ l. l ++ node_names_of rest) (map-append (λ (n : NodeName). n.name) g.nodes nodes.items)
      ∙ append_assoc (names_of g.nodes) (names_of nodes.items) (node_names_of rest) ∙ h
  nodes_step c whole h = h

  tables_step : (c : Content) → map table_of g.tables ++ each_in table_in (these c) ≡ each_in table_in all
      → map table_of (new c).tables ++ each_in table_in rest ≡ each_in table_in all
  tables_step (content.Table line) h =
      ap (λ l. l ++ each_in table_in rest) (map-append table_of g.tables (line.value ∷ []))
      ∙ append_assoc (map table_of g.tables) (table_of line.value ∷ []) (each_in table_in rest) ∙ h
  tables_step c h = h

  messages_step : (c : Content) → map message_of g.messages ++ messages_of (these c) ≡ messages_of all
      → map message_of (new c).messages ++ messages_of rest ≡ messages_of all
  messages_step (content.Message line) h =
      ap (λ l. l ++ messages_of rest) (map-append message_of g.messages (line.value ∷ []))
      ∙ append_assoc (map message_of g.messages) (message_of line.value ∷ []) (messages_of rest) ∙ h
  messages_step c h = h

  node_comments_step : (c : Content) (whole : List (List ℕ)) → IsCitedIndex all (content_of c) index
      → IsDistinct bytes_eq (node_names_of all)
      → finished bytes_eq [] (each_in node_comment_in (these c)) (node_names_of all) g.node_comments ≡ whole
      → finished bytes_eq [] (each_in node_comment_in rest) (node_names_of all) (new c).node_comments ≡ whole
  node_comments_step (content.NodeComment name text) whole is distinct h =
      sym (settled bytes_eq [] bytes_equiv name.now text (each_in node_comment_in rest) (node_names_of all)
      g.node_comments index distinct is) ∙ h
  node_comments_step c whole is distinct h = h

  message_comments_step : (c : Content) (whole : List (List ℕ)) → IsCitedIndex all (content_of c) index
      → IsDistinct nat_eq (numbers_of all)
      → finished nat_eq [] (each_in message_comment_in (these c)) (numbers_of all) g.message_comments ≡ whole
      → finished nat_eq [] (each_in message_comment_in rest) (numbers_of all) (new c).message_comments ≡ whole
  message_comments_step (content.MessageComment cited text) whole is distinct h =
      sym (message_settled all cited text rest g.message_comments index is distinct) ∙ h
  message_comments_step c whole is distinct h = h

  signal_comments_step : (c : Content) (whole : List (List ℕ)) → IsCitedIndex all (content_of c) index
      → IsDistinct same_signal (signal_keys_of all)
      → finished same_signal [] (each_in signal_comment_in (these c)) (signal_keys_of all) g.signal_comments ≡ whole
      → finished same_signal [] (each_in signal_comment_in rest) (signal_keys_of all) (new c).signal_comments ≡ whole
  signal_comments_step (content.SignalComment cited text) whole is distinct h =
      sym (signal_settled [] all cited.number cited.name.now text (each_in signal_comment_in rest) g.signal_comments
      index is distinct) ∙ h
  signal_comments_step c whole is distinct h = h

  signal_values_step : (c : Content) (whole : List (List ValueText)) → IsCitedIndex all (content_of c) index
      → IsDistinct same_signal (signal_keys_of all)
      → finished same_signal [] (each_in value_texts_in (these c)) (signal_keys_of all) g.signal_values ≡ whole
      → finished same_signal [] (each_in value_texts_in rest) (signal_keys_of all) (new c).signal_values ≡ whole
  signal_values_step (content.ValueTexts cited entries) whole is distinct h =
      sym (signal_settled [] all cited.number cited.name.now entries (each_in value_texts_in rest) g.signal_values index
      is distinct) ∙ h
  signal_values_step c whole is distinct h = h

  signal_types_step : (c : Content) (whole : List ValueType) → IsCitedIndex all (content_of c) index
      → IsDistinct same_signal (signal_keys_of all)
      → finished same_signal Integer (each_in value_type_in (these c)) (signal_keys_of all) g.signal_types ≡ whole
      → finished same_signal Integer (each_in value_type_in rest) (signal_keys_of all) (new c).signal_types ≡ whole
  signal_types_step (content.ValueType cited value_type) whole is distinct h =
      sym (signal_settled Integer all cited.number cited.name.now value_type (each_in value_type_in rest) g.signal_types
      index is distinct) ∙ h
  signal_types_step c whole is distinct h = h

  signal_spns_step : (c : Content) (whole : List ℕ) → IsCitedIndex all (content_of c) index
      → IsDistinct same_signal (signal_keys_of all)
      → finished same_signal 0 (each_in spn_in (these c)) (signal_keys_of all) g.signal_spns ≡ whole
      → finished same_signal 0 (each_in spn_in rest) (signal_keys_of all) (new c).signal_spns ≡ whole
  signal_spns_step (content.Spn cited spn) whole is distinct h =
      sym (signal_settled 0 all cited.number cited.name.now spn (each_in spn_in rest) g.signal_spns index is distinct)
      ∙ h
  signal_spns_step c whole is distinct h = h

  one_more : (kept : List dbc.Statement) (all_passed : List (ℕ × Keyword))
      → map start_and_keyword g.passed ++ (start, keyword) ∷ map passed_pair kept ≡ all_passed
      → map start_and_keyword (g.passed ++ p ∷ []) ++ map passed_pair kept ≡ all_passed
  one_more kept all_passed h =
      ap (λ l. l ++ map passed_pair kept) (map-append start_and_keyword g.passed (p ∷ []))
      ∙ append_assoc (map start_and_keyword g.passed) ((start, keyword) ∷ []) (map passed_pair kept) ∙ h

  skipped_step : (x : dbc.Statement) (kept : List dbc.Statement) (all_passed : List (ℕ × Keyword)) (test : Bool)
      (o : Option ℕ) → passed_pair x ≡ (start, keyword) → test ≡ is_some o
      → map start_and_keyword g.passed ++ map passed_pair (cond (not test) (x ∷ kept) kept) ≡ all_passed
      → map start_and_keyword (passed_after o p g.passed) ++ map passed_pair kept ≡ all_passed
  skipped_step x kept all_passed true (Some i) here e h = h
  skipped_step x kept all_passed false None here e h =
      one_more kept all_passed (ap (λ t. map start_and_keyword g.passed ++ t ∷ map passed_pair kept) (sym here) ∙ h)
  skipped_step x kept all_passed true None here e h = absurd (true≢false e)
  skipped_step x kept all_passed false (Some i) here e h = absurd (true≢false (sym e))

  abbrev kept : List dbc.Statement
  kept = filter (λ (s : dbc.Statement). is_passed all s.content) rest

  passed_step : (c : Content) (all_passed : List (ℕ × Keyword)) → IsCitedIndex all (content_of c) index
      → map start_and_keyword g.passed ++ passed_in all (these c) ≡ all_passed
      → map start_and_keyword (new c).passed ++ passed_in all rest ≡ all_passed
  passed_step (content.NodeComment name text) all_passed is h =
      skipped_step _ kept all_passed _ index refl (has_index (λ n. bytes_eq n name.now) (node_names_of all) index is) h
  passed_step (content.MessageComment cited text) all_passed is h =
      skipped_step _ kept all_passed _ index refl (has_message_index all cited index is) h
  passed_step (content.SignalComment cited text) all_passed is h =
      skipped_step _ kept all_passed _ index refl (has_signal_index all cited.number cited.name.now index is) h
  passed_step (content.ValueTexts cited entries) all_passed is h =
      skipped_step _ kept all_passed _ index refl (has_signal_index all cited.number cited.name.now index is) h
  passed_step (content.ValueType cited value_type) all_passed is h =
      skipped_step _ kept all_passed _ index refl (has_signal_index all cited.number cited.name.now index is) h
  passed_step (content.Spn cited spn) all_passed is h =
      skipped_step _ kept all_passed _ index refl (has_signal_index all cited.number cited.name.now index is) h
  passed_step content.PassedOver all_passed is h = one_more kept all_passed h
  passed_step c all_passed is h = h

  pub content_gathered : (c : Content) → IsCitedIndex all (content_of c) index → Gathers all g (these c)
      → Gathers all (new c) rest
  content_gathered c is h = record {
    version = version_step c _ h.version;
    comment = comment_step c _ h.comment;
    nodes = nodes_step c _ h.nodes;
    tables = tables_step c h.tables;
    messages = messages_step c h.messages;
    node_comments = λ distinct. node_comments_step c _ is distinct (h.node_comments distinct);
    message_comments = λ distinct. message_comments_step c _ is distinct (h.message_comments distinct);
    signal_comments = λ distinct. signal_comments_step c _ is distinct (h.signal_comments distinct);
    signal_values = λ distinct. signal_values_step c _ is distinct (h.signal_values distinct);
    signal_types = λ distinct. signal_types_step c _ is distinct (h.signal_types distinct);
    signal_spns = λ distinct. signal_spns_step c _ is distinct (h.signal_spns distinct);
    passed = passed_step c _ is h.passed;
  }

-- what a statement says is gathered
pub one_gathered : (all : List dbc.Statement) (s : Statement) (rest : List dbc.Statement) (index : Option ℕ)
    (old now : Gathered) → IsCitedIndex all (content_of s.content) index
    → now ≡ gathered_after index (passed_of s) s.content old → Gathers all old (statement_of s ∷ rest)
    → Gathers all now rest
one_gathered all s rest index old now is_index is h =
    subst (λ g. Gathers all g rest) (sym is)
    (content_gathered all s.start s.keyword index old rest s.content is_index h)

-- the first of the indices is the next statement's, and the others are those of the others
pub next_index : (all : List dbc.Statement) (s : dbc.Statement) (rest : List dbc.Statement) (indices : List (Option ℕ))
    → AreCitedIndices all (s ∷ rest) indices
    → IsCitedIndex all s.content (first_or None indices) × AreCitedIndices all rest (drop 1 indices)
next_index all s rest [] h = absurd h
next_index all s rest (index ∷ indices) h = (h.0, h.1)

-- before all statements
pub nothing_gathered : (all : List dbc.Statement) (g : Gathered) → IsNothing all g → Gathers all g all
nothing_gathered all g is = record {
  version = ap (λ o. last_or o (each_in version_in all)) is.version;
  comment = ap (λ o. last_or o (each_in comment_in all)) is.comment;
  nodes = ap (λ l. names_of l ++ node_names_of all) is.nodes;
  tables = ap (λ l. map table_of l ++ each_in table_in all) is.tables;
  messages = ap (λ l. map message_of l ++ messages_of all) is.messages;
  node_comments = λ distinct. ap (finished bytes_eq [] (each_in node_comment_in all) (node_names_of all))
      is.node_comments ∙ all_left bytes_eq [] (each_in node_comment_in all) (node_names_of all);
  message_comments = λ distinct. ap (finished nat_eq [] (each_in message_comment_in all) (numbers_of all))
      is.message_comments ∙ all_left nat_eq [] (each_in message_comment_in all) (numbers_of all);
  signal_comments = λ distinct. ap (finished same_signal [] (each_in signal_comment_in all) (signal_keys_of all))
      is.signal_comments
      ∙ all_left same_signal [] (each_in signal_comment_in all) (signal_keys_of all);
  signal_values = λ distinct. ap (finished same_signal [] (each_in value_texts_in all) (signal_keys_of all))
      is.signal_values
      ∙ all_left same_signal [] (each_in value_texts_in all) (signal_keys_of all);
  signal_types = λ distinct. ap (finished same_signal Integer (each_in value_type_in all) (signal_keys_of all))
      is.signal_types
      ∙ all_left same_signal Integer (each_in value_type_in all) (signal_keys_of all);
  signal_spns = λ distinct. ap (finished same_signal 0 (each_in spn_in all) (signal_keys_of all)) is.signal_spns
      ∙ all_left same_signal 0 (each_in spn_in all) (signal_keys_of all);
  passed = ap (λ l. map start_and_keyword l ++ passed_by all) is.passed;
}

-- after all statements
pub all_gathered : (all : List dbc.Statement) (g : Gathered) → Gathers all g [] → AreGathered all g
all_gathered all g h = record {
  version = h.version;
  comment = h.comment;
  nodes = sym (append-nil (names_of g.nodes)) ∙ h.nodes;
  tables = sym (append-nil (map table_of g.tables)) ∙ h.tables;
  messages = sym (append-nil (map message_of g.messages)) ∙ h.messages;
  node_comments = λ distinct. sym (none_left bytes_eq [] (node_names_of all) g.node_comments)
      ∙ h.node_comments distinct;
  message_comments = λ distinct. sym (none_left nat_eq [] (numbers_of all) g.message_comments)
      ∙ h.message_comments distinct;
  signal_comments = λ distinct. sym (none_left same_signal [] (signal_keys_of all) g.signal_comments)
      ∙ h.signal_comments distinct;
  signal_values = λ distinct. sym (none_left same_signal [] (signal_keys_of all) g.signal_values)
      ∙ h.signal_values distinct;
  signal_types = λ distinct. sym (none_left same_signal Integer (signal_keys_of all) g.signal_types)
      ∙ h.signal_types distinct;
  signal_spns = λ distinct. sym (none_left same_signal 0 (signal_keys_of all) g.signal_spns) ∙ h.signal_spns distinct;
  passed = sym (append-nil (map start_and_keyword g.passed)) ∙ h.passed;
}
