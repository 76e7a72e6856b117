-- Statements that are gathered one by one after all definitions. What they attach to signals is in the messages' lines.
use Rattle.dbc_read.proofs.Common.{◌≡◌, ◌∙◌, ◌++◌, ℕ, suc, false, true, List, [], ◌∷◌, length, map, replicate, Option}
use Rattle.dbc_read.proofs.Common.{Some, None, refl, sym, ap, append_assoc, append-nil, subst, true≢false, IfSome}
use Rattle.dbc_read.proofs.Common.{flat_map, length-map, dbc_number, Keyword, Integer, keys_of, messages_of}
use Rattle.dbc_read.proofs.Common.{node_names_of, numbers_of, signal_keys_of, Cited, Token, Signal, content_of}
use Rattle.dbc_read.proofs.Common.{message_of, names_of, signal_of, statement_of, CitedSignal, Content, MessageLine}
use Rattle.dbc_read.proofs.Common.{NodeName, Statement}
use Rattle.dbc_grammar.specs.Statement as dbc
use Rattle.dbc_read.specs.Attaching.{AreIndicesOf, CitesSignalAt, IsAttached, all_signals, with_attachment, attaching}
use Rattle.dbc_read.specs.Attaching.{changed_at, cites_signal, in_signals, with_attached}
use Rattle.dbc_read.specs.Finding.{Finds, FindsAll, FindsSignals}
use Rattle.dbc_read.specs.Gathered.{AreGathered, gathered_after, passed_of, set_at}
use Rattle.dbc_read.specs.Gathering.{BeginWith, DefineNothing, Defines, Gathers, HaveNothing, IsDefining, IsEmpty}
use Rattle.dbc_read.specs.Gathering.{Settles, cites, defines, one_or_none, with_definitions, with_nothing_attached}
use Rattle.dbc_read.specs.Lookups.{IsCitedIndex, IsSignalIn}
use Rattle.dbc_read.specs.Numbers.{line_numbers}
use Rattle.dbc_read.specs.Orders.{AreOrdersOf}
use Rattle.dbc_read.specs.Settling.{AreSettled, Follow, ReadUpTo, SettlesTo}
use Rattle.dbc_read.specs.declared.attaching.Attachment.{Attachment}
use Rattle.dbc_read.specs.declared.attaching.Attachment.TheVariants as what
use Rattle.dbc_read.specs.declared.attaching.SignalIndices.{SignalIndices}
use Rattle.dbc_read.specs.declared.finding.Finders.{Finders}
use Rattle.dbc_read.specs.declared.gathered.Gathered.{Gathered}
use Rattle.dbc_read.specs.declared.passed.Passed.{Passed}
use Rattle.dbc_read.specs.declared.settling.Settled.{Settled}
use Rattle.dbc_read.specs.declared.settling.Settled.TheVariants as settled
use Rattle.dbc_read.proofs.Gathering.{all_gathered, one_gathered}
use Rattle.dbc_read.proofs.OneByOne.{begin_with_both, begin_with_rest, cited_defines_nothing, defined_either_way}
use Rattle.dbc_read.proofs.OneByOne.{defined_messages, defined_names, nothing_defined, same_messages, same_names}
use Rattle.dbc_read.proofs.SignalIndices.{change_leaves, change_sets, numbers_of_lines}
use Rattle.dbc_statements.specs.declared.statement.Content.TheVariants as content

-- What finds definitions finds them in lines of the same messages.

same_line_numbers : (old new : List MessageLine) → map message_of new ≡ map message_of old
    → line_numbers new ≡ line_numbers old
same_line_numbers old new same = sym (numbers_of_lines new)
    ∙ ap (map (λ (m : dbc.MessageLine). dbc_number m.ident)) same ∙ numbers_of_lines old

pub finds_same : (f : Finders) (old new : List MessageLine) (stated : List dbc.Statement)
    → map message_of new ≡ map message_of old → Finds f old stated → Finds f new stated
finds_same f old new stated same are = record {
  node_names = are.node_names;
  nodes = are.nodes;
  names = are.names;
  messages = same ∙ are.messages;
  numbers = are.numbers ∙ sym (same_line_numbers old new same);
}

pub finds_signals_same : (f : Finders) (old new : List MessageLine) → map message_of new ≡ map message_of old
    → FindsSignals f old → FindsSignals f new
finds_signals_same f old new same are = record {
  numbers = are.numbers ∙ sym (same_line_numbers old new same);
  orders = subst (λ ms. AreOrdersOf ms f.orders.items) (sym same) are.orders;
}

pub numbers_found : (f : Finders) (lines : List MessageLine) (stated : List dbc.Statement) → Finds f lines stated
    → f.numbers ≡ numbers_of stated
numbers_found f lines stated are = are.numbers ∙ sym (numbers_of_lines lines)
    ∙ ap (map (λ (m : dbc.MessageLine). dbc_number m.ident)) are.messages

one_settled : (f : Finders) (s : Statement) (index : Option ℕ) (lines new_lines : List MessageLine) (old now : Gathered)
    → defines (content_of s.content) ≡ false
    → ((all : List dbc.Statement) → Finds f lines all → IsCitedIndex all (content_of s.content) index)
    → with_attached new_lines now ≡ gathered_after index (passed_of s) s.content (with_attached lines old)
    → Settles f (statement_of s ∷ []) lines old new_lines now
one_settled f s index lines new_lines old now defines_none found is = λ all rest nodes messages are h.
    one_gathered all s rest index (with_definitions nodes messages (with_attached lines old))
    (with_definitions nodes messages (with_attached new_lines now)) (found all are)
    (ap (with_definitions nodes messages) is ∙ defined_either_way nodes messages index (passed_of s) s.content
    (with_attached lines old) defines_none) h

-- A statement that attaches nothing to a signal.

attached_either_way : (lines : List MessageLine) (index : Option ℕ) (p : Passed) (c : Content) (g : Gathered)
    → cites_signal c ≡ false
    → with_attached lines (gathered_after index p c g) ≡ gathered_after index p c (with_attached lines g)
attached_either_way lines index p (content.SignalComment cited text) g h = absurd (true≢false h)
attached_either_way lines index p (content.ValueTexts cited texts) g h = absurd (true≢false h)
attached_either_way lines index p (content.ValueType cited value_type) g h = absurd (true≢false h)
attached_either_way lines index p (content.Spn cited spn) g h = absurd (true≢false h)
attached_either_way lines index p c g h = refl

pub other_settled : (f : Finders) (s : Statement) (index : Option ℕ) (lines : List MessageLine) (old now : Gathered)
    → defines (content_of s.content) ≡ false → cites_signal s.content ≡ false
    → ((all : List dbc.Statement) → Finds f lines all → IsCitedIndex all (content_of s.content) index)
    → now ≡ gathered_after index (passed_of s) s.content old
    → Settles f (statement_of s ∷ []) lines old lines now
other_settled f s index lines old now defines_none cites_none found is =
    one_settled f s index lines lines old now defines_none found
    (ap (with_attached lines) is ∙ attached_either_way lines index (passed_of s) s.content old cites_none)

-- A statement that attaches something to a signal.

module _ (f : Signal → Signal) {V : Type 0} (get : Signal → V) where
  sets : (v : V) → ((s : Signal) → get (f s) ≡ v) → (index : Option ℕ) (xs : List Signal)
      → map get (changed_at f index xs) ≡ set_at index v (map get xs)
  sets v same None xs = refl
  sets v same (Some i) xs = change_sets f get v same xs i

  leaves : ((s : Signal) → get (f s) ≡ get s) → (index : Option ℕ) (xs : List Signal)
      → map get (changed_at f index xs) ≡ map get xs
  leaves same None xs = refl
  leaves same (Some i) xs = change_leaves f get same xs i

attached_view : (cited : CitedSignal) (a : Attachment) (p : Passed) (lines new_lines : List MessageLine)
    (old : Gathered) (passed : List Passed)
    → (at : IsAttached cited.number cited.name.now a p lines new_lines old.passed passed)
    → with_attached new_lines (record old { passed = passed }) ≡ gathered_after at.index p (attaching cited a)
    (with_attached lines old)
attached_view cited (what.Comment text) p lines new_lines old passed at =
    let e = at.signals in
    let g = with_attachment (what.Comment text) in
    let xs = all_signals lines in
    let comments = ap (map (λ (s : Signal). s.comment)) e ∙ sets g (λ (s : Signal). s.comment) text (λ s. refl) at.index
    xs in
    let values = ap (map (λ (s : Signal). s.values)) e ∙ leaves g (λ (s : Signal). s.values) (λ s. refl) at.index xs in
    let types = ap (map (λ (s : Signal). s.value_type)) e ∙ leaves g (λ (s : Signal). s.value_type) (λ s. refl) at.index
    xs in
    let spns = ap (map (λ (s : Signal). s.spn)) e ∙ leaves g (λ (s : Signal). s.spn) (λ s. refl) at.index xs in
    λ i. record old {
      signal_comments = comments i;
      signal_values = values i;
      signal_types = types i;
      signal_spns =
          spns i;
      passed = at.passed i;
    }
attached_view cited (what.Values texts) p lines new_lines old passed at =
    let e = at.signals in
    let g = with_attachment (what.Values texts) in
    let xs = all_signals lines in
    let comments = ap (map (λ (s : Signal). s.comment)) e
    ∙ leaves g (λ (s : Signal). s.comment) (λ s. refl) at.index xs in
    let values = ap (map (λ (s : Signal). s.values)) e ∙ sets g (λ (s : Signal). s.values) texts (λ s. refl) at.index
    xs in
    let types = ap (map (λ (s : Signal). s.value_type)) e ∙ leaves g (λ (s : Signal). s.value_type) (λ s. refl) at.index
    xs in
    let spns = ap (map (λ (s : Signal). s.spn)) e ∙ leaves g (λ (s : Signal). s.spn) (λ s. refl) at.index xs in
    λ i. record old {
      signal_comments = comments i;
      signal_values = values i;
      signal_types = types i;
      signal_spns =
          spns i;
      passed = at.passed i;
    }
attached_view cited (what.Type value_type) p lines new_lines old passed at =
    let e = at.signals in
    let g = with_attachment (what.Type value_type) in
    let xs = all_signals lines in
    let comments = ap (map (λ (s : Signal). s.comment)) e
    ∙ leaves g (λ (s : Signal). s.comment) (λ s. refl) at.index xs in
    let values = ap (map (λ (s : Signal). s.values)) e ∙ leaves g (λ (s : Signal). s.values) (λ s. refl) at.index xs in
    let types = ap (map (λ (s : Signal). s.value_type)) e ∙ sets g (λ (s : Signal). s.value_type) value_type (λ s. refl)
    at.index xs in
    let spns = ap (map (λ (s : Signal). s.spn)) e ∙ leaves g (λ (s : Signal). s.spn) (λ s. refl) at.index xs in
    λ i. record old {
      signal_comments = comments i;
      signal_values = values i;
      signal_types = types i;
      signal_spns =
          spns i;
      passed = at.passed i;
    }
attached_view cited (what.Spn spn) p lines new_lines old passed at =
    let e = at.signals in
    let g = with_attachment (what.Spn spn) in
    let xs = all_signals lines in
    let comments = ap (map (λ (s : Signal). s.comment)) e
    ∙ leaves g (λ (s : Signal). s.comment) (λ s. refl) at.index xs in
    let values = ap (map (λ (s : Signal). s.values)) e ∙ leaves g (λ (s : Signal). s.values) (λ s. refl) at.index xs in
    let types = ap (map (λ (s : Signal). s.value_type)) e ∙ leaves g (λ (s : Signal). s.value_type) (λ s. refl) at.index
    xs in
    let spns = ap (map (λ (s : Signal). s.spn)) e ∙ sets g (λ (s : Signal). s.spn) spn (λ s. refl) at.index xs in
    λ i. record old {
      signal_comments = comments i;
      signal_values = values i;
      signal_types = types i;
      signal_spns =
          spns i;
      passed = at.passed i;
    }

attached_index : (all : List dbc.Statement) (cited : CitedSignal) (a : Attachment) (index : Option ℕ)
    → IsSignalIn (messages_of all) cited.number cited.name.now index
    → IsCitedIndex all (content_of (attaching cited a)) index
attached_index all cited (what.Comment text) index h = h
attached_index all cited w index h = h

pub attached_settled : (f : Finders) (s : Statement) (cited : CitedSignal) (a : Attachment)
    (lines new_lines : List MessageLine) (old now : Gathered) (passed : List Passed)
    → defines (content_of s.content) ≡ false
    → s.content ≡ attaching cited a → IsAttached cited.number cited.name.now a (passed_of s) lines new_lines old.passed
    passed
    → now ≡ record old { passed = passed } → Settles f (statement_of s ∷ []) lines old new_lines now
attached_settled f s cited a lines new_lines old now passed defines_none says_what at is =
    one_settled f s at.index lines new_lines old now defines_none
    (λ all are. subst (λ c. IsCitedIndex all (content_of c) at.index) (sym says_what)
    (attached_index all cited a at.index
    (subst (λ (ms : List dbc.MessageLine). IsSignalIn ms cited.number cited.name.now at.index) are.messages at.is)))
    (ap (with_attached new_lines) is ∙ attached_view cited a (passed_of s) lines new_lines old passed at
    ∙ ap (λ c. gathered_after at.index (passed_of s) c (with_attached lines old)) (sym says_what))

-- the indices of the signal that it cites
indices_of_cited : (lines : List MessageLine) (c : Content) (cited : CitedSignal) (a : Attachment)
    (indices : Option SignalIndices) → CitesSignalAt lines c indices → c ≡ attaching cited a
    → AreIndicesOf lines cited.number cited.name.now indices
indices_of_cited lines c cited a indices h is = by a (subst (λ (k : Content). CitesSignalAt lines k indices) is h)
  where
    by : (b : Attachment) → CitesSignalAt lines (attaching cited b) indices
        → AreIndicesOf lines cited.number cited.name.now indices
    by (what.Comment text) k = k
    by (what.Values texts) k = k
    by (what.Type value_type) k = k
    by (what.Spn spn) k = k

-- the same of a statement in parts, where the indices of the signal that it cites are known
pub attached_parts : (f : Finders) (s : Statement) (parts : ℕ × Keyword × Content) (cited : CitedSignal)
    (a : Attachment) (indices : Option SignalIndices) (lines new_lines : List MessageLine) (old : Gathered)
    (passed : List Passed)
    → defines (content_of s.content) ≡ false → parts ≡ (s.start, s.keyword, s.content) → parts.2 ≡ attaching cited a
    → CitesSignalAt lines s.content indices
    → ((number : Cited) (name : List ℕ) → AreIndicesOf lines number name indices
    → IsAttached number name a (record { at = parts.0; keyword = parts.1 }) lines new_lines old.passed passed)
    → Settles f (statement_of s ∷ []) lines old new_lines (record old { passed = passed })
attached_parts f s parts cited a indices lines new_lines old passed defines_none are says_what found at =
    let what_is : s.content ≡ attaching cited a = sym (ap (λ (t : ℕ × Keyword × Content). t.2) are) ∙ says_what in
    attached_settled f s cited a lines new_lines old (record old { passed = passed }) passed defines_none what_is
    (subst (λ (t : ℕ × Keyword × Content). IsAttached cited.number cited.name.now a (record { at = t.0; keyword = t.1 })
    lines new_lines old.passed passed) are
    (at cited.number cited.name.now (indices_of_cited lines s.content cited a indices found what_is))) refl

pub other_parts : (f : Finders) (s : Statement) (parts : ℕ × Keyword × Content) (index : Option ℕ)
    (lines : List MessageLine) (old now : Gathered) → defines (content_of s.content) ≡ false
    → parts ≡ (s.start, s.keyword, s.content) → cites_signal parts.2 ≡ false
    → ((all : List dbc.Statement) → Finds f lines all → IsCitedIndex all (content_of parts.2) index)
    → now ≡ gathered_after index (record { at = parts.0; keyword = parts.1 }) parts.2 old
    → Settles f (statement_of s ∷ []) lines old lines now
other_parts f s parts index lines old now defines_none are cites_none found is =
    other_settled f s index lines old now defines_none
    (subst (λ (t : ℕ × Keyword × Content). cites_signal t.2 ≡ false) are cites_none)
    (subst (λ (t : ℕ × Keyword × Content). (all : List dbc.Statement) → Finds f lines all
    → IsCitedIndex all (content_of t.2) index) are found)
    (is ∙ ap (λ (t : ℕ × Keyword × Content). gathered_after index (record { at = t.0; keyword = t.1 }) t.2 old) are)

-- Several statements.

pub none_settled : (f : Finders) (lines : List MessageLine) (g : Gathered) → Settles f [] lines g lines g
none_settled f lines g = λ all rest nodes messages are h. h

pub settled_both : (f : Finders) (first second : List dbc.Statement) (a_lines b_lines c_lines : List MessageLine)
    (a b c : Gathered) → map message_of b_lines ≡ map message_of a_lines
    → Settles f first a_lines a b_lines b → Settles f second b_lines b c_lines c
    → Settles f (first ++ second) a_lines a c_lines c
settled_both f first second a_lines b_lines c_lines a b c same h k = λ all rest nodes messages are g.
    k all rest nodes messages (finds_same f a_lines b_lines all same are)
    (h all (second ++ rest) nodes messages are
    (subst (Gathers all (with_definitions nodes messages (with_attached a_lines a)))
    (append_assoc first second rest) g))

count_keys : (lines : List MessageLine) → length (flat_map keys_of (map message_of lines)) ≡ length (all_signals lines)
count_keys [] = refl
count_keys (line ∷ lines) = by line.signals.items (count_keys lines)
  where
    by : (items : List Signal) → length (flat_map keys_of (map message_of lines)) ≡ length (all_signals lines)
        → length (map (λ (s : dbc.SignalLine). (dbc_number line.ident, s.name)) (map signal_of items)
        ++ flat_map keys_of (map message_of lines)) ≡ length (items ++ all_signals lines)
    by [] e = e
    by (s ∷ items) e = ap suc (by items e)

-- Nothing is attached at first.
pub begun_with : (stated : List dbc.Statement) (nodes : List NodeName) (lines : List MessageLine)
    (old attached : Gathered) → names_of nodes ≡ node_names_of stated → map message_of lines ≡ messages_of stated
    → HaveNothing lines
    → attached ≡ record old {
      node_comments = replicate (length nodes) [];
      message_comments =
          replicate (length lines) [];
    } → with_attached lines attached ≡ with_nothing_attached stated old
begun_with stated nodes lines old attached names messages nothing begins =
    let node_count : length nodes ≡ length (node_names_of stated) = sym (length-map nodes (λ (n : NodeName). n.name))
    ∙ ap length names in
    let message_count : length lines ≡ length (numbers_of stated)
    = sym (length-map lines message_of) ∙ ap length messages
    ∙ sym (length-map (messages_of stated) (λ (m : dbc.MessageLine). dbc_number m.ident)) in
    let signal_count : length (all_signals lines) ≡ length (signal_keys_of stated) = sym (count_keys lines)
    ∙ ap (λ ms. length (flat_map keys_of ms)) messages in
    ap (with_attached lines) begins
    ∙ nothing (record old {
      node_comments = replicate (length nodes) [];
      message_comments =
          replicate (length lines) [];
    })
    ∙ (λ i. record old {
      node_comments = replicate (node_count i) [];
      message_comments = replicate (message_count i) [];
      signal_comments = replicate (signal_count i) [];
      signal_values = replicate (signal_count i) [];
      signal_types = replicate (signal_count i) Integer;
      signal_spns = replicate (signal_count i) 0;
    })

-- all are gathered, where nothing is left
pub gathered_with : (all : List dbc.Statement) (nodes other_nodes : List NodeName)
    (lines other_lines : List MessageLine) (g : Gathered) → Gathers all (with_definitions nodes lines g) []
    → names_of other_nodes ≡ node_names_of all → map message_of other_lines ≡ messages_of all
    → AreGathered all (with_definitions other_nodes other_lines g)
gathered_with all nodes other_nodes lines other_lines g h names messages =
    let are = all_gathered all (with_definitions nodes lines g) h in
    record {
      version = are.version;
      comment = are.comment;
      nodes = names;
      tables = are.tables;
      messages = messages;
      node_comments = are.node_comments;
      message_comments = are.message_comments;
      signal_comments = are.signal_comments;
      signal_values = are.signal_values;
      signal_types = are.signal_types;
      signal_spns = are.signal_spns;
      passed = are.passed;
    }

pub defining_nothing : (xs ys : List dbc.Statement) → DefineNothing xs → DefineNothing ys → DefineNothing (xs ++ ys)
defining_nothing [] ys h k = k
defining_nothing (x ∷ xs) ys h k = (h.0, defining_nothing xs ys h.1 k)

first_defines_nothing : (first : Option Statement) → IfSome first (λ s. cites (content_of s.content) ≡ true)
    → DefineNothing (one_or_none first)
first_defines_nothing None h = tt
first_defines_nothing (Some s) h = (cited_defines_nothing (content_of s.content) h, tt)

-- Those after the definitions: first one statement is gathered, and then the others.
pub all_follow : (f : Finders) (nodes : List NodeName) (lines settled_lines new_lines : List MessageLine)
    (first : Option Statement) (end : Settled) (tokens rest : List Token) (old attached settled now : Gathered)
    → IfSome first (λ s. cites (content_of s.content) ≡ true) → FindsAll f nodes lines → HaveNothing lines
    → attached ≡ record old {
      node_comments = replicate (length nodes) [];
      message_comments =
          replicate (length lines) [];
    }
    → map message_of settled_lines ≡ map message_of lines → map message_of new_lines ≡ map message_of settled_lines
    → Settles f (one_or_none first) lines attached settled_lines settled
    → SettlesTo f end tokens rest settled_lines settled new_lines now
    → Follow nodes lines first end tokens rest old new_lines now
all_follow f nodes lines settled_lines new_lines first end tokens rest old attached settled now citing found nothing
    begins same_first same_others one others = record {
      stated = others.stated;
      read = others.read;
      gathered = λ before h.
          let more : List dbc.Statement = one_or_none first ++ others.stated in
          let all : List dbc.Statement = before ++ more in
          let none : DefineNothing more =
          defining_nothing (one_or_none first) others.stated (first_defines_nothing first citing) others.none in
          let g : Gathered = with_definitions nodes lines old in
          let names : names_of nodes ≡ node_names_of all = defined_names before g h ∙ sym (same_names before more none) in
          let messages : map message_of lines ≡ messages_of all = defined_messages before g h
          ∙ sym (same_messages before more none) in
          let begun : with_attached lines attached ≡ with_nothing_attached all old =
          begun_with all nodes lines old attached names messages nothing begins in
          let start : Gathers all (with_definitions nodes lines (with_attached lines attached)) more =
          subst (λ (x : Gathered). Gathers all (with_definitions nodes lines x) more) (sym begun) (h more) in
          let both : Settles f more lines attached new_lines now =
          settled_both f (one_or_none first) others.stated lines settled_lines new_lines attached settled now
          same_first one others.gathered in
          let end : Gathers all (with_definitions nodes lines (with_attached new_lines now)) []
          = both all [] nodes lines (found all names messages)
          (subst (Gathers all (with_definitions nodes lines (with_attached lines attached))) (sym (append-nil more))
          start) in
          subst (λ (x : List dbc.Statement). AreGathered x (with_definitions nodes new_lines (with_attached new_lines now)))
          (sym (append_assoc before (one_or_none first) others.stated))
          (gathered_with all nodes nodes lines new_lines (with_attached new_lines now) end names
          (same_others ∙ same_first ∙ messages));
    }

-- All statements up to the late one: those up to the first that cites something, that one, and those after it.

read_before : (end : Settled) (before stated : List dbc.Statement) (tokens middle rest : List Token)
    → BeginWith before tokens middle → ReadUpTo end stated middle rest → ReadUpTo end (before ++ stated) tokens rest
read_before settled.All before stated tokens middle rest h k = begin_with_rest before stated tokens middle h k
read_before (settled.UpTo late) before stated tokens middle rest h k =
    begin_with_both before stated (statement_of late) tokens middle rest h k

pub all_settled : (end : Settled) (tokens middle rest : List Token) (empty g old now : Gathered)
    (first : Option Statement) (nodes seen_nodes : List NodeName) (lines new_lines : List MessageLine)
    → nodes ≡ g.nodes → seen_nodes ≡ g.nodes → lines ≡ g.messages → old ≡ with_definitions [] [] g
    → IsEmpty empty → Defines tokens middle empty g first
    → Follow seen_nodes lines first end middle rest old new_lines now
    → AreSettled end tokens rest (in_signals (with_definitions nodes new_lines now))
all_settled end tokens middle rest empty g old now first nodes seen_nodes lines new_lines nodes_are seen_nodes_are
    lines_are old_is is begun others =
    let stated = begun.stated in
    let defining : IsDefining stated (with_definitions seen_nodes lines old) =
    subst (IsDefining stated) (λ i. with_definitions (sym seen_nodes_are i) (sym lines_are i) (sym old_is i))
    (begun.gathered (nothing_defined empty is)) in
    record {
      stated = (stated ++ one_or_none first) ++ others.stated;
      read = read_before end (stated ++ one_or_none first) others.stated tokens middle rest begun.read others.read;
      gathered = subst (λ (x : List NodeName). AreGathered ((stated ++ one_or_none first) ++ others.stated)
          (in_signals (with_definitions x new_lines now))) (seen_nodes_are ∙ sym nodes_are)
          (others.gathered stated defining);
    }
