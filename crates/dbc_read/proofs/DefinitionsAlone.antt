-- Definitions that are gathered without what other statements say: a fault of them is one of the whole text.
use Rattle.dbc_read.proofs.Common.{◌≡◌, ◌∙◌, ◌++◌, ℕ, nat_eq, nat_lt, Bool, true, false, if◌then◌else◌, List, [], ◌∷◌}
use Rattle.dbc_read.proofs.Common.{length, map, Option, Some, None, refl, sym, ap, append_assoc, append-nil, arith}
use Rattle.dbc_read.proofs.Common.{subst, true≢false, IfSome, unwrap_or, AllByRecursion, cons_option, flat_map, last_or}
use Rattle.dbc_read.proofs.Common.{option_map, bytes_eq, nat_tests, map-append, filter_map-append, value_text_limit}
use Rattle.dbc_read.proofs.Common.{Keyword, Integer, SignalKey, comment_in, each_in, last_at, last_value_of}
use Rattle.dbc_read.proofs.Common.{message_comment_in, message_in, messages_of, node_comment_in, node_names_of}
use Rattle.dbc_read.proofs.Common.{nodes_in, numbers_of, passed_by, same_signal, signal_comment_in, signal_keys_of}
use Rattle.dbc_read.proofs.Common.{spn_in, table_in, value_texts_in, value_type_in, version_in, statements_at, Token}
use Rattle.dbc_read.proofs.Common.{AreFewTexts, ValueText, ReadFault, IsDivided, table_of, content_of, message_of}
use Rattle.dbc_read.proofs.Common.{names_of, statement_of, Content, NodeName, Statement}
use Rattle.std.proofs.lemmas.Grind.{flat_map-append}
use Rattle.dbc_grammar.specs.Statement as dbc
use Rattle.dbc_read.specs.Definitions.{AreDefinitions, HaveFewTexts, IsDefinitionFault, TokensHaveManyTexts}
use Rattle.dbc_read.specs.Definitions.{has_many_texts, is_definition}
use Rattle.dbc_read.specs.Faults.{AreDefined, IsFaultOfDefinitions}
use Rattle.dbc_read.specs.Faults as faults
use Rattle.dbc_read.specs.Gathered.{AreGathered, gathered_after, passed_of}
use Rattle.dbc_read.specs.Gathering.{BeginWith, IsEmpty}
use Rattle.dbc_read.specs.Passed.{start_and_keyword}
use Rattle.dbc_read.specs.Reading.{CanNeverBeSheet}
use Rattle.dbc_read.specs.declared.gathered.Gathered.{Gathered}
use Rattle.dbc_read.specs.declared.passed.Passed.{Passed}
use Rattle.dbc_read.proofs.Faultless.{can_be_sheet}
use Rattle.dbc_read.proofs.Refused.{each_middle}
use Rattle.dbc_statements.specs.declared.statement.Content.TheVariants as content

-- Statements one by one.

pub none_defined : (g : Gathered) → IsEmpty g → AreDefinitions [] g
none_defined g is = record {
  nodes = ap names_of is.nodes;
  tables = ap (map table_of) is.tables;
  messages =
      ap (map message_of) is.messages;
}

-- what one more statement defines comes after what the others do
names_with_one : (stated : List dbc.Statement) (s : dbc.Statement)
    → node_names_of (stated ++ s ∷ []) ≡ node_names_of stated ++ node_names_of (s ∷ [])
names_with_one stated s =
    ap (flat_map (λ (names : List (List ℕ)). names))
    (filter_map-append (λ (x : dbc.Statement). nodes_in x.content) stated (s ∷ []))
    ∙ flat_map-append (λ (names : List (List ℕ)). names) (each_in nodes_in stated) (each_in nodes_in (s ∷ []))

-- what a statement adds to the definitions
record Adds (s : dbc.Statement) (old now : Gathered) : Type 0 where
  pub nodes : names_of now.nodes ≡ names_of old.nodes ++ node_names_of (s ∷ [])
  pub tables : map table_of now.tables ≡ map table_of old.tables ++ each_in table_in (s ∷ [])
  pub messages : map message_of now.messages ≡ map message_of old.messages ++ messages_of (s ∷ [])

adds_nothing : (start : ℕ) (keyword : Keyword) (c : dbc.Content) (g : Gathered) → is_definition c ≡ false
    → Adds (record { start = start; keyword = keyword; content = c }) g g
adds_nothing start keyword (dbc.NodesAre names) g h = absurd (true≢false h)
adds_nothing start keyword (dbc.TableIs name entries) g h = absurd (true≢false h)
adds_nothing start keyword (dbc.MessageIs line) g h = absurd (true≢false h)
adds_nothing start keyword c g h =
    record {
      nodes = sym (append-nil (names_of g.nodes));
      tables = sym (append-nil (map table_of g.tables));
      messages =
          sym (append-nil (map message_of g.messages));
    }

adds_itself : (start : ℕ) (keyword : Keyword) (c : Content) (p : Passed) (g : Gathered)
    → Adds (record { start = start; keyword = keyword; content = content_of c }) g (gathered_after None p c g)
adds_itself start keyword (content.Nodes nodes) p g = record {
  nodes = map-append (λ (n : NodeName). n.name) g.nodes nodes.items
      ∙ ap (λ l. names_of g.nodes ++ l) (sym (append-nil (names_of nodes.items)));
  tables = sym (append-nil (map table_of g.tables));
  messages = sym (append-nil (map message_of g.messages));
}
adds_itself start keyword (content.Table line) p g = record {
  nodes = sym (append-nil (names_of g.nodes));
  tables = map-append table_of g.tables (line.value ∷ []);
  messages = sym (append-nil (map message_of g.messages));
}
adds_itself start keyword (content.Message line) p g = record {
  nodes = sym (append-nil (names_of g.nodes));
  tables = sym (append-nil (map table_of g.tables));
  messages = map-append message_of g.messages (line.value ∷ []);
}
adds_itself start keyword c p g =
    record {
      nodes = sym (append-nil (names_of g.nodes));
      tables = sym (append-nil (map table_of g.tables));
      messages =
          sym (append-nil (map message_of g.messages));
    }

with_one : (stated : List dbc.Statement) (s : dbc.Statement) (old now : Gathered) → Adds s old now
    → AreDefinitions stated old → AreDefinitions (stated ++ s ∷ []) now
with_one stated s old now adds are = record {
  nodes = adds.nodes ∙ ap (λ l. l ++ node_names_of (s ∷ [])) are.nodes ∙ sym (names_with_one stated s);
  tables = adds.tables ∙ ap (λ l. l ++ each_in table_in (s ∷ [])) are.tables
      ∙ sym (filter_map-append (λ (x : dbc.Statement). table_in x.content) stated (s ∷ []));
  messages = adds.messages ∙ ap (λ l. l ++ messages_of (s ∷ [])) are.messages
      ∙ sym (filter_map-append (λ (x : dbc.Statement). message_in x.content) stated (s ∷ []));
}

-- a statement that is dropped, and one that is gathered
pub one_dropped : (s : Statement) (g : Gathered) → is_definition (content_of s.content) ≡ false
    → (stated : List dbc.Statement) → AreDefinitions stated g → AreDefinitions (stated ++ statement_of s ∷ []) g
one_dropped s g none stated =
    with_one stated (statement_of s) g g (adds_nothing s.start s.keyword (content_of s.content) g none)

pub one_gathered : (s : Statement) (old now : Gathered) → now ≡ gathered_after None (passed_of s) s.content old
    → (stated : List dbc.Statement) → AreDefinitions stated old → AreDefinitions (stated ++ statement_of s ∷ []) now
one_gathered s old now is stated are =
    let h = with_one stated (statement_of s) old (gathered_after None (passed_of s) s.content old)
    (adds_itself s.start s.keyword s.content (passed_of s) old) are in
    rw is h

pub few_with_one : (stated : List dbc.Statement) (s : dbc.Statement) → HaveFewTexts stated
    → has_many_texts s.content ≡ false → HaveFewTexts (stated ++ s ∷ [])
few_with_one [] s h few = (few, tt)
few_with_one (x ∷ stated) s h few = (h.0, few_with_one stated s h.1 few)

-- a statement with too many texts is one of all
pub many_stated : (stated : List dbc.Statement) (s : dbc.Statement) (tokens rest : List Token)
    → BeginWith (stated ++ s ∷ []) tokens rest → has_many_texts s.content ≡ true → TokensHaveManyTexts tokens
many_stated stated s tokens rest read many all is = λ few. by few (statements_at rest) (sym is ∙ read)
  where
    by : HaveFewTexts all → (o : Option (List dbc.Statement))
        → Some all ≡ option_map (λ others. (stated ++ s ∷ []) ++ others) o → ⊥
    by few None e = absurd cc
    by few (Some others) e =
        let same : all ≡ (stated ++ s ∷ []) ++ others = cc in
        let none : has_many_texts s.content ≡ false
        = each_middle (λ (x : dbc.Statement). has_many_texts x.content ≡ false) stated s others
        (subst HaveFewTexts (same ∙ append_assoc stated (s ∷ []) others) few) in
        true≢false (sym many ∙ none)

-- Where no statement has too many texts, no signal has.

few_texts : (texts : List ValueText) → nat_lt value_text_limit (length texts) ≡ false → AreFewTexts texts
few_texts texts h = grind (arith, nat_tests)

each_few : (stated : List dbc.Statement) → HaveFewTexts stated
    → AllByRecursion (λ (p : SignalKey × List ValueText). AreFewTexts p.1) (each_in value_texts_in stated)
each_few [] h = tt
each_few (s ∷ stated) h = by s.content h.0 (each_few stated h.1)
  where
    by : (c : dbc.Content) → has_many_texts c ≡ false
        → AllByRecursion (λ (p : SignalKey × List ValueText). AreFewTexts p.1) (each_in value_texts_in stated)
        → AllByRecursion (λ (p : SignalKey × List ValueText). AreFewTexts p.1)
        (cons_option (value_texts_in c) (each_in value_texts_in stated))
    by (dbc.ValueTextsAre None name texts) few rest = rest
    by (dbc.ValueTextsAre (Some number) name texts) few rest = (few_texts texts few, rest)
    by c few rest = rest

last_few : (key : SignalKey) (o : Option (List ValueText)) (ps : List (SignalKey × List ValueText))
    → IfSome o AreFewTexts → AllByRecursion (λ (p : SignalKey × List ValueText). AreFewTexts p.1) ps
    → AreFewTexts (unwrap_or (last_at same_signal key o ps) [])
last_few key None [] h each = omega arith
last_few key (Some texts) [] h each = h
last_few key o (p ∷ ps) h each =
    last_few key (if same_signal p.0 key then Some p.1 else o) ps (by (same_signal p.0 key)) each.1
  where
    by : (b : Bool) → IfSome (if b then Some p.1 else o) AreFewTexts
    by true = each.0
    by false = h

module _ (stated : List dbc.Statement) where
  texts_few : HaveFewTexts stated → (keys : List SignalKey)
      → AllByRecursion AreFewTexts (map (λ key. last_value_of same_signal key [] value_texts_in stated) keys)
  texts_few h [] = tt
  texts_few h (key ∷ keys) =
      (last_few key None (each_in value_texts_in stated) tt (each_few stated h), texts_few h keys)

  abbrev pub as_passed : List (ℕ × Keyword) → List Passed
  as_passed skipped = map (λ (p : ℕ × Keyword). record { at = p.0; keyword = p.1 }) skipped

  same_passed : (skipped : List (ℕ × Keyword)) → map start_and_keyword (as_passed skipped) ≡ skipped
  same_passed [] = refl
  same_passed (p ∷ skipped) = ap (λ l. p ∷ l) (same_passed skipped)

  -- the definitions, with all else that the statements say
  abbrev pub with_others : Gathered → Gathered
  with_others g = record g {
    version = last_or None (each_in version_in stated);
    comment = last_or None (each_in comment_in stated);
    node_comments = map (λ name. last_value_of bytes_eq name [] node_comment_in stated) (node_names_of stated);
    message_comments = map (λ number. last_value_of nat_eq number [] message_comment_in stated) (numbers_of stated);
    signal_comments = map (λ key. last_value_of same_signal key [] signal_comment_in stated) (signal_keys_of stated);
    signal_values = map (λ key. last_value_of same_signal key [] value_texts_in stated) (signal_keys_of stated);
    signal_types = map (λ key. last_value_of same_signal key Integer value_type_in stated) (signal_keys_of stated);
    signal_spns = map (λ key. last_value_of same_signal key 0 spn_in stated) (signal_keys_of stated);
    passed = as_passed (passed_by stated);
  }

  module _ (g : Gathered) (are : AreDefinitions stated g) where
    all_gathered : AreGathered stated (with_others g)
    all_gathered = record {
      version = refl;
      comment = refl;
      nodes = are.nodes;
      tables = are.tables;
      messages = are.messages;
      node_comments = λ distinct. refl;
      message_comments = λ distinct. refl;
      signal_comments = λ distinct. refl;
      signal_values = λ distinct. refl;
      signal_types = λ distinct. refl;
      signal_spns = λ distinct. refl;
      passed = same_passed (passed_by stated);
    }

    module _ (bytes : List ℕ) (divided : IsDivided bytes stated) (few : HaveFewTexts stated) where
      -- a fault of the definitions is one of the text
      pub fault_of_text : (fault : ReadFault) → IsFaultOfDefinitions g fault → IsDefinitionFault bytes fault
      fault_of_text fault is = record {
        gathered = with_others g;
        of = record { stated = stated; divided = divided; gathered = all_gathered };
        is = other_parts fault is;
        values = texts_few few (signal_keys_of stated);
      }
        where
          other_parts : (f : ReadFault) → IsFaultOfDefinitions g f → IsFaultOfDefinitions (with_others g) f
          other_parts f (faults.node h) = faults.node h
          other_parts f (faults.table h) = faults.table h
          other_parts f (faults.messages h) = faults.messages h
          other_parts f (faults.table_entries h) = faults.table_entries h

      -- and if there is none, the text can be a sheet
      pub fault_is_found : CanNeverBeSheet bytes → ¬ AreDefined g
      fault_is_found never = λ defined. never stated divided (with_others g) all_gathered
          (can_be_sheet (with_others g)
          (record {
            nodes = defined.nodes;
            tables = defined.tables;
            messages = defined.messages;
            entries =
                defined.entries;
          }) (texts_few few (signal_keys_of stated)))
