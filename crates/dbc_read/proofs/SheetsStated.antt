-- What is gathered of statements: the sheet that is built of it is the one that they say, and if it can't be in one
-- sheet, they say none.
use Rattle.dbc_read.proofs.Common.{◌≡◌, ◌==◌, ◌∙◌, ◌++◌, ℕ, List, [], ◌∷◌, map, nat_eq, ap, sym, subst, IsPermutation}
use Rattle.dbc_read.proofs.Common.{unwrap_or, AllByRecursion, IsDistinct, flat_map, bytes_eq, IsPermutation-sym}
use Rattle.dbc_read.proofs.Common.{IsDistinct-IsPermutation, dbc_number, AreNamedApart, number_of, Says, SignalKey}
use Rattle.dbc_read.proofs.Common.{keys_of, last_value_of, messages_of, node_names_of, numbers_of, same_signal}
use Rattle.dbc_read.proofs.Common.{signal_keys_of, value_texts_in, whole_message, whole_node, whole_signal, node_name}
use Rattle.dbc_read.proofs.Common.{signal_name, SignalLine, AreFewTexts, AreRostered, Message, Sheet, ValueText}
use Rattle.dbc_read.proofs.Common.{all_permutation, message_of, names_of}
use Rattle.dbc_sheet.specs.Form.{IsSheet}
use Rattle.dbc_grammar.specs.Statement.{MessageLine, Statement}
use Rattle.dbc_sheet.specs.WellFormed.{IsWellFormedMessage}
use Rattle.dbc_grammar.proofs.AscendingUnique.{distinct_if_ascending}
use Rattle.dbc_read.specs.Built.{CanBeSheet, IsBuilt, feeds_in, messages_from, messages_in, nodes_from, nodes_in}
use Rattle.dbc_read.specs.Built.{tables_in}
use Rattle.dbc_read.specs.Fit.{CanShareSheet, HaveFewTexts, IsFit, TablesFit}
use Rattle.dbc_read.specs.Gathered.{AreGathered}
use Rattle.dbc_read.specs.Sheets.{SaysNothing}
use Rattle.dbc_read.specs.declared.feed.Feeds.{Feeds}
use Rattle.dbc_read.specs.declared.gathered.Gathered.{Gathered}
use Rattle.dbc_read.proofs.DistinctNames.{keys_apart, line_number, names_apart, numbers_apart}
use Rattle.dbc_read.proofs.SheetsFit.{number_flip, share_in_any_order}
use Rattle.dbc_read.proofs.WholeParts.{feeds_stated, message_comment, messages_whole, node_comment, nodes_whole}

each_named_apart : (ms : List Message) → AllByRecursion IsWellFormedMessage ms
    → AllByRecursion (λ (m : Message). AreNamedApart signal_name m.signals) ms
each_named_apart [] h = tt
each_named_apart (m ∷ ms) h = (h.0.signals.apart, each_named_apart ms h.1)

fit_each : (ms : List Message) → AllByRecursion IsWellFormedMessage ms → AllByRecursion IsFit ms
fit_each [] h = tt
fit_each (m ∷ ms) h = (record { together = h.0.signals; values = h.0.values }, fit_each ms h.1)

-- The messages of a sheet, in another order: numbers differ, and names of signals in each message.
module _ (s : Sheet) (is : IsSheet s) (ms : List Message) (p : IsPermutation ms s.messages) where
  numbers_of_sheet : IsDistinct (λ a b. number_of a == number_of b) ms
  numbers_of_sheet =
      IsDistinct-IsPermutation (λ a b. number_of a == number_of b) number_flip s.messages ms (IsPermutation-sym _ _ p)
      (distinct_if_ascending number_of s.messages is.well_formed.together.ascending)

  names_of_sheet : AllByRecursion (λ (m : Message). AreNamedApart signal_name m.signals) ms
  names_of_sheet = each_named_apart ms
      (all_permutation IsWellFormedMessage s.messages ms (IsPermutation-sym _ _ p) is.well_formed.messages)

module _ (ss : List Statement) (g : Gathered) (are : AreGathered ss g) where
  abbrev texts_stated : SignalKey → List ValueText
  texts_stated key = last_value_of same_signal key [] value_texts_in ss

  -- names and numbers are single, so each thing takes what the statements say of it
  record AreSingle : Type 0 where
    pub names : IsDistinct bytes_eq (node_names_of ss)
    pub numbers : IsDistinct nat_eq (numbers_of ss)
    pub keys : IsDistinct same_signal (signal_keys_of ss)

  nodes_are : AreSingle → nodes_in g ≡ map (whole_node ss) (node_names_of ss)
  nodes_are single = (λ i. nodes_from (are.nodes i) (are.node_comments single.names i))
      ∙ nodes_whole ss (node_names_of ss)

  messages_are : AreSingle → messages_in g ≡ map (whole_message ss) (messages_of ss)
  messages_are single =
      (λ i. messages_from (are.messages i) (are.message_comments single.numbers i)
      (record {
        comments = are.signal_comments single.keys i;
        values = are.signal_values single.keys i;
        types =
            are.signal_types single.keys i;
        spns = are.signal_spns single.keys i;
      }))
      ∙ messages_whole ss (messages_of ss)

  module _ (s : Sheet) (is : IsSheet s) where
    single_in : (comments message_comments : List (List ℕ)) (f : Feeds)
        → s.nodes ≡ nodes_from (node_names_of ss) comments
        → IsPermutation (messages_from (messages_of ss) message_comments f) s.messages → AreSingle
    single_in comments message_comments f nodes p = record {
      names = names_apart (node_names_of ss) comments
          (subst (AreNamedApart node_name) nodes is.well_formed.nodes.apart);
      numbers = numbers_apart (messages_of ss) message_comments f (numbers_of_sheet s is _ p);
      keys = keys_apart (messages_of ss) message_comments f (numbers_of_sheet s is _ p) (names_of_sheet s is _ p);
    }

  single_built : (s : Sheet) → IsBuilt g s → AreSingle
  single_built s built =
      single_in s built.is_sheet g.node_comments g.message_comments (feeds_in g)
      (built.nodes ∙ ap (λ names. nodes_from names g.node_comments) are.nodes)
      (subst (λ lines. IsPermutation (messages_from lines g.message_comments (feeds_in g)) s.messages) are.messages
      built.messages)

  single_stated : (s : Sheet) → Says ss s → AreSingle
  single_stated s says =
      single_in s says.is_sheet (map (node_comment ss) (node_names_of ss)) (map (message_comment ss) (numbers_of ss))
      (feeds_stated ss (signal_keys_of ss))
      (says.nodes ∙ sym (nodes_whole ss (node_names_of ss)))
      (subst (λ ms. IsPermutation ms s.messages) (sym (messages_whole ss (messages_of ss))) says.messages)

  pub says_built : (s : Sheet) → IsBuilt g s → Says ss s
  says_built s built =
      let single = single_built s built in
      record {
        is_sheet = built.is_sheet;
        version = built.version ∙ ap (λ o. unwrap_or o []) are.version;
        comment = built.comment ∙ ap (λ o. unwrap_or o []) are.comment;
        nodes = built.nodes ∙ nodes_are single;
        tables = built.tables ∙ are.tables;
        messages = subst (λ ms. IsPermutation ms s.messages) (messages_are single) built.messages;
      }

  fit_names : (ms : List Message) → AllByRecursion IsFit ms
      → AllByRecursion (λ (m : Message). AreNamedApart signal_name m.signals) ms
  fit_names [] h = tt
  fit_names (m ∷ ms) h = (h.0.together.apart, fit_names ms h.1)

  single_if_sheet : CanBeSheet g → AreSingle
  single_if_sheet h =
      let lines = map message_of g.messages in
      let numbers = h.together.numbers in
      record {
        names = subst (IsDistinct bytes_eq) are.nodes (names_apart (names_of g.nodes) g.node_comments h.nodes.apart);
        numbers = subst (λ ls. IsDistinct nat_eq (map line_number ls)) are.messages
            (numbers_apart lines g.message_comments (feeds_in g) numbers);
        keys = subst (λ ls. IsDistinct same_signal (flat_map keys_of ls)) are.messages
            (keys_apart lines g.message_comments (feeds_in g) numbers (fit_names (messages_in g) h.messages));
      }

  can_if_stated : (s : Sheet) → Says ss s → CanBeSheet g
  can_if_stated s says =
      let single = single_stated s says in
      let t = says.is_sheet.well_formed.together in
      let p = subst (λ ms. IsPermutation ms s.messages) (sym (messages_are single)) says.messages in
      record {
        nodes = subst (AreRostered node_name) (says.nodes ∙ sym (nodes_are single)) says.is_sheet.well_formed.nodes;
        tables = subst TablesFit (says.tables ∙ sym are.tables)
            (record { together = says.is_sheet.well_formed.tables; entries = says.is_sheet.well_formed.entries });
        messages = all_permutation IsFit s.messages _ (IsPermutation-sym _ _ p)
            (fit_each s.messages says.is_sheet.well_formed.messages);
        together = share_in_any_order s.messages _ (IsPermutation-sym _ _ p)
            (record { numbers = distinct_if_ascending number_of s.messages t.ascending; names = t.apart; few = t.few });
      }

  -- in a sheet each signal takes its texts, so they are few
  signals_few : (number : ℕ) (lines : List SignalLine)
      → AllByRecursion HaveFewTexts (map (whole_signal ss number) lines) → (more : List SignalKey)
      → AllByRecursion AreFewTexts (map texts_stated more)
      → AllByRecursion AreFewTexts (map texts_stated (map (λ (l : SignalLine). (number, l.name)) lines ++ more))
  signals_few number [] h more rest = rest
  signals_few number (line ∷ lines) h more rest = (h.0, signals_few number lines h.1 more rest)

  lines_few : (lines : List MessageLine) → AllByRecursion IsFit (map (whole_message ss) lines)
      → AllByRecursion AreFewTexts (map texts_stated (flat_map keys_of lines))
  lines_few [] h = tt
  lines_few (line ∷ lines) h = signals_few (dbc_number line.ident) line.signals h.0.values (flat_map keys_of lines)
      (lines_few lines h.1)

  pub values_few : CanBeSheet g → AllByRecursion AreFewTexts g.signal_values
  values_few h =
      let single = single_if_sheet h in
      subst (AllByRecursion AreFewTexts) (sym (are.signal_values single.keys))
      (lines_few (messages_of ss) (subst (AllByRecursion IsFit) (messages_are single) h.messages))

  pub says_nothing : ¬ CanBeSheet g → SaysNothing ss
  says_nothing never = λ s says. never (can_if_stated s says)

-- What is gathered of the same statements once more can be in one sheet too.
pub can_be_sheet_again : (ss : List Statement) (g h : Gathered) → AreGathered ss g → AreGathered ss h → CanBeSheet h
    → CanBeSheet g
can_be_sheet_again ss g h a b can =
    let single = single_if_sheet ss h b can in
    let same : AreSingle ss g a = record { names = single.names; numbers = single.numbers; keys = single.keys } in
    let nodes : nodes_in h ≡ nodes_in g = nodes_are ss h b single ∙ sym (nodes_are ss g a same) in
    let tables : tables_in h ≡ tables_in g = b.tables ∙ sym a.tables in
    let messages : messages_in h ≡ messages_in g = messages_are ss h b single ∙ sym (messages_are ss g a same) in
    record {
      nodes = subst (AreRostered node_name) nodes can.nodes;
      tables = subst TablesFit tables can.tables;
      messages = subst (AllByRecursion IsFit) messages can.messages;
      together = subst CanShareSheet messages can.together;
    }
