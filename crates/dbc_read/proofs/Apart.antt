-- Definitions that come after something was cited, and the second reading, which gathers all else.
use Rattle.dbc_read.proofs.Common.{◌≡◌, ◌∙◌, ◌++◌, ℕ, true, List, [], ◌∷◌, length, map, replicate, Some, None, refl}
use Rattle.dbc_read.proofs.Common.{sym, ap, append_assoc, append-nil, subst, true≢false, unwrap_or, Keyword}
use Rattle.dbc_read.proofs.Common.{statements_at, messages_of, node_names_of, Token, content_of, message_of, names_of}
use Rattle.dbc_read.proofs.Common.{statement_of, Content, MessageLine, NodeName, Statement}
use Rattle.dbc_grammar.specs.Statement as dbc
use Rattle.dbc_read.specs.Attaching.{in_signals, with_attached}
use Rattle.dbc_read.specs.Finding.{FindsAll}
use Rattle.dbc_read.specs.Gathered.{AreGathered}
use Rattle.dbc_read.specs.Gathering.{Gathers, HaveNothing, IsEmpty, IsOfTokens, Settles, defines, with_definitions}
use Rattle.dbc_read.specs.Late.{DefineAll, DefineLate, FollowAll, GathersApart, SettlesApart, SettlesOthers}
use Rattle.dbc_read.specs.Settling.{AreSettled}
use Rattle.dbc_read.specs.declared.finding.Finders.{Finders}
use Rattle.dbc_read.specs.declared.gathered.Gathered.{Gathered}
use Rattle.dbc_read.specs.declared.settling.Settled.TheVariants as settled
use Rattle.dbc_read.proofs.Gathering.{content_gathered, nothing_gathered}
use Rattle.dbc_read.proofs.OneByOne.{begin_with_rest, is_nothing}
use Rattle.dbc_read.proofs.Settled.{begun_with, finds_same, gathered_with}
use Rattle.dbc_statements.specs.declared.statement.Content.TheVariants as content

pub same_stated : (tokens : List Token) (a b : List dbc.Statement) → statements_at tokens ≡ Some a
    → statements_at tokens ≡ Some b → a ≡ b
same_stated tokens a b h k = ap (λ o. unwrap_or o []) (sym h ∙ k)

-- What is gathered up to a late statement, and what it and those after it define.
pub all_defined : (late : Statement) (tokens rest : List Token) (g now : Gathered)
    → AreSettled (settled.UpTo late) tokens rest (in_signals g) → DefineLate late rest g now → DefineAll tokens now
all_defined late tokens rest g now before after =
    let h = before.gathered in
    record {
      stated = (before.stated ++ statement_of late ∷ []) ++ after.stated;
      read = begin_with_rest (before.stated ++ statement_of late ∷ []) after.stated tokens rest before.read after.read;
      are = after.are before.stated (record { nodes = h.nodes; tables = h.tables; messages = h.messages });
    }

-- Statements in the second reading: a definition is skipped, and any other is gathered.

pub none_apart : (f : Finders) (lines : List MessageLine) (g : Gathered) → SettlesApart f [] lines g lines g
none_apart f lines g = λ all rest are h. h

definition_apart : (all : List dbc.Statement) (start : ℕ) (keyword : Keyword) (c : Content) (rest : List dbc.Statement)
    (g : Gathered) → defines (content_of c) ≡ true
    → GathersApart all g (record { start = start; keyword = keyword; content = content_of c } ∷ rest)
    → GathersApart all g rest
definition_apart all start keyword (content.Nodes names) rest g does h = record {
  nodes = h.nodes ++ names.items;
  messages = h.messages;
  gathers = content_gathered all start keyword None (with_definitions h.nodes h.messages g) rest (content.Nodes names)
      tt h.gathers;
}
definition_apart all start keyword (content.Message line) rest g does h = record {
  nodes = h.nodes;
  messages = h.messages ++ line.value ∷ [];
  gathers = content_gathered all start keyword None (with_definitions h.nodes h.messages g) rest (content.Message line)
      tt h.gathers;
}
definition_apart all start keyword c rest g does h = absurd (true≢false (sym does))

pub skipped_apart : (f : Finders) (stated : List dbc.Statement) (s : Statement) (lines new_lines : List MessageLine)
    (old new : Gathered) → defines (content_of s.content) ≡ true
    → SettlesApart f stated lines old new_lines new
    → SettlesApart f (stated ++ statement_of s ∷ []) lines old new_lines new
skipped_apart f stated s lines new_lines old new does h = λ all rest are g.
    definition_apart all s.start s.keyword s.content rest (with_attached new_lines new) does
    (h all (statement_of s ∷ rest) are
    (subst (GathersApart all (with_attached lines old)) (append_assoc stated (statement_of s ∷ []) rest) g))

pub one_apart : (f : Finders) (stated : List dbc.Statement) (s : Statement)
    (lines middle_lines new_lines : List MessageLine) (old middle new : Gathered)
    → map message_of middle_lines ≡ map message_of lines
    → SettlesApart f stated lines old middle_lines middle
    → Settles f (statement_of s ∷ []) middle_lines middle new_lines new
    → SettlesApart f (stated ++ statement_of s ∷ []) lines old new_lines new
one_apart f stated s lines middle_lines new_lines old middle new same h one = λ all rest are g.
    let before = h all (statement_of s ∷ rest) are
    (subst (GathersApart all (with_attached lines old)) (append_assoc stated (statement_of s ∷ []) rest) g) in
    record {
      nodes = before.nodes;
      messages = before.messages;
      gathers =
          one all rest before.nodes before.messages (finds_same f lines middle_lines all same are) before.gathers;
    }

-- All statements: nothing is attached at first, and no node or message is gathered apart.
pub all_apart : (f : Finders) (nodes : List NodeName) (lines new_lines : List MessageLine) (tokens : List Token)
    (empty attached now : Gathered) → FindsAll f nodes lines → HaveNothing lines → IsEmpty empty
    → attached ≡ record empty {
      node_comments = replicate (length nodes) [];
      message_comments =
          replicate (length lines) [];
    } → map message_of new_lines ≡ map message_of lines
    → SettlesOthers f tokens lines attached new_lines now → FollowAll nodes lines tokens new_lines now
all_apart f nodes lines new_lines tokens empty attached now found nothing is begins same others = record {
  stated = others.stated;
  read = others.read;
  gathered = λ names messages.
      let all = others.stated in
      let begun = begun_with all nodes lines empty attached names messages nothing begins in
      let start : Gathers all (with_definitions [] [] (with_attached lines attached)) all
      = subst (λ (x : Gathered). Gathers all (with_definitions [] [] x) all) (sym begun)
      (nothing_gathered all _ (is_nothing all (with_definitions [] [] empty) (is_empty empty is))) in
      let end = others.gathered all [] (found all names messages)
      (subst (GathersApart all (with_attached lines attached)) (sym (append-nil all))
      (record { nodes = []; messages = []; gathers = start })) in
      gathered_with all end.nodes nodes end.messages new_lines (with_attached new_lines now) end.gathers names
      (same ∙ messages);
}
  where
    is_empty : (g : Gathered) → IsEmpty g → IsEmpty (with_definitions [] [] g)
    is_empty g h = record {
      version = h.version;
      comment = h.comment;
      nodes = refl;
      tables = h.tables;
      messages = refl;
      passed = h.passed;
    }

-- so it is all that the tokens say
pub of_all_tokens : (tokens : List Token) (definitions now : Gathered) (nodes seen_nodes : List NodeName)
    (lines new_lines : List MessageLine) → DefineAll tokens definitions
    → nodes ≡ definitions.nodes → seen_nodes ≡ nodes → map message_of lines ≡ map message_of definitions.messages
    → FollowAll seen_nodes lines tokens new_lines now
    → IsOfTokens tokens (in_signals (with_definitions nodes new_lines now))
of_all_tokens tokens definitions now nodes seen_nodes lines new_lines all nodes_are seen_are lines_are after =
    let same : all.stated ≡ after.stated = same_stated tokens all.stated after.stated all.read after.read in
    let names : names_of seen_nodes ≡ node_names_of after.stated = ap names_of (seen_are ∙ nodes_are) ∙ all.are.nodes
    ∙ ap node_names_of same in
    let messages : map message_of lines ≡ messages_of after.stated = lines_are ∙ all.are.messages
    ∙ ap messages_of same in
    record {
      stated = after.stated;
      read = after.read;
      gathered = subst (λ (x : List NodeName). AreGathered after.stated (in_signals (with_definitions x new_lines now)))
          seen_are (after.gathered names messages);
    }
