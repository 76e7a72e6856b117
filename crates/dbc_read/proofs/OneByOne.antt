-- Statements that are gathered as they come: first those that cite nothing, and then those that define nothing that
-- could be cited, which Settled.antt goes on with.
use Rattle.dbc_read.proofs.Common.{◌≡◌, ◌∙◌, ◌++◌, ℕ, true, false, List, [], ◌∷◌, length, map, Option, Some, None, refl}
use Rattle.dbc_read.proofs.Common.{sym, ap, append_assoc, append-nil, subst, true≢false, cons_option, flat_map}
use Rattle.dbc_read.proofs.Common.{option_map, filter_map-append, statements_at, each_in, message_in, messages_of}
use Rattle.dbc_read.proofs.Common.{node_names_of, nodes_in, numbers_of, signal_keys_of, Token, content_of, message_of}
use Rattle.dbc_read.proofs.Common.{names_of, statement_of, Content, MessageLine, NodeName, Statement}
use Rattle.dbc_grammar.specs.Statement as dbc
use Rattle.dbc_read.specs.Gathered.{IsNothing, gathered_after, passed_of}
use Rattle.dbc_read.specs.Gathering.{BeginWith, DefineNothing, Gathers, IsDefining, IsEmpty, cites, defines}
use Rattle.dbc_read.specs.Gathering.{with_definitions, with_empty, with_nothing_attached}
use Rattle.dbc_read.specs.Lookups.{IsCitedIndex}
use Rattle.dbc_read.specs.declared.gathered.Gathered.{Gathered}
use Rattle.dbc_read.specs.declared.passed.Passed.{Passed}
use Rattle.dbc_read.proofs.Gathering.{nothing_gathered, one_gathered}
use Rattle.dbc_statements.specs.Left.{BeginsWith}
use Rattle.dbc_statements.specs.declared.statement.Content.TheVariants as content

-- Tokens that begin with statements.

plain_map : {A : Type 0} (o : Option (List A)) → o ≡ option_map (λ (l : List A). l) o
plain_map None = refl
plain_map (Some l) = refl

pub begin_with_none : (tokens : List Token) → BeginWith [] tokens tokens
begin_with_none tokens = plain_map (statements_at tokens)

regroup : (stated : List dbc.Statement) (s : dbc.Statement) (o : Option (List dbc.Statement))
    → option_map (λ others. stated ++ others) (option_map (λ others. s ∷ others) o)
    ≡ option_map (λ others. (stated ++ s ∷ []) ++ others) o
regroup stated s None = refl
regroup stated s (Some l) = ap (λ (x : List dbc.Statement). Some x) (sym (append_assoc stated (s ∷ []) l))

pub begin_with_more : (stated : List dbc.Statement) (s : dbc.Statement) (a b c : List Token) → BeginWith stated a b
    → BeginsWith s b c → BeginWith (stated ++ s ∷ []) a c
begin_with_more stated s a b c h k = h ∙ ap (option_map (λ others. stated ++ others)) k.statements
    ∙ regroup stated s (statements_at c)

pub begin_with_nothing : (stated : List dbc.Statement) (a b c : List Token) → c ≡ b → BeginWith stated a b
    → BeginWith (stated ++ []) a c
begin_with_nothing stated a b c same h =
    subst (BeginWith (stated ++ []) a) (sym same)
    (subst (λ (x : List dbc.Statement). BeginWith x a b) (sym (append-nil stated)) h)

pub begin_with_all : (stated : List dbc.Statement) (a b : List Token) → BeginWith stated a b → statements_at b ≡ Some []
    → statements_at a ≡ Some stated
begin_with_all stated a b h e = h ∙ ap (option_map (λ others. stated ++ others)) e
    ∙ ap (λ (x : List dbc.Statement). Some x) (append-nil stated)

pub begin_with_rest : (stated more : List dbc.Statement) (a b : List Token) → BeginWith stated a b
    → statements_at b ≡ Some more → statements_at a ≡ Some (stated ++ more)
begin_with_rest stated more a b h e = h ∙ ap (option_map (λ others. stated ++ others)) e

both_begin : (stated more : List dbc.Statement) (o : Option (List dbc.Statement))
    → option_map (λ others. stated ++ others) (option_map (λ others. more ++ others) o)
    ≡ option_map (λ others. (stated ++ more) ++ others) o
both_begin stated more None = refl
both_begin stated more (Some l) = ap (λ (x : List dbc.Statement). Some x) (sym (append_assoc stated more l))

-- up to a late one
pub begin_with_both : (stated more : List dbc.Statement) (late : dbc.Statement) (a b c : List Token)
    → BeginWith stated a b → BeginWith (more ++ late ∷ []) b c → BeginWith ((stated ++ more) ++ late ∷ []) a c
begin_with_both stated more late a b c h k =
    subst (λ (x : List dbc.Statement). BeginWith x a c) (sym (append_assoc stated more (late ∷ [])))
    (h ∙ ap (option_map (λ others. stated ++ others)) k ∙ both_begin stated (more ++ late ∷ []) (statements_at c))

pub begin_without : (stated : List dbc.Statement) (a b : List Token) → BeginWith stated a b → statements_at b ≡ None
    → statements_at a ≡ None
begin_without stated a b h e = h ∙ ap (option_map (λ others. stated ++ others)) e

-- the statements that are read so far, of which something holds
pub record ReadSoFar (holds : List dbc.Statement → Type 0) (tokens rest : List Token) : Type 0 where
  pub stated : List dbc.Statement
  pub read : BeginWith stated tokens rest
  pub is : holds stated

pub none_read : (holds : List dbc.Statement → Type 0) (tokens : List Token) → holds [] → ReadSoFar holds tokens tokens
none_read holds tokens h = record { stated = []; read = begin_with_none tokens; is = h }

pub one_read : (old now : List dbc.Statement → Type 0) (s : dbc.Statement) (a b c : List Token) → BeginsWith s b c
    → ((stated : List dbc.Statement) → old stated → now (stated ++ s ∷ [])) → ReadSoFar old a b → ReadSoFar now a c
one_read old now s a b c begins step h =
    record {
      stated = h.stated ++ s ∷ [];
      read = begin_with_more h.stated s a b c h.read begins;
      is =
          step h.stated h.is;
    }

-- Statements that define nothing leave the names, the messages and the keys as they are.

no_names : (c : dbc.Content) (l : List (List (List ℕ))) → defines c ≡ false → cons_option (nodes_in c) l ≡ l
no_names (dbc.NodesAre names) l h = absurd (true≢false h)
no_names c l h = refl

no_message : (c : dbc.Content) (l : List dbc.MessageLine) → defines c ≡ false → cons_option (message_in c) l ≡ l
no_message (dbc.MessageIs line) l h = absurd (true≢false h)
no_message c l h = refl

none_named : (rest : List dbc.Statement) → DefineNothing rest → each_in nodes_in rest ≡ []
none_named [] h = refl
none_named (s ∷ rest) h = no_names s.content (each_in nodes_in rest) h.0 ∙ none_named rest h.1

no_messages : (rest : List dbc.Statement) → DefineNothing rest → messages_of rest ≡ []
no_messages [] h = refl
no_messages (s ∷ rest) h = no_message s.content (messages_of rest) h.0 ∙ no_messages rest h.1

module _ (stated rest : List dbc.Statement) (none : DefineNothing rest) where
  pub same_names : node_names_of (stated ++ rest) ≡ node_names_of stated
  same_names =
      ap (flat_map (λ (names : List (List ℕ)). names))
      (filter_map-append (λ (s : dbc.Statement). nodes_in s.content) stated rest
      ∙ ap (λ l. each_in nodes_in stated ++ l) (none_named rest none) ∙ append-nil (each_in nodes_in stated))

  pub same_messages : messages_of (stated ++ rest) ≡ messages_of stated
  same_messages = filter_map-append (λ (s : dbc.Statement). message_in s.content) stated rest
      ∙ ap (λ l. messages_of stated ++ l) (no_messages rest none) ∙ append-nil (messages_of stated)

-- Statements that cite nothing.

pub is_nothing : (all : List dbc.Statement) (g : Gathered) → IsEmpty g → IsNothing all (with_nothing_attached all g)
is_nothing all g is = record {
  version = is.version;
  comment = is.comment;
  nodes = is.nodes;
  tables = is.tables;
  messages = is.messages;
  node_comments = refl;
  message_comments = refl;
  signal_comments = refl;
  signal_values = refl;
  signal_types = refl;
  signal_spns = refl;
  passed = is.passed;
}

pub nothing_defined : (g : Gathered) → IsEmpty g → IsDefining [] g
nothing_defined g is = λ rest. nothing_gathered rest (with_nothing_attached rest g) (is_nothing rest g is)

no_index : (all : List dbc.Statement) (c : Content) → cites (content_of c) ≡ false
    → IsCitedIndex all (content_of c) None
no_index all (content.NodeComment name text) h = absurd (true≢false h)
no_index all (content.MessageComment cited text) h = absurd (true≢false h)
no_index all (content.SignalComment cited text) h = absurd (true≢false h)
no_index all (content.ValueTexts cited entries) h = absurd (true≢false h)
no_index all (content.ValueType cited value_type) h = absurd (true≢false h)
no_index all (content.Spn cited spn) h = absurd (true≢false h)
no_index all c h = tt

empty_either_way : (nodes messages signals : ℕ) (p : Passed) (c : Content) (g : Gathered) → cites (content_of c) ≡ false
    → with_empty nodes messages signals (gathered_after None p c g) ≡ gathered_after None p c
    (with_empty nodes messages signals g)
empty_either_way nodes messages signals p (content.NodeComment name text) g h = absurd (true≢false h)
empty_either_way nodes messages signals p (content.MessageComment cited text) g h = absurd (true≢false h)
empty_either_way nodes messages signals p (content.SignalComment cited text) g h = absurd (true≢false h)
empty_either_way nodes messages signals p (content.ValueTexts cited entries) g h = absurd (true≢false h)
empty_either_way nodes messages signals p (content.ValueType cited value_type) g h = absurd (true≢false h)
empty_either_way nodes messages signals p (content.Spn cited spn) g h = absurd (true≢false h)
empty_either_way nodes messages signals p c g h = refl

pub one_defined : (stated : List dbc.Statement) (s : Statement) (old now : Gathered)
    → cites (content_of s.content) ≡ false → now ≡ gathered_after None (passed_of s) s.content old
    → IsDefining stated old → IsDefining (stated ++ statement_of s ∷ []) now
one_defined stated s old now cites_none is h = λ rest.
    let all : List dbc.Statement = stated ++ statement_of s ∷ rest in
    let either = empty_either_way (length (node_names_of all)) (length (numbers_of all)) (length (signal_keys_of all))
    (passed_of s) s.content old cites_none in
    let here : Gathers all (with_nothing_attached all now) rest =
    one_gathered all s rest None (with_nothing_attached all old) (with_nothing_attached all now)
    (no_index all s.content cites_none) (ap (with_nothing_attached all) is ∙ either)
    (h (statement_of s ∷ rest)) in
    subst (λ (x : List dbc.Statement). Gathers x (with_nothing_attached x now) rest)
    (sym (append_assoc stated (statement_of s ∷ []) rest)) here

-- Statements that define nothing.

pub defined_either_way : (nodes : List NodeName) (messages : List MessageLine) (index : Option ℕ) (p : Passed)
    (c : Content) (g : Gathered) → defines (content_of c) ≡ false
    → with_definitions nodes messages (gathered_after index p c g) ≡ gathered_after index p c
    (with_definitions nodes messages g)
defined_either_way nodes messages index p (content.Nodes names) g h = absurd (true≢false h)
defined_either_way nodes messages index p (content.Message line) g h = absurd (true≢false h)
defined_either_way nodes messages index p c g h = refl

pub cited_defines_nothing : (c : dbc.Content) → cites c ≡ true → defines c ≡ false
cited_defines_nothing (dbc.NodesAre names) h = absurd (true≢false (sym h))
cited_defines_nothing (dbc.MessageIs line) h = absurd (true≢false (sym h))
cited_defines_nothing c h = refl

-- the names and the messages of what is gathered are all that are defined
module _ (stated : List dbc.Statement) (g : Gathered) (h : IsDefining stated g) where
  pub defined_names : names_of g.nodes ≡ node_names_of stated
  defined_names = sym (append-nil (names_of g.nodes)) ∙ (h []).nodes ∙ ap node_names_of (append-nil stated)

  pub defined_messages : map message_of g.messages ≡ messages_of stated
  defined_messages = sym (append-nil (map message_of g.messages)) ∙ (h []).messages ∙ ap messages_of (append-nil stated)
