-- What some statements say: examples that compute, each the answer that the rules of DBC text give by hand.
use Rattle.dbc_grammar.proofs.Common.{◌≡◌, ◌<◌, ◌≤◌, ℕ, ap, false, List, [], ◌∷◌, map, Some, None, refl, arith}
use Rattle.dbc_grammar.proofs.Common.{AllByRecursion, flat_map, bytes_eq, IsPermutation-sym, Intel, Always, Std, Number}
use Rattle.dbc_grammar.proofs.Common.{IsDecimal, AreNamedApart, pos, Keyword, Integer, Double, bytes_eq-flip}
use Rattle.dbc_grammar.proofs.Common.{text-Decides, Sheet}
use Rattle.std.proofs.Common.{◌%◌, ◌^◌, codes, true≢false}
use Rattle.std.specs.List.{IsDistinct}
use Rattle.std.proofs.lemmas.List.Elements.{All-from_recursion}
use Rattle.std.specs.List.Sorted.{IsStrictlySortedBy}
use Rattle.std.proofs.lemmas.Map.Keys.{IsDistinct-IsPermutation}
use Rattle.bitlayout.specs.declared.layout.Layout.{Layout}
use Rattle.dbc_words.specs.Name.{IsName, is_name}
use Rattle.dbc_sheet.specs.Form.{IsMessage, IsNode, IsSheet, IsSignal, IsTable, IsValueText}
use Rattle.dbc_sheet.specs.Messages.{message_name}
use Rattle.dbc_grammar.specs.Saying.{Says, last_in, messages_of, passed_by, version_in, comment_in, whole_message}
use Rattle.dbc_grammar.specs.Saying.{whole_node, node_names_of}
use Rattle.dbc_grammar.specs.Statement.{
  Content,
  VersionIs,
  NodesAre,
  MessageIs,
  CommentIs,
  NodeCommentIs,
  MessageCommentIs,
  SignalCommentIs,
  ValueTextsAre,
  ValueTypeIs,
  SpnIs,
  Dropped,
  PassedOver,
  SignalLine,
  Statement,
}
use Rattle.dbc_words.specs.declared.keyword.Keyword.TheVariants.{
  Version,
  NewSymbols,
  Nodes,
  Message,
  Comment,
  ValueTexts,
  SignalValueType,
  AttributeValue,
  AttributeDefinition,
}
use Rattle.dbc_words.specs.Text.{IsText}
use Rattle.dbc_sheet.specs.declared.message.Message.{Message as WholeMessage}
use Rattle.dbc_sheet.specs.declared.signal.Signal.{Signal}

-- The statements of a file with two messages: 500 with the signals Speed and Torque, and 100 with Speed alone.

abbrev number : ℕ → Number
number n = record { mantissa = pos n; exponent = pos 0 }

abbrev byte : ℕ → Layout
byte n = record { start = n; size = 8; order = Intel }

abbrev signal : List ℕ → ℕ → SignalLine
signal name start = record {
  name = name;
  layout = byte start;
  signed = false;
  mux = Always;
  factor = number 1;
  offset = number 0;
  minimum = number 0;
  maximum = number 255;
  unit = [];
  receivers = [];
}

abbrev message : ℕ → List ℕ → List SignalLine → Content
message n name signals =
    MessageIs (record { ident = Std n; name = name; length = 8; transmitter = None; signals = signals })

abbrev engine : Content
engine = message 500 (codes "Engine") (signal (codes "Speed") 0 ∷ signal (codes "Torque") 8 ∷ [])

abbrev wheel : Content
wheel = message 100 (codes "Wheel") (signal (codes "Speed") 0 ∷ [])

abbrev at : ℕ → Keyword → Content → Statement
at start keyword content = record { start = start; keyword = keyword; content = content }

-- all signals, with what is stated of them
abbrev signals_stated : List Statement → List Signal
signals_stated statements =
    flat_map (λ (m : WholeMessage). m.signals) (map (whole_message statements) (messages_of statements))

abbrev comments_stated : List Statement → List (List ℕ)
comments_stated statements = map (λ (s : Signal). s.comment) (signals_stated statements)

-- The last of several comments counts, an empty one is none, and the same name in another message is another signal.
abbrev commented : List Statement
commented =
    at 0 Message engine ∷ at 10 Message wheel
    ∷ at 20 Comment (SignalCommentIs (Some 500) (codes "Speed") (codes "first"))
    ∷ at 30 Comment (SignalCommentIs (Some 500) (codes "Torque") (codes "first"))
    ∷ at 40 Comment (SignalCommentIs (Some 500) (codes "Speed") (codes "last"))
    ∷ at 50 Comment (SignalCommentIs (Some 500) (codes "Torque") []) ∷ []

last_comment_counts : comments_stated commented ≡ codes "last" ∷ [] ∷ [] ∷ []
last_comment_counts = refl

none_of_them_is_passed : passed_by commented ≡ []
none_of_them_is_passed = refl

-- Versions and comments of the file: the last, and empty where there is none.
abbrev versions : List Statement
versions = at 0 Version (VersionIs (codes "1")) ∷ at 20 Version (VersionIs (codes "2")) ∷ []

last_version_counts : last_in [] version_in versions ≡ codes "2"
last_version_counts = refl

last_of_one_counts : last_in [] comment_in (at 40 Comment (CommentIs (codes "one")) ∷ versions) ≡ codes "one"
last_of_one_counts = refl

no_comment_is_empty : last_in [] comment_in versions ≡ []
no_comment_is_empty = refl

-- What comes before its message is attached to it too: an SPN, a value type and value texts.
abbrev attached_before : List Statement
attached_before =
    at 0 AttributeValue (SpnIs (Some 500) (codes "Torque") 513)
    ∷ at 30 SignalValueType (ValueTypeIs (Some 500) (codes "Torque") Double)
    ∷ at 60 ValueTexts (ValueTextsAre (Some 500) (codes "Torque")
    (record { value = number 0; text = codes "off" } ∷ []))
    ∷ at 90 Comment (MessageCommentIs (Some 500) (codes "of the engine")) ∷ at 120 Message engine ∷ []

spns_before : map (λ (s : Signal). s.spn) (signals_stated attached_before) ≡ 0 ∷ 513 ∷ []
spns_before = refl

value_types_before : map (λ (s : Signal). s.value_type) (signals_stated attached_before) ≡ Integer ∷ Double ∷ []
value_types_before = refl

value_texts_before : map (λ (s : Signal). s.values) (signals_stated attached_before) ≡ []
    ∷ (record { value = number 0; text = codes "off" } ∷ []) ∷ []
value_texts_before = refl

message_comment_before : map (λ (m : WholeMessage). m.comment)
    (map (whole_message attached_before) (messages_of attached_before)) ≡ codes "of the engine" ∷ []
message_comment_before = refl

none_before_is_passed : passed_by attached_before ≡ []
none_before_is_passed = refl

-- What cites a message, signal or node that isn't in the file is skipped, and so is what is skipped by its form.
abbrev absent : List Statement
absent =
    at 0 NewSymbols Dropped ∷ at 10 Nodes (NodesAre (codes "Dash" ∷ [])) ∷ at 20 Message wheel
    ∷ at 30 Comment (NodeCommentIs (codes "Dash") (codes "there"))
    ∷ at 40 Comment (NodeCommentIs (codes "Cluster") (codes "absent"))
    ∷ at 50 Comment (MessageCommentIs (Some 101) (codes "absent"))
    ∷ at 60 Comment (MessageCommentIs None (codes "no message has such a number"))
    ∷ at 70 AttributeValue (SpnIs (Some 100) (codes "Speed") 84)
    ∷ at 80 AttributeValue (SpnIs (Some 100) (codes "Torque") 513)
    ∷ at 85 Comment (SignalCommentIs (Some 100) (codes "Torque") (codes "absent"))
    ∷ at 87 SignalValueType (ValueTypeIs (Some 101) (codes "Speed") Double)
    ∷ at 90 AttributeDefinition PassedOver
    ∷ at 100 ValueTexts (ValueTextsAre None (codes "Speed") []) ∷ []

absent_are_passed : passed_by absent
    ≡ (40, Comment) ∷ (50, Comment) ∷ (60, Comment) ∷ (80, AttributeValue) ∷ (85, Comment) ∷ (87, SignalValueType)
    ∷ (90, AttributeDefinition) ∷ (100, ValueTexts) ∷ []
absent_are_passed = refl

absent_say_nothing : map (λ (s : Signal). s.spn) (signals_stated absent) ≡ 84 ∷ []
absent_say_nothing = refl

-- Several lists of nodes add up.
abbrev nodes : List Statement
nodes =
    at 0 Nodes (NodesAre (codes "Dash" ∷ codes "ECU" ∷ []))
    ∷ at 20 Comment (NodeCommentIs (codes "Dash") (codes "there"))
    ∷ at 50 Nodes (NodesAre (codes "Gate" ∷ [])) ∷ []

nodes_add_up : map (whole_node nodes) (node_names_of nodes)
    ≡ record { name = codes "Dash"; comment = codes "there" } ∷ record { name = codes "ECU"; comment = [] }
    ∷ record { name = codes "Gate"; comment = [] } ∷ []
nodes_add_up = refl

-- A whole sheet: its messages are in ascending order, though the file has them in descending order.
abbrev signal_with : List ℕ → ℕ → List ℕ → Signal
signal_with name start comment = record {
  name = name;
  layout = byte start;
  signed = false;
  mux = Always;
  factor = number 1;
  offset = number 0;
  minimum = number 0;
  maximum = number 255;
  unit = [];
  receivers = [];
  comment = comment;
  spn = 0;
  values = [];
  value_type = Integer;
}

abbrev message_with : ℕ → List ℕ → List Signal → WholeMessage
message_with n name signals =
    record { ident = Std n; name = name; length = 8; transmitter = None; comment = []; signals = signals }

abbrev sheet : Sheet
sheet = record {
  version = [];
  comment = [];
  nodes = [];
  tables = [];
  messages = message_with 100 (codes "Wheel") (signal_with (codes "Speed") 0 [] ∷ [])
      ∷ message_with 500 (codes "Engine")
      (signal_with (codes "Speed") 0 (codes "last") ∷ signal_with (codes "Torque") 8 [] ∷ []) ∷ [];
}

-- that it is a sheet: the forms of its parts, and what they keep together
whole_decimal : (n : ℕ) → n < 10 ^ 36 → (n % 10 ≡ 0 → n ≡ 0) → IsDecimal (number n)
whole_decimal n few h = record {
  digits = few;
  range = record { low = omega arith; high = omega arith };
  stripped =
      λ e. (ap pos (h e), refl);
}

plain_signal : (name : List ℕ) (start : ℕ) (comment : List ℕ) → IsName name → start ≤ 65535 → IsText comment
    → IsSignal (signal_with name start comment)
plain_signal name start comment named within text = record {
  named = named;
  layout = record { start = within; least = omega arith; most = omega arith };
  mux = tt;
  factor = whole_decimal 1 (omega arith) (λ e. absurd (omega (arith, e)));
  offset = whole_decimal 0 (omega arith) (λ e. refl);
  minimum = whole_decimal 0 (omega arith) (λ e. refl);
  maximum = whole_decimal 255 (omega arith) (λ e. absurd (omega (arith, e)));
  unit = (text-Decides []).0 refl;
  receivers = All-from_recursion IsName [] tt;
  comment = text;
  spn = omega arith;
  values = All-from_recursion IsValueText [] tt;
}

plain_message : (n : ℕ) (name : List ℕ) (signals : List Signal) → n ≤ 2047 → IsName name
    → AllByRecursion IsSignal signals → IsMessage (message_with n name signals)
plain_message n name signals low named each = record {
  ident = low;
  named = named;
  length = omega arith;
  transmitter = tt;
  comment = (text-Decides []).0 refl;
  signals = All-from_recursion IsSignal signals each;
}

is_a_sheet : IsSheet sheet
unfolding IsDistinct IsStrictlySortedBy is_name
is_a_sheet = record {
  well_formed = record {
    nodes = record { apart = tt; few = omega arith };
    tables = record { apart = tt; few = omega arith };
    entries = tt;
    together = record { ascending = ((refl, tt), (tt, tt)); apart = ((refl, tt), (tt, tt)); few = omega arith };
    messages = (
      record {
        signals = record { apart = (tt, tt); one_multiplexor = (tt, tt); few = omega arith };
        values =
            (omega arith, tt);
      },
      (
        record {
          signals = record {
            apart = ((refl, tt), (tt, tt));
            one_multiplexor = ((refl, tt), (tt, tt));
            few =
                omega arith;
          };
          values = (omega arith, (omega arith, tt));
        },
        tt,
      ),
    );
  };
  version = (text-Decides []).0 refl;
  comment = (text-Decides []).0 refl;
  nodes = All-from_recursion IsNode [] tt;
  tables = All-from_recursion IsTable [] tt;
  messages = All-from_recursion IsMessage sheet.messages (
    plain_message 100 (codes "Wheel") (signal_with (codes "Speed") 0 [] ∷ []) (omega arith) refl
        (plain_signal (codes "Speed") 0 [] refl (omega arith) ((text-Decides []).0 refl), tt),
    (
      plain_message 500 (codes "Engine")
          (signal_with (codes "Speed") 0 (codes "last") ∷ signal_with (codes "Torque") 8 [] ∷ []) (omega arith) refl (
            plain_signal (codes "Speed") 0 (codes "last") refl (omega arith) ((text-Decides (codes "last")).0 refl),
            (plain_signal (codes "Torque") 8 [] refl (omega arith) ((text-Decides []).0 refl), tt),
          ),
      tt,
    ),
  );
}

says_the_sheet : Says commented sheet
says_the_sheet = record {
  is_sheet = is_a_sheet;
  version = refl;
  comment = refl;
  nodes = refl;
  tables = refl;
  messages = record { moves = (0, 1) ∷ []; below = (omega arith, omega arith, tt); is = refl };
}

-- A file with one message twice says no sheet.
twice : List Statement
twice = at 0 Message wheel ∷ at 20 Message wheel ∷ []

twice_says_none : (s : Sheet) → Says twice s → ⊥
unfolding twice IsDistinct
twice_says_none s says =
    let apart : AreNamedApart message_name (map (whole_message twice) (messages_of twice)) =
    IsDistinct-IsPermutation (λ a b. bytes_eq (message_name a) (message_name b)) (λ a b. bytes_eq-flip a.name b.name)
    s.messages _
    (IsPermutation-sym _ _ says.messages) says.is_sheet.well_formed.together.apart in
    true≢false apart.0.0
