-- The statements of a kept text say its sheet.
use Rattle.dbc_keep_law.proofs.Common.{◌≡◌, ◌==◌, ℕ, Bool, true, false, not, ◌||◌, List, [], ◌∷◌, ◌++◌, map, filter}
use Rattle.dbc_keep_law.proofs.Common.{Option, Some, None, unwrap_or, refl, sym, ap, subst, ◌∙◌, IsPermutation}
use Rattle.dbc_keep_law.proofs.Common.{AllByRecursion, filter_map, flat_map, last_or, list_any, bytes_eq, filter-append}
use Rattle.dbc_keep_law.proofs.Common.{list_any-append, dbc_number, number_of, Node, Sheet, ValueText, ValueType}
use Rattle.dbc_keep_law.proofs.Common.{Integer, SignalKey, Says, each_in, has_message, has_signal, is_passed, keys_of}
use Rattle.dbc_keep_law.proofs.Common.{message_in, nodes_in, same_signal, Cited, Content, NodeCommentIs}
use Rattle.dbc_keep_law.proofs.Common.{MessageCommentIs, SignalCommentIs, ValueTextsAre, ValueTypeIs, SpnIs, PassedOver}
use Rattle.dbc_keep_law.proofs.Common.{MessageLine, SignalLine, Statement, contents_of, node_names, each_in-contents}
use Rattle.std.proofs.lemmas.List.Sorted.{list_any-IsPermutation}
use Rattle.dbc_sheet.specs.declared.message.Message.{Message}
use Rattle.dbc_sheet.specs.declared.signal.Signal.{Signal}
use Rattle.dbc_sheet.specs.declared.value_table.ValueTable.{ValueTable}
use Rattle.dbc_grammar.specs.Saying.{comment_in, has_node, last_at, message_comment_in, messages_of, node_comment_in}
use Rattle.dbc_grammar.specs.Saying.{node_names_of, signal_comment_in, spn_in, table_in, value_texts_in, value_type_in}
use Rattle.dbc_grammar.specs.Saying.{version_in, whole_message, whole_node, whole_signal}
use Rattle.dbc_keep_law.proofs.Unheard.{heard}

-- ---- what statements say is what their contents say

says_by : (ss ts : List Statement) (s : Sheet)
    → ((X : Type 0) (kind : Content → Option X) → each_in kind ss ≡ each_in kind ts) → Says ss s → Says ts s
says_by ss ts s same h = record {
  is_sheet = h.is_sheet;
  version = h.version ∙ ap (λ vs. unwrap_or (last_or None vs) []) (same (List ℕ) version_in);
  comment = h.comment ∙ ap (λ vs. unwrap_or (last_or None vs) []) (same (List ℕ) comment_in);
  nodes = h.nodes ∙ nodes_same;
  tables = h.tables ∙ same ValueTable table_in;
  messages = subst (λ ms. IsPermutation ms s.messages) messages_same h.messages;
}
  where
    nodes_same : map (whole_node ss) (node_names_of ss) ≡ map (whole_node ts) (node_names_of ts)
    nodes_same = λ i.
        map (λ name.
        record {
          name = name;
          comment = unwrap_or
              (last_at bytes_eq name None (same (List ℕ × List ℕ) node_comment_in i)) [];
        })
        (flat_map (λ (names : List (List ℕ)). names) (same (List (List ℕ)) nodes_in i))

    messages_same : map (whole_message ss) (messages_of ss) ≡ map (whole_message ts) (messages_of ts)
    messages_same = λ i.
        map (λ (line : MessageLine). record {
          ident = line.ident;
          name = line.name;
          length = line.length;
          transmitter = line.transmitter;
          comment =
              unwrap_or (last_at (λ a b. a == b) (dbc_number line.ident) None (same (ℕ × List ℕ) message_comment_in i))
              [];
          signals = map (λ (x : SignalLine). record {
            name = x.name;
            layout = x.layout;
            signed = x.signed;
            mux = x.mux;
            factor = x.factor;
            offset = x.offset;
            minimum = x.minimum;
            maximum = x.maximum;
            unit = x.unit;
            receivers = x.receivers;
            comment =
                unwrap_or
                (last_at same_signal (dbc_number line.ident, x.name) None
                (same (SignalKey × List ℕ) signal_comment_in i)) [];
            spn = unwrap_or (last_at same_signal (dbc_number line.ident, x.name) None (same (SignalKey × ℕ) spn_in i))
                0;
            values =
                unwrap_or
                (last_at same_signal (dbc_number line.ident, x.name) None
                (same (SignalKey × List ValueText) value_texts_in i)) [];
            value_type =
                unwrap_or
                (last_at same_signal (dbc_number line.ident, x.name) None
                (same (SignalKey × ValueType) value_type_in i)) Integer;
          }) line.signals;
        }) (same MessageLine message_in i)

pub contents_decide : (ss ts : List Statement) (s : Sheet) → contents_of ss ≡ contents_of ts → Says ss s → Says ts s
contents_decide ss ts s e h = says_by ss ts s
    (λ X kind. each_in-contents kind ss ∙ ap (filter_map kind) e ∙ sym (each_in-contents kind ts)) h

-- ---- contents without some of them

abbrev pub drop : (Content → Bool) → List Content → List Content
drop gone cs = filter (λ c. not (gone c)) cs

heard_by : (gone : Content → Bool) (s : Statement) (ss : List Statement) (b : Bool) → gone s.content ≡ b
    → contents_of (heard gone ss) ≡ drop gone (contents_of ss)
    → contents_of (heard gone (s ∷ ss)) ≡ drop gone (contents_of (s ∷ ss))
heard_by gone s ss true e more = rw e more
heard_by gone s ss false e more = rw e (ap (λ (cs : List Content). s.content ∷ cs) more)

pub heard_contents : (gone : Content → Bool) (ss : List Statement)
    → contents_of (heard gone ss) ≡ drop gone (contents_of ss)
heard_contents gone [] = refl
heard_contents gone (s ∷ ss) = heard_by gone s ss (gone s.content) refl (heard_contents gone ss)

pub record Strip (gone : Content → Bool) (cs ds : List Content) : Type 0 where
  pub is : drop gone cs ≡ ds

infixl 10 ◌and_also◌
pub ◌and_also◌ : {gone : Content → Bool} {cs ds xs ys : List Content} → Strip gone cs xs → Strip gone ds ys
    → Strip gone (cs ++ ds) (xs ++ ys)
◌and_also◌ {gone} {cs} {ds} a b = record { is = filter-append (λ c. not (gone c)) cs ds ∙ (λ i. a.is i ++ b.is i) }

pub all_gone : (gone : Content → Bool) (cs : List Content) → AllByRecursion (λ c. gone c ≡ true) cs → Strip gone cs []
all_gone gone [] h = record { is = refl }
all_gone gone (c ∷ cs) h = record { is = rw h.0 (all_gone gone cs h.1).is }

pub all_kept : (gone : Content → Bool) (cs : List Content) → AllByRecursion (λ c. gone c ≡ false) cs → Strip gone cs cs
all_kept gone [] h = record { is = refl }
all_kept gone (c ∷ cs) h = record { is = rw h.0 (ap (λ (l : List Content). c ∷ l) (all_kept gone cs h.1).is) }

-- ---- what is in a sheet

abbrev pub key_in : ℕ → Signal → SignalKey
key_in number x = (number, x.name)

abbrev pub keys_of_sheet : Sheet → List SignalKey
keys_of_sheet s = flat_map (λ (m : Message). map (key_in (number_of m)) m.signals) s.messages

abbrev pub node_there : Sheet → List ℕ → Bool
node_there s name = list_any (λ n. bytes_eq n name) (node_names s)

abbrev pub message_there : Sheet → Cited → Bool
message_there s None = false
message_there s (Some number) = list_any (λ n. n == number) (map number_of s.messages)

abbrev pub signal_there : Sheet → Cited → List ℕ → Bool
signal_there s None name = false
signal_there s (Some number) name = list_any (λ key. same_signal key (number, name)) (keys_of_sheet s)

-- a content that is passed over where the sheet's nodes, messages and signals are
abbrev pub sheet_passed : Sheet → Content → Bool
sheet_passed s PassedOver = true
sheet_passed s (NodeCommentIs name text) = not (node_there s name)
sheet_passed s (MessageCommentIs cited text) = not (message_there s cited)
sheet_passed s (SignalCommentIs cited name text) = not (signal_there s cited name)
sheet_passed s (ValueTextsAre cited name texts) = not (signal_there s cited name)
sheet_passed s (ValueTypeIs cited name value_type) = not (signal_there s cited name)
sheet_passed s (SpnIs cited name spn) = not (signal_there s cited name)
sheet_passed s c = false

pub record Agree (ss : List Statement) (s : Sheet) : Type 0 where
  pub nodes : (name : List ℕ) → has_node ss name ≡ node_there s name
  pub messages : (cited : Cited) → has_message ss cited ≡ message_there s cited
  pub signals : (cited : Cited) (name : List ℕ) → has_signal ss cited name ≡ signal_there s cited name

pub passed_agree : (ss : List Statement) (s : Sheet) → Agree ss s → (c : Content) → is_passed ss c ≡ sheet_passed s c
passed_agree ss s h (NodeCommentIs n t) = ap not (h.nodes n)
passed_agree ss s h (MessageCommentIs cited t) = ap not (h.messages cited)
passed_agree ss s h (SignalCommentIs cited n t) = ap not (h.signals cited n)
passed_agree ss s h (ValueTextsAre cited n vs) = ap not (h.signals cited n)
passed_agree ss s h (ValueTypeIs cited n v) = ap not (h.signals cited n)
passed_agree ss s h (SpnIs cited n p) = ap not (h.signals cited n)
passed_agree ss s h c = refl

-- ---- the sheet that statements say has what they define

any_map : {A B : Type 0} (p : B → Bool) (f : A → B) (xs : List A) → list_any p (map f xs) ≡ list_any (λ x. p (f x)) xs
any_map p f [] = refl
any_map p f (x ∷ xs) = ap (λ b. p (f x) || b) (any_map p f xs)

any_flat : {A B : Type 0} (p : B → Bool) (f : A → List B) (xs : List A)
    → list_any p (flat_map f xs) ≡ list_any (λ x. list_any p (f x)) xs
any_flat p f [] = refl
any_flat p f (x ∷ xs) = list_any-append p (f x) (flat_map f xs) ∙ ap (λ b. list_any p (f x) || b) (any_flat p f xs)

any_same : {A : Type 0} (p q : A → Bool) → ((x : A) → p x ≡ q x) → (xs : List A) → list_any p xs ≡ list_any q xs
any_same p q h [] = refl
any_same p q h (x ∷ xs) = λ i. h x i || any_same p q h xs i

names_again : (ss : List Statement) (names : List (List ℕ))
    → map (λ (n : Node). n.name) (map (whole_node ss) names) ≡ names
names_again ss [] = refl
names_again ss (n ∷ names) = ap (λ (l : List (List ℕ)). n ∷ l) (names_again ss names)

abbrev pub line_key : ℕ → SignalLine → SignalKey
line_key number x = (number, x.name)

keys_again : (ss : List Statement) (number : ℕ) (xs : List SignalLine)
    → map (line_key number) xs ≡ map (key_in number) (map (whole_signal ss number) xs)
keys_again ss number [] = refl
keys_again ss number (x ∷ xs) = ap (λ (l : List SignalKey). line_key number x ∷ l) (keys_again ss number xs)

pub says_agree : (ss : List Statement) (s : Sheet) → Says ss s → Agree ss s
says_agree ss s h = record { nodes = nodes_agree; messages = messages_agree; signals = signals_agree }
  where
    names : node_names_of ss ≡ node_names s
    names = sym (names_again ss (node_names_of ss)) ∙ ap (map (λ (n : Node). n.name)) (sym h.nodes)

    nodes_agree : (name : List ℕ) → has_node ss name ≡ node_there s name
    nodes_agree name = ap (list_any (λ n. bytes_eq n name)) names

    messages_agree : (cited : Cited) → has_message ss cited ≡ message_there s cited
    messages_agree None = refl
    messages_agree (Some number) =
        any_map (λ n. n == number) (λ (m : MessageLine). dbc_number m.ident) (messages_of ss)
        ∙ sym (any_map (λ (m : Message). number_of m == number) (whole_message ss) (messages_of ss))
        ∙ list_any-IsPermutation (λ (m : Message). number_of m == number)
        (map (whole_message ss) (messages_of ss)) s.messages h.messages
        ∙ sym (any_map (λ n. n == number) number_of s.messages)

    signals_agree : (cited : Cited) (name : List ℕ) → has_signal ss cited name ≡ signal_there s cited name
    signals_agree None name = refl
    signals_agree (Some number) name =
        let p : SignalKey → Bool = λ key. same_signal key (number, name) in
        let keys : Message → List SignalKey = λ m. map (key_in (number_of m)) m.signals in
        any_flat p keys_of (messages_of ss)
        ∙ any_same (λ m. list_any p (keys_of m)) (λ m. list_any p (keys (whole_message ss m)))
        (λ m. ap (list_any p) (keys_again ss (dbc_number m.ident) m.signals)) (messages_of ss)
        ∙ sym (any_map (λ m. list_any p (keys m)) (whole_message ss) (messages_of ss))
        ∙ list_any-IsPermutation (λ m. list_any p (keys m))
        (map (whole_message ss) (messages_of ss)) s.messages h.messages
        ∙ sym (any_flat p keys s.messages)
