-- Statements that can be passed over are read the same wherever their words stand.
use Rattle.dbc_keep_law.proofs.Common.{◌≡◌, ℕ, true, false, List, [], ◌∷◌, ◌++◌, Option, Some, None, option_map, refl}
use Rattle.dbc_keep_law.proofs.Common.{sym, ap, subst, ◌∙◌, inl, inr, append_cancel_right, KeywordGroup, Kept, Passed}
use Rattle.dbc_keep_law.proofs.Common.{Refused, keyword_group, Keyword, Version, NewSymbols, BitTiming, Nodes}
use Rattle.dbc_keep_law.proofs.Common.{ValueTable, Message, Signal, Comment, ValueTexts, SignalValueType}
use Rattle.dbc_keep_law.proofs.Common.{AttributeValue, key_of, is_open, message_comment, signal_comment}
use Rattle.dbc_keep_law.proofs.Common.{value_texts_line, spn_line, passed_value_texts, independent_line, other_line}
use Rattle.dbc_keep_law.proofs.Common.{Rule, either, Content, VersionIs, NodesAre, TableIs, MessageIs, CommentIs}
use Rattle.dbc_keep_law.proofs.Common.{Dropped, Statement, Token, Any, Next}
use Rattle.dbc_grammar.specs.Grammar.{version_line, symbols_line, timing_line, nodes_line, table_line, message_line}
use Rattle.dbc_grammar.specs.Grammar.{file_comment, node_comment, passed_line, passed_attribute, comment_line, line}
use Rattle.dbc_grammar.specs.Grammar.{first_word, statement}
use Rattle.dbc_keep_law.proofs.Ends.{AreOpen, Ends, ending_skipped, ending_spn}
use Rattle.dbc_keep_law.proofs.Framing.{
  Alike,
  Frame,
  Framed,
  alike_back,
  blind_key_of,
  frame_any,
  frame_map,
  framed_independent,
  framed_message_comment,
  framed_node_comment,
  framed_passed_comment,
  framed_passed_value_texts,
  framed_signal_comment,
  framed_skipped,
  framed_spn,
  framed_value_texts,
  framed_value_type,
}

-- ---- up to the first `;`

ends_once : (xs ys : List Token) (s t : Token) (rest more : List Token) → xs ++ s ∷ rest ≡ ys ++ t ∷ more → AreOpen xs
    → AreOpen ys → is_open s ≡ false → is_open t ≡ false → rest ≡ more
ends_once [] [] s t rest more e xo yo so to = cc
ends_once [] (y ∷ ys) s t rest more e xo yo so to =
    let same : s ≡ y = cc in let no : is_open s ≡ true = ap is_open same ∙ yo.0 in absurd cc
ends_once (x ∷ xs) [] s t rest more e xo yo so to =
    let same : t ≡ x = cc in let no : is_open t ≡ true = ap is_open same ∙ xo.0 in absurd cc
ends_once (x ∷ xs) (y ∷ ys) s t rest more e xo yo so to =
    let others : xs ++ s ∷ rest ≡ ys ++ t ∷ more = cc in ends_once xs ys s t rest more others xo.1 yo.1 so to

one_end : (ts rest more : List Token) → Ends ts rest → Ends ts more → rest ≡ more
one_end ts rest more a b =
    ends_once a.opens b.opens a.end b.end rest more (sym a.parts ∙ b.parts) a.are_open b.are_open a.closed b.closed

-- ---- an attribute value that isn't read

attribute_each : (ts : List Token) (x : Content) (rest : List Token) → passed_attribute ts x rest
    → Frame Any passed_attribute ts x rest
unfolding passed_attribute
attribute_each ts x rest h =
    let f = framed_skipped.each ts x rest h.reads in
    record {
      run = f.run;
      parts = f.parts;
      moves = λ moved others alike _.
          let there = f.moves moved others alike tt in
          record {
            unread = λ y more k.
                let same = one_end (moved ++ others) others more (ending_skipped.each (moved ++ others) x others there)
                (ending_spn.each (moved ++ others) y more k) in
                let g = framed_spn.each (moved ++ others) y more k in
                let runs : moved ≡ g.run = append_cancel_right moved g.run others
                (g.parts ∙ ap (λ (l : List Token). g.run ++ l) (sym same)) in
                let back : Alike g.run f.run = subst (λ l. Alike l f.run) runs (alike_back f.run moved alike) in
                let here : spn_line ts y rest =
                subst (λ l. spn_line l y rest) (sym f.parts) (g.moves f.run rest back tt) in
                h.unread y rest here;
            reads = there;
          };
    }

-- ---- what follows each keyword

-- a content that can be passed over
abbrev pub CanPass : Content → Type 0
CanPass (VersionIs text) = ⊥
CanPass (NodesAre names) = ⊥
CanPass (TableIs name entries) = ⊥
CanPass (MessageIs m) = ⊥
CanPass (CommentIs text) = ⊥
CanPass Dropped = ⊥
CanPass c = Unit {0}

pub cannot : (c d : Content) → c ≡ d → (CanPass d → ⊥) → CanPass c → ⊥
cannot c d e never can = never (subst CanPass e can)

-- what the rule reads of such contents moves
abbrev Moves : Rule Content → Type 0
Moves rule = (ts : List Token) (c : Content) (rest : List Token) → rule ts c rest → CanPass c
    → Frame Next rule ts c rest

moves_framed : {rule : Rule Content} → Framed Any rule → Moves rule
moves_framed f ts c rest h can = frame_any (f.each ts c rest h)

moves_either : (r q : Rule Content) → Moves r → Moves q → Moves (either r q)
moves_either r q first second ts c rest h can = elim h [
  | inl k ↦ frame_map (λ us y more w. inl w) (first ts c rest k can)
  | inr k ↦ frame_map (λ us y more w. inr w) (second ts c rest k can)
]

moves_version : Moves version_line
unfolding version_line
moves_version ts c rest h can = absurd (cannot c _ h.goes_on.value (λ x. x) can)

moves_symbols : Moves symbols_line
unfolding symbols_line
moves_symbols ts c rest h can = absurd (cannot c _ h.goes_on.goes_on.goes_on.value (λ x. x) can)

moves_timing : Moves timing_line
unfolding timing_line
moves_timing ts c rest h can = absurd (cannot c _ h.goes_on.goes_on.value (λ x. x) can)

moves_nodes : Moves nodes_line
unfolding nodes_line
moves_nodes ts c rest h can = absurd (cannot c _ h.goes_on.goes_on.value (λ x. x) can)

moves_table : Moves table_line
unfolding table_line
moves_table ts c rest h can = absurd (cannot c _ h.goes_on.goes_on.goes_on.value (λ x. x) can)

moves_message : Moves message_line
unfolding message_line
moves_message ts c rest h can = absurd (cannot c _ h.goes_on.goes_on.goes_on.goes_on.goes_on.goes_on.value (λ x. x) can)

moves_file_comment : Moves file_comment
unfolding file_comment
moves_file_comment ts c rest h can = absurd (cannot c _ h.goes_on.goes_on.value (λ x. x) can)

moves_independent : Moves independent_line
moves_independent ts c rest h can = framed_independent.each ts c rest h

moves_attribute : Moves passed_attribute
moves_attribute ts c rest h can = frame_any (attribute_each ts c rest h)

moves_comment : Moves comment_line
unfolding comment_line
moves_comment =
    moves_either file_comment _ moves_file_comment
    (moves_either node_comment _ (moves_framed framed_node_comment)
    (moves_either message_comment _ (moves_framed framed_message_comment)
    (moves_either signal_comment _ (moves_framed framed_signal_comment) (moves_framed framed_passed_comment))))

moves_other : (group : KeywordGroup) → Moves (other_line group)
unfolding passed_line
moves_other Passed = moves_framed framed_skipped
moves_other Refused = λ ts c rest h can. absurd h
moves_other Kept = λ ts c rest h can. absurd h

moves_line : (k : Keyword) → Moves (line k)
unfolding line
moves_line Version = moves_version
moves_line NewSymbols = moves_symbols
moves_line BitTiming = moves_timing
moves_line Nodes = moves_nodes
moves_line ValueTable = moves_table
moves_line Message = moves_either message_line independent_line moves_message moves_independent
moves_line Signal = λ ts c rest h can. absurd h
moves_line Comment = moves_comment
moves_line ValueTexts = moves_either value_texts_line passed_value_texts (moves_framed framed_value_texts)
    (moves_framed framed_passed_value_texts)
moves_line SignalValueType = moves_framed framed_value_type
moves_line AttributeValue = moves_either spn_line passed_attribute (moves_framed framed_spn) moves_attribute
moves_line k = moves_other (keyword_group k)

-- ---- the statement

-- the tokens begin with a statement of this keyword and content
pub record Says (ts : List Token) (k : Keyword) (c : Content) (rest : List Token) : Type 0 where
  pub is : Statement
  pub there : statement ts is rest
  pub keyword : is.keyword ≡ k
  pub content : is.content ≡ c

word_key : (t : Token) (o : Option Keyword) (x : ℕ × Keyword) → option_map (λ k. (t.start, k)) o ≡ Some x → o ≡ Some x.1
word_key t None x e = absurd cc
word_key t (Some k) x e = let same : (t.start, k) ≡ x = cc in ap (λ (x : ℕ × Keyword). Some x.1) same

pub record Moved (ts : List Token) (s : Statement) (rest : List Token) : Type 0 where
  pub run : List Token
  pub parts : ts ≡ run ++ rest
  pub moves : (moved others : List Token) → Alike run moved → Next others
      → Says (moved ++ others) s.keyword s.content others

says_there : (k : Keyword) (c : Content) (first : Token) (run moved others : List Token) → key_of first ≡ Some k
    → ((m o : List Token) → Alike run m → Next o → line k (m ++ o) c o) → Alike (first ∷ run) moved → Next others
    → Says (moved ++ others) k c others
unfolding statement
says_there k c first run [] others key reads alike n = absurd alike
says_there k c first run (u ∷ moved) others key reads alike n =
    let word : first_word u ≡ Some (u.start, k) =
    ap (option_map (λ (j : Keyword). (u.start, j))) (sym (blind_key_of first u alike.0 alike.1) ∙ key) in
    record {
      is = record { start = u.start; keyword = k; content = c };
      there = record {
        value = (u.start, k);
        middle = moved ++ others;
        begins = record { first = u; front = refl; value = word };
        goes_on =
            record {
              value = c;
              middle = others;
              begins = reads moved others alike.2 n;
              goes_on = record { value = refl; all = refl };
            };
      };
      keyword = refl;
      content = refl;
    }

pub statement_moves : (ts : List Token) (s : Statement) (rest : List Token) → statement ts s rest → CanPass s.content
    → Moved ts s rest
unfolding statement
statement_moves ts s rest h can =
    let t = h.begins.first in
    let k = h.value.1 in
    let key : key_of t ≡ Some k = word_key t (key_of t) h.value h.begins.value in
    let body = h.goes_on in
    let same = body.goes_on.value in
    let content : s.content ≡ body.value = ap (λ (s : Statement). s.content) same in
    let keyword : s.keyword ≡ k = ap (λ (s : Statement). s.keyword) same in
    let f = moves_line k h.middle body.value body.middle body.begins (subst CanPass content can) in
    let tail : h.middle ≡ f.run ++ rest = f.parts ∙ ap (λ (l : List Token). f.run ++ l) (sym body.goes_on.all) in
    record {
      run = t ∷ f.run;
      parts = h.begins.front ∙ ap (λ (l : List Token). t ∷ l) tail;
      moves = λ moved others alike n.
          let there = says_there k body.value t f.run moved others key f.moves alike n in
          record {
            is = there.is;
            there = there.there;
            keyword = there.keyword ∙ sym keyword;
            content = there.content
                ∙ sym content;
          };
    }
