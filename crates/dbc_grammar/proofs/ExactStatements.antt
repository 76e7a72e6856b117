-- Which statement a keyword begins, and that all of them are read.
use Rattle.dbc_grammar.proofs.Common.{◌≡◌, ℕ, ◌==◌, Bool, true, false, List, Some, None, is_some, refl, sym, subst, ◌∙◌}
use Rattle.dbc_grammar.proofs.Common.{inl, inr, bytes_eq, and_parts, bytes_eq-Decides, keyword_of, Keyword, Version}
use Rattle.dbc_grammar.proofs.Common.{NewSymbols, BitTiming, Nodes, ValueTable, Signal, Comment, ValueTexts}
use Rattle.dbc_grammar.proofs.Common.{SignalValueType, AttributeValue, EnvironmentVariable}
use Rattle.std.proofs.lemmas.Bool.Decides.{Decides-eqb}
use Rattle.dbc_words.specs.Keyword.{KeywordGroup, Kept, Passed, Refused, keyword_text, keyword_group}
use Rattle.dbc_words.specs.declared.keyword.Keyword.TheVariants.{Message}
use Rattle.dbc_grammar.specs.Fields.{is_a, is_key, key_of, key, text_of, cited_name, whole, cited_number, ident_of}
use Rattle.dbc_grammar.specs.Fields.{message_ident, independent_number}
use Rattle.dbc_grammar.specs.Grammar.{message_line, file_comment, node_comment, message_comment, signal_comment}
use Rattle.dbc_grammar.specs.Grammar.{value_texts_line, passed_line, passed_comment, passed_value_texts}
use Rattle.dbc_grammar.specs.Grammar.{passed_attribute, independent_line, comment_line, other_line, line, first_word}
use Rattle.dbc_grammar.specs.Grammar.{statement}
use Rattle.dbc_grammar.specs.Parsing.{signal_or_passed_at, message_or_signal_at, named_comment_at, comment_at}
use Rattle.dbc_grammar.specs.Parsing.{either_at, message_at, independent_at, value_texts_at, passed_value_texts_at}
use Rattle.dbc_grammar.specs.Parsing.{other_line_at, line_at, statement_at}
use Rattle.dbc_grammar.specs.Rules.{Rule, Then, only, either, starts, begins}
use Rattle.dbc_grammar.specs.Statement.{Content}
use Rattle.dbc_grammar.specs.Token.{Token}
use Rattle.dbc_grammar.specs.declared.token.TokenKind.TheVariants.{Name}
use Rattle.dbc_grammar.proofs.Exactness.{Exact, Any, bind_takes, exact_then, exact_any, exact_done, exact_either}
use Rattle.dbc_grammar.proofs.Exactness.{exact_unless, Eats, eats, token_passes, only_passes, first_answers}
use Rattle.dbc_grammar.proofs.ExactFields.{kind_is, name_cited, passes}
use Rattle.dbc_grammar.proofs.ExactLines.{Next, exact_version, exact_symbols, exact_timing_line, exact_nodes_line}
use Rattle.dbc_grammar.proofs.ExactLines.{exact_table, exact_message, exact_file_comment, exact_node_comment}
use Rattle.dbc_grammar.proofs.ExactLines.{exact_message_comment, exact_signal_comment, exact_value_texts}
use Rattle.dbc_grammar.proofs.ExactLines.{exact_value_type, exact_spn, exact_skipped, exact_passed_comment}
use Rattle.dbc_grammar.proofs.ExactLines.{exact_passed_value_texts, exact_independent}

-- A keyword is spelled in one way, and each spelling is one keyword.

pub keyword_back : (k : Keyword) → keyword_of (keyword_text k) ≡ Some k
keyword_back Version = refl
keyword_back k = refl

key_name : (k : Keyword) (t : Token) → is_key k t ≡ true → t.kind ≡ Name
key_name k t e = kind_is Name t (and_parts (is_a Name t) (bytes_eq t.text (keyword_text k)) e).0

pub key_is : (k : Keyword) (t : Token) → is_key k t ≡ true → key_of t ≡ Some k
key_is k t e =
    let same = (and_parts (is_a Name t) (bytes_eq t.text (keyword_text k)) e).1 in
    let text : t.text ≡ keyword_text k = (bytes_eq-Decides t.text (keyword_text k)).0 same in
    rw (key_name k t e, text) (keyword_back k)

same_key : (k j : Keyword) (t : Token) → is_key k t ≡ true → is_key j t ≡ true → Some k ≡ Some j
same_key k j t e f = sym (key_is k t e) ∙ key_is j t f

other_key : (k j : Keyword) → (Some k ≡ Some j → ⊥) → (t : Token) → is_key k t ≡ true → is_key j t ≡ false
other_key k j apart t e = by_answer (is_key j t) refl
  where
    by_answer : (b : Bool) → is_key j t ≡ b → is_key j t ≡ false
    by_answer true f = absurd (apart (same_key k j t e f))
    by_answer false f = f

-- Comments.

-- what comes first in a rule that begins with a keyword
key_first : {B : Type 0} {q : Unit {0} → Rule B} {ts rest : List Token} {x : B} (k : Keyword) (test : Token → Bool)
    (b : Bool)
    → ((t : Token) → is_key k t ≡ true → test t ≡ b) → Then (key k) q ts x rest → starts test ts ≡ b
key_first {ts} k test b f h = first_answers (λ t. only (is_key k t) tt) test b (λ t u e. f t (passes (is_key k) t u e))
    ts h.value h.middle h.begins

no_key : {B : Type 0} {q : Unit {0} → Rule B} {ts rest : List Token} {x : B} (k j : Keyword) → (Some k ≡ Some j → ⊥)
    → Then (key k) q ts x rest → starts (is_key j) ts ≡ false
no_key k j apart h = key_first k (is_key j) false (other_key k j apart) h

no_text : {B : Type 0} {q : Unit {0} → Rule B} {ts rest : List Token} {x : B} (k : Keyword)
    → Then (key k) q ts x rest → begins text_of ts ≡ false
no_text k h = key_first k (λ t. is_some (text_of t)) false (λ t e. rw (key_name k t e) refl) h

exact_signal_or_passed : (ts : List Token)
    → Exact Any ts (either signal_comment passed_comment ts) (signal_or_passed_at ts)
unfolding signal_comment passed_comment
exact_signal_or_passed ts =
    exact_either (starts (is_key Signal) ts) (exact_signal_comment ts) (exact_passed_comment ts)
    (λ x rest h. key_first Signal (is_key Signal) true (λ t e. e) h)
    (λ x rest h. no_key EnvironmentVariable Signal (λ e. cc) h)

exact_message_or_signal : (ts : List Token)
    → Exact Any ts (either message_comment (either signal_comment passed_comment) ts) (message_or_signal_at ts)
unfolding message_comment signal_comment passed_comment
exact_message_or_signal ts =
    exact_either (starts (is_key Message) ts) (exact_message_comment ts) (exact_signal_or_passed ts)
    (λ x rest h. key_first Message (is_key Message) true (λ t e. e) h)
    (λ x rest h. elim h [
      | inl h ↦ no_key Signal Message (λ e. cc) h
      | inr h ↦ no_key EnvironmentVariable Message
          (λ e. cc) h
    ])

exact_named_comment : (ts : List Token)
    → Exact Any ts (either node_comment (either message_comment (either signal_comment passed_comment)) ts)
    (named_comment_at ts)
unfolding node_comment message_comment signal_comment passed_comment
exact_named_comment ts =
    exact_either (starts (is_key Nodes) ts) (exact_node_comment ts) (exact_message_or_signal ts)
    (λ x rest h. key_first Nodes (is_key Nodes) true (λ t e. e) h)
    (λ x rest h. elim h [
      | inl h ↦ no_key Message Nodes (λ e. cc) h
      | inr (inl h) ↦ no_key Signal Nodes (λ e. cc) h
      | inr (inr h) ↦ no_key EnvironmentVariable Nodes (λ e. cc) h
    ])

exact_comment : (ts : List Token) → Exact Any ts (comment_line ts) (comment_at ts)
unfolding comment_line comment_at file_comment node_comment message_comment signal_comment passed_comment
exact_comment ts =
    exact_either (begins text_of ts) (exact_file_comment ts) (exact_named_comment ts)
    (λ x rest h. token_passes text_of ts h.value h.middle h.begins)
    (λ x rest h. elim h [
      | inl h ↦ no_text Nodes h
      | inr (inl h) ↦ no_text Message h
      | inr (inr (inl h)) ↦ no_text Signal h
      | inr (inr (inr h)) ↦ no_text EnvironmentVariable h
    ])

-- Messages.

is_independent : (n x : ℕ) → only (n == 3221225472) n ≡ Some x → ident_of n ≡ None
is_independent n x e = rw ((Decides-eqb n 3221225472).0 (only_passes (n == 3221225472) n x e)) refl

independent_no_message : (t : Token) (x : ℕ) → independent_number t ≡ Some x → is_some (message_ident t) ≡ false
independent_no_message t x e =
    let b = bind_takes (whole t) (λ n. only (n == 3221225472) n) x e in
    rw (b.1, is_independent b.0 x b.2) refl

message_begins : (ts : List Token) (x : Content) (rest : List Token) → message_line ts x rest
    → begins message_ident ts ≡ true
unfolding message_line
message_begins ts x rest h = token_passes message_ident ts h.value h.middle h.begins

independent_begins : (ts : List Token) (x : Content) (rest : List Token) → independent_line ts x rest
    → begins message_ident ts ≡ false
unfolding independent_line
independent_begins ts x rest h =
    first_answers independent_number (λ t. is_some (message_ident t)) false independent_no_message ts h.value h.middle
    h.begins

exact_numbered : (ts : List Token)
    → Exact Next ts (either message_line independent_line ts)
    (either_at (begins message_ident) message_at independent_at ts)
exact_numbered ts =
    exact_either (begins message_ident ts) (exact_message ts) (exact_any (exact_independent ts)) (message_begins ts)
    (independent_begins ts)

-- Value texts.

texts_begin : (ts : List Token) (x : Content) (rest : List Token) → value_texts_line ts x rest
    → begins cited_number ts ≡ true
unfolding value_texts_line
texts_begin ts x rest h = token_passes cited_number ts h.value h.middle h.begins

passed_texts_begin : (ts : List Token) (x : Content) (rest : List Token) → passed_value_texts ts x rest
    → begins cited_number ts ≡ false
unfolding passed_value_texts
passed_texts_begin ts x rest h =
    first_answers cited_name (λ t. is_some (cited_number t)) false (λ t n e. rw (name_cited t n e) refl) ts h.value
    h.middle h.begins

exact_texts : (ts : List Token)
    → Exact Any ts (either value_texts_line passed_value_texts ts)
    (either_at (begins cited_number) value_texts_at passed_value_texts_at ts)
exact_texts ts =
    exact_either (begins cited_number ts) (exact_value_texts ts) (exact_passed_value_texts ts) (texts_begin ts)
    (passed_texts_begin ts)

-- All of them.

exact_nothing : (ts : List Token) → Exact {A = Content} Any ts (λ x rest. ⊥) None
exact_nothing ts = record { takes = λ x e. absurd cc; again = λ x rest h _. absurd h; within = λ x rest h. absurd h }

exact_other : (group : KeywordGroup) (ts : List Token) → Exact Any ts (other_line group ts) (other_line_at group ts)
unfolding passed_line
exact_other Passed ts = exact_skipped ts
exact_other Refused ts = exact_nothing ts
exact_other Kept ts = exact_nothing ts

pub exact_line : (k : Keyword) (ts : List Token) → Exact Next ts (line k ts) (line_at k ts)
unfolding line line_at passed_attribute
exact_line Version ts = exact_any (exact_version ts)
exact_line NewSymbols ts = exact_any (exact_symbols ts)
exact_line BitTiming ts = exact_timing_line ts
exact_line Nodes ts = exact_any (exact_nodes_line ts)
exact_line ValueTable ts = exact_any (exact_table ts)
exact_line Message ts = exact_numbered ts
exact_line Signal ts = exact_any (exact_nothing ts)
exact_line Comment ts = exact_any (exact_comment ts)
exact_line ValueTexts ts = exact_any (exact_texts ts)
exact_line SignalValueType ts = exact_any (exact_value_type ts)
exact_line AttributeValue ts = exact_any (exact_unless ts _ _ (exact_spn ts) (exact_skipped ts))
exact_line k ts = exact_any (exact_other (keyword_group k) ts)

pub eats_statement : (ts : List Token) → Eats Next ts (statement ts) (statement_at ts)
unfolding statement statement_at
eats_statement ts =
    eats first_word ts _ (λ first a.
    exact_then _ (exact_line first.1 a) (λ content b.
    exact_any (exact_done _ _ b refl))
    (λ content b y rest h n. subst Next h.all n))
