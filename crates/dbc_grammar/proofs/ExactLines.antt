-- The parsers of statements are exact.
use Rattle.dbc_grammar.proofs.Common.{◌≡◌, ℕ, Bool, true, false, not, List, [], ◌∷◌, Option, Some, None, is_some, refl}
use Rattle.dbc_grammar.proofs.Common.{subst, if◌then◌else◌, codes, and_parts, keyword_of, Keyword, Nodes, Signal}
use Rattle.dbc_grammar.proofs.Common.{EnvironmentVariable}
use Rattle.std.proofs.lemmas.Bool.{and_right}
use Rattle.dbc_words.specs.declared.keyword.Keyword.TheVariants.{Message}
use Rattle.dbc_words.specs.ValueType.{value_type_of}
use Rattle.dbc_grammar.specs.Fields.{is_a, is_mark, is_key, key_of, text_of, cited_name, made_name, node_of, whole}
use Rattle.dbc_grammar.specs.Fields.{cited_number, message_ident, independent_number, length_of, type_of, mark, signal}
use Rattle.dbc_grammar.specs.Grammar.{begins_next, next, is_open, version_line, is_symbol, ends_symbols, symbols_line}
use Rattle.dbc_grammar.specs.Grammar.{registers, timing, timing_line, nodes_line, table_line, message_line}
use Rattle.dbc_grammar.specs.Grammar.{file_comment, node_comment, message_comment, signal_comment, value_texts_line}
use Rattle.dbc_grammar.specs.Grammar.{value_type_line, is_spn_name, spn_of, spn_line, skipped, passed_comment}
use Rattle.dbc_grammar.specs.Grammar.{passed_value_texts, independent_line}
use Rattle.dbc_grammar.specs.Parsing.{signal_at, version_at, symbols_at, registers_at, timing_at, timing_line_at}
use Rattle.dbc_grammar.specs.Parsing.{nodes_line_at, entries_at, table_at, signals_at, message_at, file_comment_at}
use Rattle.dbc_grammar.specs.Parsing.{node_comment_at, message_comment_at, signal_comment_at, value_texts_at}
use Rattle.dbc_grammar.specs.Parsing.{value_type_at, spn_at, skipped_at, passed_comment_at, passed_value_texts_at}
use Rattle.dbc_grammar.specs.Parsing.{independent_at}
use Rattle.dbc_grammar.specs.Rules.{only, starts}
use Rattle.dbc_grammar.specs.Token.{Token}
use Rattle.dbc_grammar.specs.declared.token.TokenKind.TheVariants.{Name, Number as NumberKind}
use Rattle.dbc_grammar.proofs.Exactness.{Exact, Any, bind_takes, exact_then, exact_next, exact_any, exact_token}
use Rattle.dbc_grammar.proofs.Exactness.{exact_one, exact_done, exact_followed, exact_optional, exact_many, one_chance}
use Rattle.dbc_grammar.proofs.Exactness.{Chance, Repeats, tokens_repeat, one_passes, first_answers}
use Rattle.dbc_grammar.proofs.ExactFields.{kind_is, number_whole, passes, exact_nodes, entries_repeat, signal_starts}
use Rattle.dbc_grammar.proofs.ExactFields.{eats_signal, not_true}

-- the end follows, or a keyword other than `SG_`
abbrev pub Next : List Token → Type 0
Next ts = next ts ≡ true

pub exact_version : (ts : List Token) → Exact Any ts (version_line ts) (version_at ts)
unfolding version_line version_at
exact_version ts =
    exact_next _ (exact_token text_of ts) (λ version a.
    exact_done _ _ a refl)

symbols_stop : (ts : List Token) → ends_symbols ts ≡ true → starts is_symbol ts ≡ false
symbols_stop [] h = refl
symbols_stop (t ∷ ts) h = and_right (is_a Name t) _ (rw h refl)

pub exact_symbols : (ts : List Token) → Exact Any ts (symbols_line ts) (symbols_at ts)
unfolding symbols_line symbols_at
exact_symbols ts =
    exact_next _ (exact_one (is_mark (codes ":")) ts) (λ colon a.
    exact_then _ (exact_many (tokens_repeat is_symbol) a) (λ symbols b.
    exact_next _ (exact_followed ends_symbols b) (λ end c.
    exact_done _ _ c refl))
    (λ symbols b y rest h _. symbols_stop b h.begins.passes))

-- A keyword is a name, and no number or mark.

pub next_name : (t : Token) → begins_next t ≡ true → is_a Name t ≡ true
next_name t h = by_name (is_a Name t) (keyword_of t.text) (and_parts (is_some (key_of t)) (not (is_key Signal t)) h).0
  where
    by_name : (b : Bool) (o : Option Keyword) → is_some (if b then o else None) ≡ true → b ≡ true
    by_name true o e = refl
    by_name false o e = absurd cc

next_no_number : (ts : List Token) → Next ts → starts (is_a NumberKind) ts ≡ false
next_no_number [] h = refl
next_no_number (t ∷ ts) h = rw (kind_is Name t (next_name t h)) refl

next_no_mark : (w : List ℕ) (ts : List Token) → Next ts → starts (is_mark w) ts ≡ false
next_no_mark w [] h = refl
next_no_mark w (t ∷ ts) h = rw (kind_is Name t (next_name t h)) refl

pub exact_registers : (ts : List Token) → Exact Any ts (registers ts) (registers_at ts)
unfolding registers registers_at
exact_registers ts =
    exact_next _ (exact_one (is_mark (codes ":")) ts) (λ colon a.
    exact_next _ (exact_one (is_a NumberKind) a) (λ first b.
    exact_next _ (exact_one (is_mark (codes ",")) b) (λ comma c.
    exact_next _ (exact_one (is_a NumberKind) c) (λ second d.
    exact_done _ _ d refl))))

registers_begin : (ts : List Token) (x : Unit {0}) (rest : List Token) → registers ts x rest
    → starts (is_mark (codes ":")) ts ≡ true
unfolding registers
registers_begin ts x rest h = one_passes (is_mark (codes ":")) ts h.value h.middle h.begins

registers_chance : Chance Next registers (starts (is_mark (codes ":"))) registers_at
registers_chance = record {
  each = λ ts. exact_any (exact_registers ts);
  begins = registers_begin;
  stops =
      next_no_mark (codes ":");
}

pub exact_timing : (ts : List Token) → Exact Next ts (timing ts) (timing_at ts)
unfolding timing timing_at
exact_timing ts =
    exact_next _ (exact_one (is_a NumberKind) ts) (λ rate a.
    exact_then _ (exact_optional registers_chance a) (λ others b.
    exact_any (exact_done _ _ b refl))
    (λ others b y rest h n. subst Next h.all n))

timing_begins : (ts : List Token) (x : Unit {0}) (rest : List Token) → timing ts x rest
    → starts (is_a NumberKind) ts ≡ true
unfolding timing
timing_begins ts x rest h = one_passes (is_a NumberKind) ts h.value h.middle h.begins

timing_chance : Chance Next timing (starts (is_a NumberKind)) timing_at
timing_chance = record { each = exact_timing; begins = timing_begins; stops = next_no_number }

pub exact_timing_line : (ts : List Token) → Exact Next ts (timing_line ts) (timing_line_at ts)
unfolding timing_line timing_line_at
exact_timing_line ts =
    exact_next _ (exact_one (is_mark (codes ":")) ts) (λ colon a.
    exact_then _ (exact_optional timing_chance a) (λ numbers b.
    exact_any (exact_done _ _ b refl))
    (λ numbers b y rest h n. subst Next h.all n))

pub exact_nodes_line : (ts : List Token) → Exact Any ts (nodes_line ts) (nodes_line_at ts)
unfolding nodes_line nodes_line_at
exact_nodes_line ts =
    exact_next _ (exact_one (is_mark (codes ":")) ts) (λ colon a.
    exact_next _ (exact_nodes a) (λ names b.
    exact_done _ _ b refl))

-- Before the `;` that ends a statement.

end_stops : (ts : List Token) (x : Unit {0}) (rest : List Token) → mark (codes ";") ts x rest
    → starts is_open ts ≡ false
end_stops = first_answers (λ t. only (is_mark (codes ";") t) tt) is_open false
    (λ t x e. rw (passes (is_mark (codes ";")) t x e) refl)

pub exact_table : (ts : List Token) → Exact Any ts (table_line ts) (table_at ts)
unfolding table_line table_at entries_at
exact_table ts =
    exact_next _ (exact_token made_name ts) (λ name a.
    exact_then _ (exact_many entries_repeat a) (λ entries b.
    exact_next _ (exact_one (is_mark (codes ";")) b) (λ end c.
    exact_done _ _ c refl))
    (λ entries b y rest h _. end_stops b h.value h.middle h.begins))

signals_stop : (ts : List Token) → Next ts → starts (is_key Signal) ts ≡ false
signals_stop [] h = refl
signals_stop (t ∷ ts) h = not_true (is_key Signal t) (and_parts (is_some (key_of t)) (not (is_key Signal t)) h).1

pub signals_repeat : Repeats Next Any signal (starts (is_key Signal)) signal_at
signals_repeat = record {
  each = λ ts. (eats_signal ts).exact;
  begins = signal_starts;
  before = λ ts x rest h. tt;
  shorter = λ ts x rest h. (eats_signal ts).shorter x rest h;
  stops = signals_stop;
  last = λ ts h. tt;
}

pub exact_message : (ts : List Token) → Exact Next ts (message_line ts) (message_at ts)
unfolding message_line message_at signals_at
exact_message ts =
    exact_next _ (exact_token message_ident ts) (λ ident a.
    exact_next _ (exact_token made_name a) (λ name b.
    exact_next _ (exact_one (is_mark (codes ":")) b) (λ colon c.
    exact_next _ (exact_token length_of c) (λ length d.
    exact_next _ (exact_token node_of d) (λ transmitter e.
    exact_then _ (exact_many signals_repeat e) (λ signals f.
    exact_any (exact_done _ _ f refl))
    (λ signals f y rest h n. subst Next h.all n))))))

pub exact_file_comment : (ts : List Token) → Exact Any ts (file_comment ts) (file_comment_at ts)
unfolding file_comment file_comment_at
exact_file_comment ts =
    exact_next _ (exact_token text_of ts) (λ text a.
    exact_next _ (exact_one (is_mark (codes ";")) a) (λ end b.
    exact_done _ _ b refl))

pub exact_node_comment : (ts : List Token) → Exact Any ts (node_comment ts) (node_comment_at ts)
unfolding node_comment node_comment_at
exact_node_comment ts =
    exact_next _ (exact_one (is_key Nodes) ts) (λ word a.
    exact_next _ (exact_token cited_name a) (λ node b.
    exact_next _ (exact_token text_of b) (λ text c.
    exact_next _ (exact_one (is_mark (codes ";")) c) (λ end d.
    exact_done _ _ d refl))))

pub exact_message_comment : (ts : List Token) → Exact Any ts (message_comment ts) (message_comment_at ts)
unfolding message_comment message_comment_at
exact_message_comment ts =
    exact_next _ (exact_one (is_key Message) ts) (λ word a.
    exact_next _ (exact_token cited_number a) (λ number b.
    exact_next _ (exact_token text_of b) (λ text c.
    exact_next _ (exact_one (is_mark (codes ";")) c) (λ end d.
    exact_done _ _ d refl))))

pub exact_signal_comment : (ts : List Token) → Exact Any ts (signal_comment ts) (signal_comment_at ts)
unfolding signal_comment signal_comment_at
exact_signal_comment ts =
    exact_next _ (exact_one (is_key Signal) ts) (λ word a.
    exact_next _ (exact_token cited_number a) (λ number b.
    exact_next _ (exact_token cited_name b) (λ name c.
    exact_next _ (exact_token text_of c) (λ text d.
    exact_next _ (exact_one (is_mark (codes ";")) d) (λ end e.
    exact_done _ _ e refl)))))

pub exact_value_texts : (ts : List Token) → Exact Any ts (value_texts_line ts) (value_texts_at ts)
unfolding value_texts_line value_texts_at entries_at
exact_value_texts ts =
    exact_next _ (exact_token cited_number ts) (λ number a.
    exact_next _ (exact_token cited_name a) (λ name b.
    exact_then _ (exact_many entries_repeat b) (λ entries c.
    exact_next _ (exact_one (is_mark (codes ";")) c) (λ end d.
    exact_done _ _ d refl))
    (λ entries c y rest h _. end_stops c h.value h.middle h.begins)))

type_no_mark : (w : List ℕ) (t : Token) (x : _) → type_of t ≡ Some x → is_mark w t ≡ false
type_no_mark w t x e = let b = bind_takes (whole t) value_type_of x e in rw (number_whole t b.0 b.1) refl

pub exact_value_type : (ts : List Token) → Exact Any ts (value_type_line ts) (value_type_at ts)
unfolding value_type_line value_type_at
exact_value_type ts =
    exact_next _ (exact_token cited_number ts) (λ number a.
    exact_next _ (exact_token cited_name a) (λ name b.
    exact_then _ (exact_optional (one_chance (is_mark (codes ":"))) b) (λ colon c.
    exact_next _ (exact_token type_of c) (λ value_type d.
    exact_next _ (exact_one (is_mark (codes ";")) d) (λ end e.
    exact_done _ _ e refl)))
    (λ colon c y rest h _. first_answers type_of (is_mark (codes ":")) false (type_no_mark (codes ":")) c h.value
    h.middle h.begins)))

pub exact_spn : (ts : List Token) → Exact Any ts (spn_line ts) (spn_at ts)
unfolding spn_line spn_at
exact_spn ts =
    exact_next _ (exact_one is_spn_name ts) (λ attribute a.
    exact_next _ (exact_one (is_key Signal) a) (λ word b.
    exact_next _ (exact_token cited_number b) (λ number c.
    exact_next _ (exact_token cited_name c) (λ name d.
    exact_next _ (exact_token spn_of d) (λ spn e.
    exact_next _ (exact_one (is_mark (codes ";")) e) (λ end f.
    exact_done _ _ f refl))))))

-- Statements that are skipped.

pub exact_skipped : (ts : List Token) → Exact Any ts (skipped ts) (skipped_at ts)
unfolding skipped skipped_at
exact_skipped ts =
    exact_then _ (exact_many (tokens_repeat is_open) ts) (λ others a.
    exact_next _ (exact_one (is_mark (codes ";")) a) (λ end b.
    exact_done _ _ b refl))
    (λ others a y rest h _. end_stops a h.value h.middle h.begins)

pub exact_passed_comment : (ts : List Token) → Exact Any ts (passed_comment ts) (passed_comment_at ts)
unfolding passed_comment passed_comment_at
exact_passed_comment ts =
    exact_next _ (exact_one (is_key EnvironmentVariable) ts) (λ word a.
    exact_next _ (exact_skipped a) (λ passed b.
    exact_done _ _ b refl))

pub exact_passed_value_texts : (ts : List Token) → Exact Any ts (passed_value_texts ts) (passed_value_texts_at ts)
unfolding passed_value_texts passed_value_texts_at
exact_passed_value_texts ts =
    exact_next _ (exact_token cited_name ts) (λ name a.
    exact_next _ (exact_skipped a) (λ passed b.
    exact_done _ _ b refl))

inner_stop : (ts : List Token) → Next ts → starts (λ t. not (begins_next t)) ts ≡ false
inner_stop [] h = refl
inner_stop (t ∷ ts) h = rw h refl

pub exact_independent : (ts : List Token) → Exact Any ts (independent_line ts) (independent_at ts)
unfolding independent_line independent_at
exact_independent ts =
    exact_next _ (exact_token independent_number ts) (λ number a.
    exact_then _ (exact_many (tokens_repeat (λ t. not (begins_next t))) a) (λ others b.
    exact_next _ (exact_followed next b) (λ end c.
    exact_done _ _ c refl))
    (λ others b y rest h _. inner_stop b h.begins.passes))
