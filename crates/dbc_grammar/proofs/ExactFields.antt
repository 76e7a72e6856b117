-- The parsers of fields are exact.
use Rattle.dbc_grammar.proofs.Common.{◌≡◌, ℕ, ◌<◌, ◌&&◌, Bool, true, false, not, List, [], ◌∷◌, length, Option, Some}
use Rattle.dbc_grammar.proofs.Common.{None, is_some, option_map, refl, sym, ap, ◌∙◌, arith, if◌then◌else◌, codes}
use Rattle.dbc_grammar.proofs.Common.{bytes_eq, and_parts, and_from, bytes_eq-Decides, Number, Signal}
use Rattle.std.proofs.Common.{◌||◌}
use Rattle.std.specs.Prelude.{unwrap_or}
use Rattle.dbc_words.specs.Name.{is_name, no_node}
use Rattle.dbc_grammar.specs.Fields.{same_kind, is_a, is_mark, is_key, text_of, cited_name, made_name, node_of, whole}
use Rattle.dbc_grammar.specs.Fields.{whole_where, start_of, size_of, order_of, sign_of, mux_of, number_of, mark}
use Rattle.dbc_grammar.specs.Fields.{decimal, pair, entry, goes_on, further, no_names, some_names, nodes, layout}
use Rattle.dbc_grammar.specs.Fields.{signal}
use Rattle.dbc_grammar.specs.Grammar.{is_open}
use Rattle.dbc_grammar.specs.Parsing.{decimal_at, pair_at, entry_at, further_at, some_names_at, no_names_at, nodes_at}
use Rattle.dbc_grammar.specs.Parsing.{layout_at, signal_at}
use Rattle.dbc_grammar.specs.Rules.{token, only, optional, starts, begins}
use Rattle.dbc_grammar.specs.Token.{Token}
use Rattle.dbc_grammar.specs.declared.token.TokenKind.{TokenKind}
use Rattle.dbc_grammar.specs.declared.token.TokenKind.TheVariants.{Name, Number as NumberKind, Text, Mark}
use Rattle.dbc_grammar.proofs.Exactness.{Exact, Any, length_within, bind_takes, exact_then, exact_next, exact_token}
use Rattle.dbc_grammar.proofs.Exactness.{exact_one, exact_done, exact_followed, exact_optional, exact_many}
use Rattle.dbc_grammar.proofs.Exactness.{exact_either, token_chance, one_chance, Repeats, Eats, eats, token_passes}
use Rattle.dbc_grammar.proofs.Exactness.{one_passes, only_passes, first_answers}

-- What a token is that says something.

same_kinds : (k j : TokenKind) → same_kind k j ≡ true → j ≡ k
same_kinds Name Name e = refl
same_kinds NumberKind NumberKind e = refl
same_kinds Text Text e = refl
same_kinds Mark Mark e = refl
same_kinds a b e = absurd cc

pub kind_is : (k : TokenKind) (t : Token) → is_a k t ≡ true → t.kind ≡ k
kind_is k t e = same_kinds k t.kind e

gate : {A : Type 0} (b : Bool) (o : Option A) (x : A) → (if b then o else None) ≡ Some x → b ≡ true
gate true o x e = refl
gate false o x e = absurd cc

pub mark_kind : (w : List ℕ) (t : Token) → is_mark w t ≡ true → t.kind ≡ Mark
mark_kind w t e = kind_is Mark t (and_parts (is_a Mark t) (bytes_eq t.text w) e).0

pub mark_text : (w : List ℕ) (t : Token) → is_mark w t ≡ true → t.text ≡ w
mark_text w t e = (bytes_eq-Decides t.text w).0 (and_parts (is_a Mark t) (bytes_eq t.text w) e).1

pub name_cited : (t : Token) (x : List ℕ) → cited_name t ≡ Some x → t.kind ≡ Name
name_cited t x e = kind_is Name t (only_passes (is_a Name t) t.text x e)

pub name_made : (t : Token) (x : List ℕ) → made_name t ≡ Some x → t.kind ≡ Name
name_made t x e = kind_is Name t
    (and_parts (is_a Name t) (is_name t.text) (only_passes (is_a Name t && is_name t.text) t.text x e)).0

node_by : (t : Token) (x : Option (List ℕ)) (b : Bool) → (is_a Name t && bytes_eq t.text no_node) ≡ b
    → (if b then Some None else option_map Some (made_name t)) ≡ Some x → is_a Name t ≡ true
node_by t x true e h = (and_parts (is_a Name t) (bytes_eq t.text no_node) e).0
node_by t x false e h = made (made_name t) refl h
  where
    made : (o : Option (List ℕ)) → made_name t ≡ o → option_map Some o ≡ Some x → is_a Name t ≡ true
    made None f k = absurd cc
    made (Some y) f k = rw (name_made t y f) refl

pub name_node : (t : Token) (x : Option (List ℕ)) → node_of t ≡ Some x → t.kind ≡ Name
name_node t x e = kind_is Name t (node_by t x (is_a Name t && bytes_eq t.text no_node) refl e)

pub number_whole : (t : Token) (n : ℕ) → whole t ≡ Some n → t.kind ≡ NumberKind
number_whole t n e = kind_is NumberKind t (gate (is_a NumberKind t) _ n e)

pub number_where : (test : ℕ → Bool) (t : Token) (n : ℕ) → whole_where test t ≡ Some n → t.kind ≡ NumberKind
number_where test t n e = let b = bind_takes (whole t) (λ n. only (test n) n) n e in number_whole t b.0 b.1

pub number_number : (negative : Bool) (t : Token) (n : Number) → number_of negative t ≡ Some n → t.kind ≡ NumberKind
number_number negative t n e = kind_is NumberKind t (gate (is_a NumberKind t) _ n e)

pub passes : (test : Token → Bool) (t : Token) (x : Unit {0}) → only (test t) tt ≡ Some x → test t ≡ true
passes test t x e = only_passes (test t) tt x e

sign_by : (t : Token) (minus : Bool) (b : Bool) → is_mark (codes "+") t ≡ b
    → (if b then Some false else only (is_mark (codes "-") t) true) ≡ Some minus → is_mark (codes ";") t ≡ false
sign_by t minus true e h = rw (mark_text (codes "+") t e, mark_kind (codes "+") t e) refl
sign_by t minus false e h =
    let m = only_passes (is_mark (codes "-") t) true minus h in
    rw (mark_text (codes "-") t m, mark_kind (codes "-") t m) refl

-- a sign ends no statement
sign_open : (t : Token) (minus : Bool) → sign_of t ≡ Some minus → is_open t ≡ true
sign_open t minus e = rw (sign_by t minus (is_mark (codes "+") t) refl e) refl

-- Fields.

number_no_sign : (negative : Bool) (ts : List Token) (n : Number) (rest : List Token)
    → token (number_of negative) ts n rest → begins sign_of ts ≡ false
number_no_sign negative =
    first_answers (number_of negative) (λ t. is_some (sign_of t)) false
    (λ t n e. rw (number_number negative t n e) refl)

number_open : (negative : Bool) (ts : List Token) (n : Number) (rest : List Token)
    → token (number_of negative) ts n rest → starts is_open ts ≡ true
number_open negative = first_answers (number_of negative) is_open true (λ t n e. rw (number_number negative t n e) refl)

pub exact_decimal : (ts : List Token) → Exact Any ts (decimal ts) (decimal_at ts)
unfolding decimal decimal_at
exact_decimal ts =
    exact_then _ (exact_optional (token_chance sign_of) ts) (λ minus a.
    exact_next _ (exact_token (number_of (unwrap_or minus false)) a) (λ n b.
    exact_done _ _ b refl))
    (λ minus a y rest h _. number_no_sign (unwrap_or minus false) a h.value h.middle h.begins)

pub exact_pair : (left between right : List ℕ) (ts : List Token)
    → Exact Any ts (pair left between right ts) (pair_at left between right ts)
unfolding pair pair_at
exact_pair left between right ts =
    exact_next _ (exact_one (is_mark left) ts) (λ opening a.
    exact_next _ (exact_decimal a) (λ x b.
    exact_next _ (exact_one (is_mark between) b) (λ middle c.
    exact_next _ (exact_decimal c) (λ y d.
    exact_next _ (exact_one (is_mark right) d) (λ closing e.
    exact_done _ _ e refl)))))

pub exact_layout : (ts : List Token) → Exact Any ts (layout ts) (layout_at ts)
unfolding layout layout_at
exact_layout ts =
    exact_next _ (exact_token start_of ts) (λ start a.
    exact_next _ (exact_one (is_mark (codes "|")) a) (λ bar b.
    exact_next _ (exact_token size_of b) (λ size c.
    exact_next _ (exact_one (is_mark (codes "@")) c) (λ at_mark d.
    exact_next _ (exact_token order_of d) (λ order e.
    exact_next _ (exact_token sign_of e) (λ minus f.
    exact_done _ _ f refl))))))

-- Entries of a value list.

pub exact_entry : (ts : List Token) → Exact Any ts (entry ts) (entry_at ts)
unfolding entry entry_at
exact_entry ts =
    exact_next _ (exact_decimal ts) (λ value a.
    exact_next _ (exact_token text_of a) (λ text b.
    exact_done _ _ b refl))

decimal_open : (ts : List Token) (n : Number) (rest : List Token) → decimal ts n rest → starts is_open ts ≡ true
unfolding decimal
decimal_open ts n rest h = by_sign h.value h.middle h.begins h.goes_on.begins
  where
    by_sign : (minus : Option Bool) (mid : List Token) → optional (token sign_of) ts minus mid
        → token (number_of (unwrap_or minus false)) mid h.goes_on.value h.goes_on.middle → starts is_open ts ≡ true
    by_sign None mid e k =
        ap (starts is_open) (sym e) ∙ number_open false mid h.goes_on.value h.goes_on.middle k
    by_sign (Some minus) mid e k = first_answers sign_of is_open true sign_open ts minus mid e

entry_open : (ts : List Token) (x : _) (rest : List Token) → entry ts x rest → starts is_open ts ≡ true
unfolding entry
entry_open ts x rest h = decimal_open ts h.value h.middle h.begins

entry_shorter : (ts : List Token) (x : _) (rest : List Token) → entry ts x rest → length rest < length ts
unfolding entry
entry_shorter ts x rest h =
    let text = h.goes_on.begins in
    let k = h.goes_on.goes_on in
    omega (
      arith,
      length_within ts h.middle ((exact_decimal ts).within h.value h.middle h.begins),
      ap length text.front,
      ap length k.all,
    )

pub entries_repeat : Repeats (λ ts. starts is_open ts ≡ false) Any entry (starts is_open) entry_at
entries_repeat = record {
  each = exact_entry;
  begins = entry_open;
  before = λ ts x rest h. tt;
  shorter = entry_shorter;
  stops = λ ts h. h;
  last = λ ts h. tt;
}

-- Lists of nodes.

pub exact_further : (ts : List Token) → Exact Any ts (further ts) (further_at ts)
unfolding further further_at
exact_further ts =
    exact_then _ (exact_optional (one_chance (is_mark (codes ","))) ts) (λ comma a.
    exact_next _ (exact_token node_of a) (λ node b.
    exact_done _ _ b refl))
    (λ comma a y rest h _. first_answers node_of (is_mark (codes ",")) false (λ t x e. rw (name_node t x e) refl) a
    h.value h.middle h.begins)

or_right : (a b : Bool) → b ≡ true → (a || b) ≡ true
or_right true b e = refl
or_right false b e = e

or_left : (a b : Bool) → a ≡ true → (a || b) ≡ true
or_left a b e = rw e refl

name_goes_on : (ts : List Token) → begins node_of ts ≡ true → goes_on ts ≡ true
name_goes_on [] e = absurd cc
name_goes_on (t ∷ ts) e = or_left (is_some (node_of t)) _ e

further_goes_on : (ts : List Token) (x : Option (List ℕ)) (rest : List Token) → further ts x rest → goes_on ts ≡ true
unfolding further
further_goes_on ts x rest h =
    by_comma h.value h.middle h.begins (token_passes node_of h.middle h.goes_on.value h.goes_on.middle h.goes_on.begins)
  where
    by_comma : (comma : Option (Unit {0})) (mid : List Token) → optional (mark (codes ",")) ts comma mid
        → begins node_of mid ≡ true → goes_on ts ≡ true
    by_comma None mid e k = name_goes_on ts (ap (begins node_of) (sym e) ∙ k)
    by_comma (Some u) mid e k =
        let comma = passes (is_mark (codes ",")) e.first u e.value in
        ap goes_on e.front ∙ or_right (is_some (node_of e.first)) _
        (and_from (is_mark (codes ",") e.first) (begins node_of mid) comma k)

further_shorter : (ts : List Token) (x : Option (List ℕ)) (rest : List Token) → further ts x rest
    → length rest < length ts
unfolding further
further_shorter ts x rest h =
    let node = h.goes_on.begins in
    let k = h.goes_on.goes_on in
    let comma = (exact_optional (one_chance (is_mark (codes ","))) ts).within h.value h.middle h.begins in
    omega (arith, length_within ts h.middle comma, ap length node.front, ap length k.all)

pub further_repeats : Repeats (λ ts. goes_on ts ≡ false) Any further goes_on further_at
further_repeats = record {
  each = exact_further;
  begins = further_goes_on;
  before = λ ts x rest h. tt;
  shorter = further_shorter;
  stops = λ ts h. h;
  last = λ ts h. tt;
}

pub not_true : (b : Bool) → not b ≡ true → b ≡ false
not_true true e = absurd cc
not_true false e = refl

exact_some_names : (ts : List Token) → Exact Any ts (some_names ts) (some_names_at ts)
unfolding some_names some_names_at
exact_some_names ts =
    exact_next _ (exact_token node_of ts) (λ node a.
    exact_then _ (exact_many further_repeats a) (λ others b.
    exact_next _ (exact_followed (λ ts. not (goes_on ts)) b) (λ end c.
    exact_done _ _ c refl))
    (λ others b y rest h _. not_true (goes_on b) h.begins.passes))

some_begin : (ts : List Token) (xs : List (List ℕ)) (rest : List Token) → some_names ts xs rest
    → begins node_of ts ≡ true
unfolding some_names
some_begin ts xs rest h = token_passes node_of ts h.value h.middle h.begins

none_begin : (ts : List Token) (xs : List (List ℕ)) (rest : List Token) → no_names ts xs rest
    → begins node_of ts ≡ false
unfolding no_names
none_begin ts xs rest h = not_true (begins node_of ts) h.begins.passes

exact_no_names : (ts : List Token) → Exact Any ts (no_names ts) (no_names_at ts)
unfolding no_names no_names_at
exact_no_names ts =
    exact_next _ (exact_followed (λ ts. not (begins node_of ts)) ts) (λ end a.
    exact_done _ _ a refl)

pub exact_nodes : (ts : List Token) → Exact Any ts (nodes ts) (nodes_at ts)
unfolding nodes nodes_at
exact_nodes ts = exact_either (begins node_of ts) (exact_some_names ts) (exact_no_names ts) (some_begin ts)
    (none_begin ts)

-- A signal.

pub eats_signal : (ts : List Token) → Eats Any ts (signal ts) (signal_at ts)
unfolding signal signal_at
eats_signal ts =
    eats (λ t. only (is_key Signal t) tt) ts _ (λ word a.
    exact_next _ (exact_token made_name a) (λ name b.
    exact_then _ (exact_optional (token_chance mux_of) b) (λ mux c.
    exact_next _ (exact_one (is_mark (codes ":")) c) (λ colon d.
    exact_next _ (exact_layout d) (λ bits e.
    exact_next _ (exact_pair (codes "(") (codes ",") (codes ")") e) (λ scale f.
    exact_next _ (exact_pair (codes "[") (codes "|") (codes "]") f) (λ range g.
    exact_next _ (exact_token text_of g) (λ unit h.
    exact_next _ (exact_nodes h) (λ receivers i.
    exact_done _ _ i refl)))))))
    (λ mux c y rest h _. first_answers (λ t. only (is_mark (codes ":") t) tt) (λ t. is_some (mux_of t)) false
    (λ t x e. rw (mark_kind (codes ":") t (passes (is_mark (codes ":")) t x e)) refl) c h.value h.middle h.begins)))

pub signal_starts : (ts : List Token) (x : _) (rest : List Token) → signal ts x rest → starts (is_key Signal) ts ≡ true
unfolding signal
signal_starts ts x rest h = one_passes (is_key Signal) ts h.value h.middle h.begins
