-- Statements that are skipped end with their first `;`, or, after `BO_`, before the next statement.
use Rattle.dbc_keep_law.proofs.Common.{◌≡◌, ◌&&◌, ℕ, Bool, true, false, not, List, [], ◌∷◌, ◌++◌, Option, Some, None}
use Rattle.dbc_keep_law.proofs.Common.{codes, if◌then◌else◌, refl, sym, ap, subst, ◌∙◌, append_assoc, AllByRecursion}
use Rattle.dbc_keep_law.proofs.Common.{bytes_eq, and_parts, is_numeral, whole_of, Number, keyword_text, Keyword}
use Rattle.dbc_keep_law.proofs.Common.{EnvironmentVariable, Message, Nodes, Signal, ValueType, cited_name, cited_number}
use Rattle.dbc_keep_law.proofs.Common.{is_a, is_key, is_mark, mark, sign_of, text_of, type_of, begins_next, is_open}
use Rattle.dbc_keep_law.proofs.Common.{is_spn_name, next, spn_of, Rule, token, one, only, ◌>>=◌, done, optional, many}
use Rattle.dbc_keep_law.proofs.Common.{Content, PassedOver, Token, Name, Text, only_passes, kind_is, passes}
use Rattle.dbc_words.specs.ValueType.{value_type_of}
use Rattle.dbc_grammar.specs.Fields.{decimal, entry, number_of, whole}
use Rattle.dbc_grammar.specs.Grammar.{independent_line, message_comment, node_comment, passed_attribute, passed_comment}
use Rattle.dbc_grammar.specs.Grammar.{passed_value_texts, signal_comment, skipped, spn_line, value_texts_line}
use Rattle.dbc_grammar.specs.Grammar.{value_type_line}
use Rattle.dbc_grammar.specs.Inside.{inside_of}
use Rattle.dbc_grammar.specs.declared.token.TokenKind.TheVariants.{Number as NumberKind}
use Rattle.dbc_grammar.proofs.Exactness.{bind_takes}
use Rattle.dbc_grammar.proofs.ExactFields.{mark_kind, mark_text, name_cited, number_number, number_where, number_whole}

-- ---- up to the first `;`

abbrev pub AreOpen : List Token → Type 0
AreOpen ts = AllByRecursion (λ t. is_open t ≡ true) ts

-- the rest comes after tokens other than `;`
pub record Opens (ts rest : List Token) : Type 0 where
  pub opens : List Token
  pub parts : ts ≡ opens ++ rest
  pub are_open : AreOpen opens

-- the rest comes after the first `;`
pub record Ends (ts rest : List Token) : Type 0 where
  pub opens : List Token
  pub end : Token
  pub parts : ts ≡ opens ++ end ∷ rest
  pub are_open : AreOpen opens
  pub closed : is_open end ≡ false

open_append : (xs ys : List Token) → AreOpen xs → AreOpen ys → AreOpen (xs ++ ys)
open_append [] ys h k = k
open_append (x ∷ xs) ys h k = (h.0, open_append xs ys h.1 k)

opens_then : (ts mid rest : List Token) → Opens ts mid → Opens mid rest → Opens ts rest
opens_then ts mid rest a b = record {
  opens = a.opens ++ b.opens;
  parts = a.parts ∙ ap (λ (l : List Token). a.opens ++ l) b.parts ∙ sym (append_assoc a.opens b.opens rest);
  are_open = open_append a.opens b.opens a.are_open b.are_open;
}

ends_then : (ts mid rest : List Token) → Opens ts mid → Ends mid rest → Ends ts rest
ends_then ts mid rest a b = record {
  opens = a.opens ++ b.opens;
  end = b.end;
  parts = a.parts ∙ ap (λ (l : List Token). a.opens ++ l) b.parts ∙ sym (append_assoc a.opens b.opens (b.end ∷ rest));
  are_open = open_append a.opens b.opens a.are_open b.are_open;
  closed = b.closed;
}

-- ---- rules

-- what the rule reads has no `;`
pub record Opening {A : Type 0} (rule : Rule A) : Type 0 where
  pub each : (ts : List Token) (x : A) (rest : List Token) → rule ts x rest → Opens ts rest

-- what the rule reads ends with its first `;`
pub record Ending {A : Type 0} (rule : Rule A) : Type 0 where
  pub each : (ts : List Token) (x : A) (rest : List Token) → rule ts x rest → Ends ts rest

opening_token : {A : Type 0} (says : Token → Option A) → ((t : Token) (x : A) → says t ≡ Some x → is_open t ≡ true)
    → Opening (token says)
opening_token says open_is = record {
  each = λ ts x rest h. record { opens = h.first ∷ []; parts = h.front; are_open = (open_is h.first x h.value, tt) };
}

opening_one : (test : Token → Bool) → ((t : Token) → test t ≡ true → is_open t ≡ true) → Opening (one test)
opening_one test open_is = opening_token (λ t. only (test t) tt) (λ t x e. open_is t (passes test t x e))

opening_then : {A B : Type 0} {r : Rule A} {q : A → Rule B} → Opening r → ((x : A) → Opening (q x)) → Opening (r >>= q)
opening_then {r} {q} first second = record {
  each = λ ts y rest h.
      let a = first.each ts h.value h.middle h.begins in
      let b = (second h.value).each h.middle y rest h.goes_on in
      opens_then ts h.middle rest a b;
}

opening_done : {A : Type 0} (x : A) → Opening (done x)
opening_done x = record { each = λ ts y rest h. record { opens = []; parts = sym h.all; are_open = tt } }

optional_each : {A : Type 0} (r : Rule A) → Opening r → (ts : List Token) (x : Option A) (rest : List Token)
    → optional r ts x rest → Opens ts rest
optional_each r f ts None rest h = record { opens = []; parts = sym h; are_open = tt }
optional_each r f ts (Some x) rest h = f.each ts x rest h

opening_optional : {A : Type 0} {r : Rule A} → Opening r → Opening (optional r)
opening_optional {r} f = record { each = optional_each r f }

many_each : {A : Type 0} (r : Rule A) → Opening r → (ts : List Token) (xs : List A) (rest : List Token)
    → many r ts xs rest → Opens ts rest
many_each r f ts [] rest h = record { opens = []; parts = sym h; are_open = tt }
many_each r f ts (x ∷ xs) rest (middle, here, more) =
    opens_then ts middle rest (f.each ts x middle here) (many_each r f middle xs rest more)

opening_many : {A : Type 0} {r : Rule A} → Opening r → Opening (many r)
opening_many {r} f = record { each = many_each r f }

ending_then : {A B : Type 0} {r : Rule A} {q : A → Rule B} → Opening r → ((x : A) → Ending (q x)) → Ending (r >>= q)
ending_then {r} {q} first second = record {
  each = λ ts y rest h.
      let a = first.each ts h.value h.middle h.begins in
      let b = (second h.value).each h.middle y rest h.goes_on in
      ends_then ts h.middle rest a b;
}

mark_closed : (t : Token) → is_mark (codes ";") t ≡ true → is_open t ≡ false
mark_closed t e = rw e refl

ending_mark : (c : Content) → Ending (mark (codes ";") >>= λ end. done c)
ending_mark c = record {
  each = λ ts x rest h.
      let m = h.begins in
      let front : ts ≡ m.first ∷ rest = m.front ∙ ap (λ (l : List Token). m.first ∷ l) (sym h.goes_on.all) in
      record {
        opens = [];
        end = m.first;
        parts = front;
        are_open = tt;
        closed = mark_closed m.first (passes (is_mark (codes ";")) m.first h.value m.value);
      };
}

ending_done : {r : Rule Content} → Ending r → Ending (r >>= λ x. done x)
ending_done {r} f = record {
  each = λ ts x rest h.
      subst (λ (l : List Token). Ends ts l) (sym h.goes_on.all) (f.each ts h.value h.middle h.begins);
}

-- ---- tokens

key_open : (k : Keyword) (t : Token) → is_key k t ≡ true → is_open t ≡ true
key_open k t e = rw (kind_is Name t (and_parts (is_a Name t) (bytes_eq t.text (keyword_text k)) e).0) refl

number_open : (t : Token) (x : Option ℕ) → cited_number t ≡ Some x → is_open t ≡ true
number_open t x e =
    rw (kind_is NumberKind t (and_parts (is_a NumberKind t) (is_numeral t.text)
    (only_passes (is_a NumberKind t && is_numeral t.text) (whole_of t.text) x e)).0) refl

name_open : (t : Token) (x : List ℕ) → cited_name t ≡ Some x → is_open t ≡ true
name_open t x e = rw (name_cited t x e) refl

text_open : (t : Token) (x : List ℕ) → text_of t ≡ Some x → is_open t ≡ true
text_open t x e = rw (kind_is Text t (only_passes (is_a Text t) (inside_of t.text) x e)) refl

value_open : (negative : Bool) (t : Token) (x : Number) → number_of negative t ≡ Some x → is_open t ≡ true
value_open negative t x e = rw (number_number negative t x e) refl

type_open : (t : Token) (x : ValueType) → type_of t ≡ Some x → is_open t ≡ true
type_open t x e = let b = bind_takes (whole t) value_type_of x e in rw (number_whole t b.0 b.1) refl

spn_open : (t : Token) (x : ℕ) → spn_of t ≡ Some x → is_open t ≡ true
spn_open t x e = rw (number_where _ t x e) refl

colon_open : (t : Token) → is_mark (codes ":") t ≡ true → is_open t ≡ true
colon_open t e = rw (mark_text (codes ":") t e, mark_kind (codes ":") t e) refl

sign_by : (t : Token) (minus : Bool) (b : Bool) → is_mark (codes "+") t ≡ b
    → (if b then Some false else only (is_mark (codes "-") t) true) ≡ Some minus → is_mark (codes ";") t ≡ false
sign_by t minus true e h = rw (mark_text (codes "+") t e, mark_kind (codes "+") t e) refl
sign_by t minus false e h =
    let m = only_passes (is_mark (codes "-") t) true minus h in
    rw (mark_text (codes "-") t m, mark_kind (codes "-") t m) refl

sign_open : (t : Token) (minus : Bool) → sign_of t ≡ Some minus → is_open t ≡ true
sign_open t minus e = rw (sign_by t minus (is_mark (codes "+") t) refl e) refl

pub spn_name_open : (t : Token) → is_spn_name t ≡ true → is_open t ≡ true
spn_name_open t e = rw (kind_is Text t (and_parts (is_a Text t) (bytes_eq (inside_of t.text) (codes "SPN")) e).0) refl

-- ---- fields and statements

opening_decimal : Opening decimal
unfolding decimal
opening_decimal =
    opening_then (opening_optional (opening_token sign_of sign_open)) (λ minus.
    opening_then (opening_token _ (value_open _)) (λ n.
    opening_done n))

opening_entry : Opening entry
unfolding entry
opening_entry =
    opening_then opening_decimal (λ value.
    opening_then (opening_token text_of text_open) (λ text.
    opening_done _))

pub ending_skipped : Ending skipped
unfolding skipped
ending_skipped = ending_then (opening_many (opening_one is_open (λ t e. e))) (λ others. ending_mark PassedOver)

pub ending_node_comment : Ending node_comment
unfolding node_comment
ending_node_comment =
    ending_then (opening_one (is_key Nodes) (key_open Nodes)) (λ word.
    ending_then (opening_token cited_name name_open) (λ node.
    ending_then (opening_token text_of text_open) (λ text.
    ending_mark _)))

pub ending_message_comment : Ending message_comment
unfolding message_comment
ending_message_comment =
    ending_then (opening_one (is_key Message) (key_open Message)) (λ word.
    ending_then (opening_token cited_number number_open) (λ number.
    ending_then (opening_token text_of text_open) (λ text.
    ending_mark _)))

pub ending_signal_comment : Ending signal_comment
unfolding signal_comment
ending_signal_comment =
    ending_then (opening_one (is_key Signal) (key_open Signal)) (λ word.
    ending_then (opening_token cited_number number_open) (λ number.
    ending_then (opening_token cited_name name_open) (λ name.
    ending_then (opening_token text_of text_open) (λ text.
    ending_mark _))))

pub ending_passed_comment : Ending passed_comment
unfolding passed_comment
ending_passed_comment =
    ending_then (opening_one (is_key EnvironmentVariable) (key_open EnvironmentVariable)) (λ word.
    ending_done ending_skipped)

pub ending_value_texts : Ending value_texts_line
unfolding value_texts_line
ending_value_texts =
    ending_then (opening_token cited_number number_open) (λ number.
    ending_then (opening_token cited_name name_open) (λ name.
    ending_then (opening_many opening_entry) (λ entries.
    ending_mark _)))

pub ending_passed_value_texts : Ending passed_value_texts
unfolding passed_value_texts
ending_passed_value_texts =
    ending_then (opening_token cited_name name_open) (λ name.
    ending_done ending_skipped)

pub ending_value_type : Ending value_type_line
unfolding value_type_line
ending_value_type =
    ending_then (opening_token cited_number number_open) (λ number.
    ending_then (opening_token cited_name name_open) (λ name.
    ending_then (opening_optional (opening_one (is_mark (codes ":")) colon_open)) (λ colon.
    ending_then (opening_token type_of type_open) (λ value_type.
    ending_mark _))))

pub ending_spn : Ending spn_line
unfolding spn_line
ending_spn =
    ending_then (opening_one is_spn_name spn_name_open) (λ attribute.
    ending_then (opening_one (is_key Signal) (key_open Signal)) (λ word.
    ending_then (opening_token cited_number number_open) (λ number.
    ending_then (opening_token cited_name name_open) (λ name.
    ending_then (opening_token spn_of spn_open) (λ spn.
    ending_mark _)))))

pub ending_passed_attribute : Ending passed_attribute
unfolding passed_attribute
ending_passed_attribute = record { each = λ ts x rest h. ending_skipped.each ts x rest h.reads }

-- ---- up to the next statement

abbrev pub BeginNone : List Token → Type 0
BeginNone ts = AllByRecursion (λ t. begins_next t ≡ false) ts

-- the rest is the end, or it begins with the first keyword other than `SG_`
pub record EndsBefore (ts rest : List Token) : Type 0 where
  pub others : List Token
  pub parts : ts ≡ others ++ rest
  pub begin_none : BeginNone others
  pub next : next rest ≡ true

record Begins (ts rest : List Token) : Type 0 where
  others : List Token
  parts : ts ≡ others ++ rest
  begin_none : BeginNone others

not_so : (b : Bool) → not b ≡ true → b ≡ false
not_so true e = absurd cc
not_so false e = refl

others_begin : (ts : List Token) (xs : List (Unit {0})) (rest : List Token)
    → many (one (λ t. not (begins_next t))) ts xs rest → Begins ts rest
others_begin ts [] rest h = record { others = []; parts = sym h; begin_none = tt }
others_begin ts (x ∷ xs) rest (middle, first, more) =
    let o = others_begin middle xs rest more in
    let none = not_so (begins_next first.first) (passes (λ t. not (begins_next t)) first.first x first.value) in
    record {
      others = first.first ∷ o.others;
      parts = first.front ∙ ap (λ (l : List Token). first.first ∷ l) o.parts;
      begin_none = (none, o.begin_none);
    }

number_begins_none : (t : Token) → t.kind ≡ NumberKind → begins_next t ≡ false
number_begins_none t e = rw e refl

pub independent_ends : (ts : List Token) (c : Content) (rest : List Token) → independent_line ts c rest
    → EndsBefore ts rest
unfolding independent_line
independent_ends ts c rest h =
    let t = h.begins.first in
    let o = others_begin h.middle h.goes_on.value h.goes_on.middle h.goes_on.begins in
    let end = h.goes_on.goes_on in
    let last : rest ≡ h.goes_on.middle = end.goes_on.all ∙ end.begins.all in
    let after : h.middle ≡ o.others ++ rest = o.parts ∙ ap (λ (l : List Token). o.others ++ l) (sym last) in
    record {
      others = t ∷ o.others;
      parts = h.begins.front ∙ ap (λ (l : List Token). t ∷ l) after;
      begin_none = (number_begins_none t (number_where _ t h.value h.begins.value), o.begin_none);
      next = ap next last ∙ end.begins.passes;
    }
