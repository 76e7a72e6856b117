-- Tokens have one division into statements.
use Rattle.dbc_grammar.proofs.Common.{◌≡◌, ℕ, ◌<◌, Bool, true, false, not, List, [], ◌∷◌, ◌++◌, map, length, Option}
use Rattle.dbc_grammar.proofs.Common.{Some, None, is_some, option_map, refl, sym, ap, subst, ◌∙◌, arith, and_from}
use Rattle.dbc_grammar.proofs.Common.{Keyword, Signal}
use Rattle.std.proofs.lemmas.List.{append_cancel_right}
use Rattle.dbc_grammar.specs.Division.{IsStatement, OneStatement, StatementsAreRuns, Divides, OneDivision, Part}
use Rattle.dbc_grammar.specs.Division.{AreParts, DivisionsAreParts, OneParting, ReadingIsExact}
use Rattle.dbc_grammar.specs.Fields.{is_key, key_of}
use Rattle.dbc_grammar.specs.Grammar.{next, line, statement}
use Rattle.dbc_grammar.specs.Parsing.{many_at, statement_at, is_more, all_of, statements_at}
use Rattle.dbc_grammar.specs.Statement.{Content, Statement}
use Rattle.dbc_grammar.specs.Token.{Token}
use Rattle.dbc_grammar.proofs.Exactness.{bind_takes, exact_many, Repeats}
use Rattle.dbc_grammar.proofs.ExactLines.{Next}
use Rattle.dbc_grammar.proofs.ExactStatements.{key_is, exact_line, eats_statement}

-- A statement begins with a keyword other than `SG_`.

no_signal : (k : Keyword) (ts : List Token) (x : Content) (rest : List Token) → line k ts x rest → Some Signal ≡ Some k
    → ⊥
unfolding line
no_signal k ts x rest h e = let same : k ≡ Signal = cc in let gone : ⊥ = subst (λ k. line k ts x rest) same h in gone

not_signal : (t : Token) (k : Keyword) → key_of t ≡ Some k → (Some Signal ≡ Some k → ⊥) → not (is_key Signal t) ≡ true
not_signal t k e apart = by_answer (is_key Signal t) refl
  where
    by_answer : (b : Bool) → is_key Signal t ≡ b → not b ≡ true
    by_answer true f = absurd (apart (sym (key_is Signal t f) ∙ e))
    by_answer false f = refl

word_key : (t : Token) (o : Option Keyword) (x : ℕ × Keyword) → option_map (λ k. (t.start, k)) o ≡ Some x → o ≡ Some x.1
word_key t None x e = absurd cc
word_key t (Some k) x e = let same : (t.start, k) ≡ x = cc in ap (λ (x : ℕ × Keyword). Some x.1) same

statement_next : (ts : List Token) (s : Statement) (rest : List Token) → statement ts s rest → Next ts
unfolding statement
statement_next ts s rest h =
    let t = h.begins.first in
    let k = h.value.1 in
    let key : key_of t ≡ Some k = word_key t (key_of t) h.value h.begins.value in
    let content = h.goes_on in
    ap next h.begins.front
    ∙ and_from (is_some (key_of t)) (not (is_key Signal t)) (ap is_some key)
    (not_signal t k key (no_signal k h.middle content.value content.middle content.begins))

-- One statement.

statement_again : (ts : List Token) (s : Statement) (rest : List Token) → statement ts s rest → Next rest
    → statement_at ts ≡ Some (s, rest)
statement_again ts s rest h n = (eats_statement ts).exact.again s rest h n

one_reading : (ts : List Token) (s t : Statement) (rest more : List Token) → statement ts s rest → statement ts t more
    → Next rest → Next more
    → (s ≡ t) × (rest ≡ more)
one_reading ts s t rest more h k n m =
    let e : Some (s, rest) ≡ Some (t, more) = sym (statement_again ts s rest h n) ∙ statement_again ts t more k m in
    let pair : (s, rest) ≡ (t, more) = cc in
    (ap (λ (x : Statement × List Token). x.0) pair, ap (λ (x : Statement × List Token). x.1) pair)

pub one_statement : OneStatement
one_statement run other rest more s t e n m h k =
    let same = one_reading (run ++ rest) s t rest more h (subst (λ ts. statement ts t more) (sym e) k) n m in
    (append_cancel_right run other more (subst (λ (l : List Token). run ++ l ≡ other ++ more) same.1 e), same.0)

pub statements_are_runs : StatementsAreRuns
unfolding statement
statements_are_runs ts s rest h =
    let content = h.goes_on in
    let done = content.goes_on in
    let within = (exact_line h.value.1 h.middle).within content.value content.middle content.begins in
    let others : h.middle ≡ within.0 ++ rest = within.1 ∙ ap (λ (l : List Token). within.0 ++ l) (sym done.all) in
    (h.begins.first, within.0, h.begins.front ∙ ap (λ (l : List Token). h.begins.first ∷ l) others)

-- One division.

more_from : (ts rest : List Token) → length rest < length ts → is_more ts ≡ true
more_from [] rest h = absurd (omega arith)
more_from (t ∷ ts) rest h = refl

pub statements_repeat : Repeats (λ ts. ts ≡ []) Next statement is_more statement_at
statements_repeat = record {
  each = λ ts. (eats_statement ts).exact;
  begins = λ ts s rest h. more_from ts rest ((eats_statement ts).shorter s rest h);
  before = statement_next;
  shorter = λ ts s rest h. (eats_statement ts).shorter s rest h;
  stops = λ ts e. ap is_more e;
  last = λ ts e. ap next e;
}

none_left : (x : List Statement × List Token) (ss : List Statement) → all_of x ≡ Some ss → x ≡ (ss, [])
none_left (us, []) ss e = let k : us ≡ ss = cc in
    ap (λ (l : List Statement). let made : List Statement × List Token = (l, []) in made) k
none_left (us, t ∷ ts) ss e = absurd cc

pub reading_is_exact : ReadingIsExact
unfolding statements_at
reading_is_exact ts ss = (
  λ h. rw ((exact_many statements_repeat ts).again ss [] h refl) refl,
  λ e.
      let b = bind_takes (many_at is_more statement_at ts) all_of ss e in
      (exact_many statements_repeat ts).takes (ss, [])
      (b.1 ∙ ap (λ (x : List Statement × List Token). Some x) (none_left b.0 ss b.2)),
)

pub one_division : OneDivision
one_division ts ss us h k =
    let e : Some ss ≡ Some us = sym ((reading_is_exact ts ss).0 h) ∙ (reading_is_exact ts us).0 k in cc

-- One division into runs.

parts_next : (ts : List Token) (ps : List Part) → AreParts ts ps → Next ts
parts_next ts [] e = ap next e
parts_next ts (p ∷ ps) h = subst Next (sym h.1) (statement_next (p.run ++ h.0) p.is h.0 h.2)

no_statement : (run rest : List Token) (s : Statement) → IsStatement run s rest → [] ≡ run ++ rest → ⊥
no_statement run rest s h e = let k = statements_are_runs (run ++ rest) s rest h in let w = k.2 in absurd cc

abbrev part_of : List Token → Statement → Part
part_of run s = record { run = run; is = s }

same_part : (p q : Part) → p.run ≡ q.run → p.is ≡ q.is → p ≡ q
same_part p q e f = ap (λ (run : List Token). part_of run p.is) e ∙ ap (part_of q.run) f

pub one_parting : OneParting
one_parting ts [] [] h k = refl
one_parting ts [] (q ∷ qs) h k = absurd (no_statement q.run k.0 q.is k.2 (sym h ∙ k.1))
one_parting ts (p ∷ ps) [] h k = absurd (no_statement p.run h.0 p.is h.2 (sym k ∙ h.1))
one_parting ts (p ∷ ps) (q ∷ qs) h k =
    let rest_next = parts_next h.0 ps h.3 in
    let more_next = parts_next k.0 qs k.3 in
    let e = sym h.1 ∙ k.1 in
    let first = subst (λ l. statement l p.is h.0) (sym h.1) h.2 in
    let second = subst (λ l. statement l q.is k.0) (sym k.1) k.2 in
    let same = one_reading ts p.is q.is h.0 k.0 first second rest_next more_next in
    let runs = (one_statement p.run q.run h.0 k.0 p.is q.is e rest_next more_next h.2 k.2).0 in
    let others = one_parting h.0 ps qs h.3 (subst (λ l. AreParts l qs) (sym same.1) k.3) in
    rw (same_part p q runs same.0, others) refl

parts_divide : (ts : List Token) (ps : List Part) → AreParts ts ps → Divides ts (map (λ p. p.is) ps)
parts_divide ts [] h = sym h
parts_divide ts (p ∷ ps) h = (h.0, subst (λ l. statement l p.is h.0) (sym h.1) h.2, parts_divide h.0 ps h.3)

has_parts : (ts : List Token) (ss : List Statement) → Divides ts ss → (parts : List Part) × AreParts ts parts
    × (map (λ p. p.is) parts ≡ ss)
has_parts ts [] h = ([], sym h, refl)
has_parts ts (s ∷ ss) h =
    let others = has_parts h.0 ss h.2 in
    let run = statements_are_runs ts s h.0 h.1 in
    let part : Part = record { run = run.0 ∷ run.1; is = s } in (
      part ∷ others.0,
      (h.0, run.2, subst (λ l. statement l s h.0) run.2 h.1, others.1),
      ap (λ (l : List Statement). s ∷ l) others.2,
    )

pub divisions_are_parts : DivisionsAreParts
divisions_are_parts ts ss = (has_parts ts ss, λ h. subst (Divides ts) h.2 (parts_divide ts h.0 h.1))
