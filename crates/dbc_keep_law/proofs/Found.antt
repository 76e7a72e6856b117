-- A skipped statement is the one that is found at its offset.
use Rattle.dbc_keep_law.proofs.Common.{◌≡◌, ◌≤◌, ◌+◌, ℕ, Bool, true, false, List, [], ◌∷◌, ◌++◌, map, filter, length}
use Rattle.dbc_keep_law.proofs.Common.{drop, Option, Some, None, option_map, refl, sym, ap, subst, ◌∙◌, inl, inr, arith}
use Rattle.dbc_keep_law.proofs.Common.{append_assoc, AllByRecursion, append_cancel_right, drop_at, length-append}
use Rattle.dbc_keep_law.proofs.Common.{KeywordGroup, Kept, Passed, Refused, keyword_group, Keyword, Version, NewSymbols}
use Rattle.dbc_keep_law.proofs.Common.{BitTiming, Nodes, ValueTable, Message, Signal, Comment, ValueTexts}
use Rattle.dbc_keep_law.proofs.Common.{SignalValueType, AttributeValue, AreParts, Part, key_of, begins_next}
use Rattle.dbc_keep_law.proofs.Common.{file_comment, is_open, message_comment, message_line, next, other_line}
use Rattle.dbc_keep_law.proofs.Common.{independent_line, passed_value_texts, signal_comment, spn_line, value_texts_line}
use Rattle.dbc_keep_law.proofs.Common.{Rule, either, Says, is_passed, passed_by, Content, Statement, Token, HasTokens}
use Rattle.dbc_keep_law.proofs.Common.{divisions_are_parts}
use Rattle.std.proofs.Common.{min}
use Rattle.std.proofs.lemmas.Simd.{map-map}
use Rattle.dbc_grammar.specs.Grammar.{comment_line, line, node_comment, passed_line, passed_attribute, statement}
use Rattle.dbc_grammar.specs.Lexing.{Lexed, lexed}
use Rattle.dbc_grammar.specs.Tokens.{IsFirst}
use Rattle.dbc_grammar.proofs.TokenExact.{exact}
use Rattle.dbc_keep_law.specs.Found.{before_next, found, others_of, run_of, to_mark, tokens_at}
use Rattle.dbc_keep_law.specs.Law.{StatementsAreFound}
use Rattle.dbc_keep_law.specs.Passages.{Passage, line_of, passage_of, passages_of, statements_of}
use Rattle.dbc_keep_law.proofs.Ends.{
  AreOpen,
  BeginNone,
  Ending,
  Ends,
  EndsBefore,
  ending_message_comment,
  ending_node_comment,
  ending_passed_attribute,
  ending_passed_comment,
  ending_passed_value_texts,
  ending_signal_comment,
  ending_skipped,
  ending_spn,
  ending_value_texts,
  ending_value_type,
  independent_ends,
}
use Rattle.dbc_keep_law.proofs.FramedStatements.{CanPass}
use Rattle.dbc_keep_law.proofs.KeptReads.{passed_can}
use Rattle.dbc_keep_law.proofs.Never.{Never, never_file_comment, never_message, never_nodes, never_symbols, never_table}
use Rattle.dbc_keep_law.proofs.Never.{never_timing, never_version}
use Rattle.dbc_keep_law.proofs.Verbatim.{verbatim}

-- ---- where a statement ends

-- what is read of contents that can be skipped ends with its first `;`
abbrev EndsSo : Rule Content → Type 0
EndsSo rule = (ts : List Token) (c : Content) (rest : List Token) → rule ts c rest → CanPass c → Ends ts rest

ends_so : {rule : Rule Content} → Ending rule → EndsSo rule
ends_so f ts c rest h can = f.each ts c rest h

ends_either : (r q : Rule Content) → EndsSo r → EndsSo q → EndsSo (either r q)
ends_either r q first second ts c rest h can =
    elim h [ inl k ↦ first ts c rest k can | inr k ↦ second ts c rest k can ]

ends_never : {rule : Rule Content} → Never rule → EndsSo rule
ends_never f ts c rest h can = absurd (f ts c rest h can)

ends_comment : EndsSo comment_line
unfolding comment_line
ends_comment =
    ends_either file_comment _ (ends_never never_file_comment)
    (ends_either node_comment _ (ends_so ending_node_comment)
    (ends_either message_comment _ (ends_so ending_message_comment)
    (ends_either signal_comment _ (ends_so ending_signal_comment) (ends_so ending_passed_comment))))

ends_other : (group : KeywordGroup) → EndsSo (other_line group)
unfolding passed_line
ends_other Passed = ends_so ending_skipped
ends_other Refused = λ ts c rest h can. absurd h
ends_other Kept = λ ts c rest h can. absurd h

message_ends : (ts : List Token) (c : Content) (rest : List Token) → either message_line independent_line ts c rest
    → CanPass c → EndsBefore ts rest
message_ends ts c rest h can =
    elim h [ inl k ↦ absurd (never_message ts c rest k can) | inr k ↦ independent_ends ts c rest k ]

-- how the statement of a keyword ends
abbrev HasEnd : Keyword → List Token → List Token → Type 0
HasEnd Message ts rest = EndsBefore ts rest
HasEnd k ts rest = Ends ts rest

line_ends : (k : Keyword) (ts : List Token) (c : Content) (rest : List Token) → line k ts c rest → CanPass c
    → HasEnd k ts rest
unfolding line
line_ends Version = ends_never never_version
line_ends NewSymbols = ends_never never_symbols
line_ends BitTiming = ends_never never_timing
line_ends Nodes = ends_never never_nodes
line_ends ValueTable = ends_never never_table
line_ends Message = message_ends
line_ends Signal = λ ts c rest h can. absurd h
line_ends Comment = ends_comment
line_ends ValueTexts =
    ends_either value_texts_line passed_value_texts (ends_so ending_value_texts) (ends_so ending_passed_value_texts)
line_ends SignalValueType = ends_so ending_value_type
line_ends AttributeValue = ends_either spn_line passed_attribute (ends_so ending_spn) (ends_so ending_passed_attribute)
line_ends k = ends_other (keyword_group k)

-- the first token of a statement, and those after it
record HasEnds (ts : List Token) (s : Statement) (rest : List Token) : Type 0 where
  first : Token
  after : List Token
  front : ts ≡ first ∷ after
  start : s.start ≡ first.start
  ends : HasEnd s.keyword after rest
  reads : line s.keyword after s.content rest

word_start : (t : Token) (o : Option Keyword) (x : ℕ × Keyword) → option_map (λ k. (t.start, k)) o ≡ Some x
    → x.0 ≡ t.start
word_start t None x e = absurd cc
word_start t (Some k) x e = let same : x ≡ (t.start, k) = cc in ap (λ (x : ℕ × Keyword). x.0) same

statement_ends : (ts : List Token) (s : Statement) (rest : List Token) → statement ts s rest → CanPass s.content
    → HasEnds ts s rest
unfolding statement
statement_ends ts s rest h can =
    let t = h.begins.first in
    let body = h.goes_on in
    let same = body.goes_on.value in
    let start : s.start ≡ h.value.0 = ap (λ (s : Statement). s.start) same in
    let keyword : s.keyword ≡ h.value.1 = ap (λ (s : Statement). s.keyword) same in
    let content : s.content ≡ body.value = ap (λ (s : Statement). s.content) same in
    let ends = line_ends h.value.1 h.middle body.value body.middle body.begins (subst CanPass content can) in
    let here = subst (λ (l : List Token). HasEnd h.value.1 h.middle l) (sym body.goes_on.all) ends in
    let as_content = subst (λ (c : Content). line h.value.1 h.middle c body.middle) (sym content) body.begins in
    let there = subst (λ (l : List Token). line h.value.1 h.middle s.content l) (sym body.goes_on.all) as_content in
    record {
      first = t;
      after = h.middle;
      front = h.begins.front;
      start = start ∙ word_start t (key_of t) h.value h.begins.value;
      ends = subst (λ (k : Keyword). HasEnd k h.middle rest) (sym keyword) here;
      reads = subst (λ (k : Keyword). line k h.middle s.content rest) (sym keyword) there;
    }

-- ---- so the run is found

mark_stops : (opens : List Token) (end : Token) (rest : List Token) → AreOpen opens → is_open end ≡ false
    → to_mark (opens ++ end ∷ rest) ≡ opens ++ end ∷ []
mark_stops [] end rest h c = rw c refl
mark_stops (x ∷ xs) end rest h c =
    let here : is_open x ≡ true = h.0 in
    rw here (ap (λ (l : List Token). x ∷ l) (mark_stops xs end rest h.1 c))

next_stops : (others rest : List Token) → BeginNone others → next rest ≡ true → before_next (others ++ rest) ≡ others
next_stops [] [] h n = refl
next_stops [] (t ∷ ts) h n = let here : begins_next t ≡ true = n in rw here refl
next_stops (x ∷ xs) rest h n =
    let here : begins_next x ≡ false = h.0 in
    rw here (ap (λ (l : List Token). x ∷ l) (next_stops xs rest h.1 n))

record IsRun (k : Keyword) (after rest : List Token) : Type 0 where
  others : List Token
  parts : after ≡ others ++ rest
  is : others_of k after ≡ others

run_to_mark : (after rest : List Token) → (h : Ends after rest)
    → (after ≡ (h.opens ++ h.end ∷ []) ++ rest) × (to_mark after ≡ h.opens ++ h.end ∷ [])
run_to_mark after rest h = (
  h.parts ∙ sym (append_assoc h.opens (h.end ∷ []) rest),
  ap to_mark h.parts ∙ mark_stops h.opens h.end rest h.are_open h.closed,
)

run_there : (k : Keyword) (after rest : List Token) → HasEnd k after rest → IsRun k after rest
run_there Message after rest h = record {
  others = h.others;
  parts = h.parts;
  is = ap before_next h.parts ∙ next_stops h.others rest h.begin_none h.next;
}
run_there k after rest h =
    let r = run_to_mark after rest h in
    record { others = h.opens ++ h.end ∷ []; parts = r.0; is = r.1 }

-- the run of a statement: its keyword, and the others up to its end
pub record HasRun (run : List Token) (s : Statement) (rest : List Token) : Type 0 where
  pub first : Token
  pub after : List Token
  pub front : run ++ rest ≡ first ∷ after
  pub start : s.start ≡ first.start
  pub run_is : run ≡ first ∷ others_of s.keyword after
  pub reads : line s.keyword after s.content rest

pub statement_run : (run : List Token) (s : Statement) (rest : List Token) → statement (run ++ rest) s rest
    → CanPass s.content → HasRun run s rest
statement_run run s rest is can =
    let h = statement_ends (run ++ rest) s rest is can in
    let r = run_there s.keyword h.after rest h.ends in
    let whole : run ++ rest ≡ (h.first ∷ r.others) ++ rest =
    h.front ∙ ap (λ (l : List Token). h.first ∷ l) r.parts in
    let same : run ≡ h.first ∷ r.others = append_cancel_right run (h.first ∷ r.others) rest whole in
    record {
      first = h.first;
      after = h.after;
      front = h.front;
      start = h.start;
      run_is = same ∙ ap (λ (l : List Token). h.first ∷ l) (sym r.is);
      reads = h.reads;
    }

tokens_here : (source front bytes : List ℕ) (offset : ℕ) (t : Token) (ts : List Token) → source ≡ front ++ bytes
    → length front ≡ offset → HasTokens offset bytes (t ∷ ts) → tokens_at source t.start ≡ t ∷ ts
tokens_here source front bytes offset t ts e at (rest, f, more) =
    let whole : source ≡ (front ++ f.gap) ++ (t.text ++ rest) =
    e ∙ ap (λ v. front ++ v) f.parts ∙ sym (append_assoc front f.gap (t.text ++ rest)) in
    let start : length (front ++ f.gap) ≡ t.start = omega (arith, at, f.start, length-append front f.gap) in
    let here : drop t.start source ≡ t.text ++ rest =
    ap (drop t.start) whole ∙ drop_at (front ++ f.gap) (t.text ++ rest) t.start start in
    let long : length source ≡ length (front ++ f.gap) + length (t.text ++ rest) =
    ap length whole ∙ length-append (front ++ f.gap) (t.text ++ rest) in
    let least : t.start ≤ length source = omega (arith, start, long) in
    let within : min t.start (length source) ≡ t.start = omega (arith, least) in
    let first : IsFirst t.start (t.text ++ rest) t rest = record {
      gap = [];
      parts = refl;
      gap_is = refl;
      start = omega arith;
      end = f.end;
      spelled = f.spelled;
      longest = f.longest;
    } in
    let read = (exact t.start (t.text ++ rest) (t ∷ ts)).0 (rest, first, more) in
    let moved : lexed (min t.start (length source)) (drop t.start source) ≡ lexed t.start (t.text ++ rest) =
    λ i. lexed (within i) (here i) in
    ap (λ (l : Lexed). l.tokens) (moved ∙ read)

-- ---- each of them

abbrev IsFound : List ℕ → Part → Type 0
IsFound source part = CanPass part.is.content
    → found source (part.is.start, part.is.keyword) ≡ passage_of source part

part_found : (source front bytes : List ℕ) (offset : ℕ) (part : Part) (rest : List Token) → source ≡ front ++ bytes
    → length front ≡ offset → HasTokens offset bytes (part.run ++ rest) → statement (part.run ++ rest) part.is rest
    → IsFound source part
part_found source front bytes offset part rest e at has is can =
    let r = statement_run part.run part.is rest is can in
    let k = part.is.keyword in
    let has_first : HasTokens offset bytes (r.first ∷ r.after) = subst (HasTokens offset bytes) r.front has in
    let there = tokens_here source front bytes offset r.first r.after e at has_first in
    let begins : tokens_at source part.is.start ≡ r.first ∷ r.after = ap (tokens_at source) r.start ∙ there in
    let words : run_of k (tokens_at source part.is.start) ≡ part.run = ap (run_of k) begins ∙ sym r.run_is in
    let as_passage : List Token → Passage = λ l. record { keyword = k; line = line_of source l } in
    ap as_passage words

found_in : (source front bytes : List ℕ) (offset : ℕ) (ts : List Token) (parts : List Part) → source ≡ front ++ bytes
    → length front ≡ offset → HasTokens offset bytes ts → AreParts ts parts → AllByRecursion (IsFound source) parts
found_in source front bytes offset ts [] e at has are = tt
found_in source front bytes offset ts (part ∷ parts) e at has (rest, same, is, others) =
    let here = subst (HasTokens offset bytes) same has in
    let v = verbatim offset source front bytes part.run rest e at here in (
      λ can. part_found source front bytes offset part rest e at here is can,
      found_in source v.before v.after v.end rest parts v.source_is v.end_is v.has others,
    )

-- ---- all of them

abbrev pair_of : Part → ℕ × Keyword
pair_of p = (p.is.start, p.is.keyword)

module _ (source : List ℕ) (ss : List Statement) where
  abbrev gone : Part → Bool
  gone p = is_passed ss p.is.content

  abbrev found_part : Part → Passage
  found_part p = found source (pair_of p)

  found_by : (part : Part) (parts : List Part) (b : Bool) → gone part ≡ b → IsFound source part
      → map found_part (filter gone parts) ≡ map (passage_of source) (filter gone parts)
      → map found_part (filter gone (part ∷ parts)) ≡ map (passage_of source) (filter gone (part ∷ parts))
  found_by part parts true e is more = rw e (λ i. is (passed_can ss part.is.content e) i ∷ more i)
  found_by part parts false e is more = rw e more

  found_each : (parts : List Part) → AllByRecursion (IsFound source) parts
      → map found_part (filter gone parts) ≡ map (passage_of source) (filter gone parts)
  found_each [] h = refl
  found_each (part ∷ parts) h = found_by part parts (gone part) refl h.0 (found_each parts h.1)

  abbrev pairs_in : List Statement → List (ℕ × Keyword)
  pairs_in us = map (λ (s : Statement). (s.start, s.keyword)) (filter (λ (s : Statement). is_passed ss s.content) us)

  pairs_by : (part : Part) (parts : List Part) (b : Bool) → gone part ≡ b
      → pairs_in (statements_of parts) ≡ map pair_of (filter gone parts)
      → pairs_in (statements_of (part ∷ parts)) ≡ map pair_of (filter gone (part ∷ parts))
  pairs_by part parts true e more = rw e (ap (λ (l : List (ℕ × Keyword)). pair_of part ∷ l) more)
  pairs_by part parts false e more = rw e more

  pairs_are : (parts : List Part) → pairs_in (statements_of parts) ≡ map pair_of (filter gone parts)
  pairs_are [] = refl
  pairs_are (part ∷ parts) = pairs_by part parts (gone part) refl (pairs_are parts)

pub statements_are_found : StatementsAreFound
statements_are_found source s passed h =
    let d = (divisions_are_parts h.tokens h.statements).0 h.divides in
    let parts = d.0 in
    let are : AreParts h.tokens parts = d.1 in
    let same : statements_of parts ≡ h.statements = d.2 in
    let ss = statements_of parts in
    let says = subst (λ (us : List Statement). Says us s) (sym same) h.says in
    let pairs : passed ≡ map pair_of (filter (gone source ss) parts) =
    h.passes ∙ ap passed_by (sym same) ∙ pairs_are source ss parts in
    let each = found_each source ss parts (found_in source [] source 0 h.tokens parts refl refl h.has_tokens are) in
    let all : map (found source) passed ≡ passages_of source parts =
    ap (map (found source)) pairs ∙ map-map (found source) pair_of (filter (gone source ss) parts) ∙ each in
    record {
      tokens = h.tokens;
      parts = parts;
      has_tokens = h.has_tokens;
      are_parts = are;
      says = says;
      passages = all;
    }
