-- The statements that stay in the text of another sheet are skipped there too.
use Rattle.dbc_keep_law.proofs.Common.{◌≡◌, ◌&&◌, ℕ, Bool, true, false, not, List, [], ◌∷◌, ◌++◌, map, filter, Option}
use Rattle.dbc_keep_law.proofs.Common.{Some, None, codes, if◌then◌else◌, refl, sym, ap, subst, ◌∙◌, inl, inr}
use Rattle.dbc_keep_law.proofs.Common.{AllByRecursion, bytes_eq, and_parts, bytes_eq-Decides, is_numeral, whole_of}
use Rattle.dbc_keep_law.proofs.Common.{KeywordGroup, Kept, Passed, Refused, keyword_group, keyword_text, Keyword}
use Rattle.dbc_keep_law.proofs.Common.{Version, NewSymbols, BitTiming, Nodes, ValueTable, Message, Signal, Comment}
use Rattle.dbc_keep_law.proofs.Common.{ValueTexts, SignalValueType, AttributeValue, Sheet, AreParts, Part, cited_number}
use Rattle.dbc_keep_law.proofs.Common.{is_a, is_key, file_comment, is_open, is_spn_name, message_line, other_line}
use Rattle.dbc_keep_law.proofs.Common.{statement, Rule, either, is_passed, passed_by, Content, PassedOver, Statement}
use Rattle.dbc_keep_law.proofs.Common.{Token, Name, divisions_are_parts, only_passes, kind_is, passes}
use Rattle.std.specs.Prelude.{is_some}
use Rattle.dbc_grammar.specs.Grammar.{comment_line, independent_line, line, message_comment, node_comment}
use Rattle.dbc_grammar.specs.Grammar.{passed_attribute, passed_comment, passed_line, passed_value_texts, signal_comment}
use Rattle.dbc_grammar.specs.Grammar.{skipped, spn_line, value_texts_line, value_type_line}
use Rattle.dbc_grammar.specs.declared.token.TokenKind.TheVariants.{Number as NumberKind}
use Rattle.dbc_keep_law.specs.Found.{others_of, to_mark}
use Rattle.dbc_keep_law.specs.Kept.{completed, kept_text}
use Rattle.dbc_keep_law.specs.Law.{Keeps, KeptIsRead, StatementsStay}
use Rattle.dbc_keep_law.specs.Passages.{Passage, line_of, passage_of, pieces_from, statements_of}
use Rattle.dbc_keep_law.specs.Staying.{Word, cites, first_absent, first_word, is_name_word, is_word, or_else, says}
use Rattle.dbc_keep_law.specs.Staying.{says_spn, stays, word_of, words_of}
use Rattle.dbc_keep_law.specs.declared.reason.LeavingReason.{LeavingReason}
use Rattle.dbc_keep_law.specs.declared.reason.LeavingReason.TheVariants.{SheetSays}
use Rattle.dbc_keep_law.proofs.Ends.{spn_name_open}
use Rattle.dbc_keep_law.proofs.Found.{statement_run}
use Rattle.dbc_keep_law.proofs.FramedStatements.{CanPass}
use Rattle.dbc_keep_law.proofs.KeptDivides.{passages}
use Rattle.dbc_keep_law.proofs.KeptIsKept.{keeps_again}
use Rattle.dbc_keep_law.proofs.KeptReads.{AreEntries, passages_are, passed_can}
use Rattle.dbc_keep_law.proofs.KeptSays.{sheet_passed}
use Rattle.dbc_keep_law.proofs.Never.{Never, never_file_comment, never_message, never_nodes, never_symbols, never_table}
use Rattle.dbc_keep_law.proofs.Never.{never_timing, never_version}
use Rattle.dbc_keep_law.proofs.Standing.{Entry, Stands, entry_of, parts_stand}

-- ---- words of tokens

abbrev token_word : Token → Word
token_word t = record { kind = t.kind; text = t.text }

pieces_words : (source : List ℕ) (at : ℕ) (ts : List Token) → map word_of (pieces_from source at ts) ≡ map token_word ts
pieces_words source at [] = refl
pieces_words source at (t ∷ ts) = ap (λ (l : List Word). token_word t ∷ l) (pieces_words source t.end ts)

words_are : (source : List ℕ) (t : Token) (ts : List Token) → words_of (line_of source (t ∷ ts)) ≡ map token_word ts
words_are source t ts = pieces_words source t.end ts

first_by : (test : Word → Bool) (t : Token) (ts : List Token) (b : Bool) → is_open t ≡ b
    → first_word test (map token_word (to_mark (t ∷ ts))) ≡ test (token_word t)
first_by test t ts true e = rw e refl
first_by test t ts false e = rw e refl

first_there : (test : Word → Bool) (us : List Token) (t : Token) (ts : List Token) → us ≡ t ∷ ts
    → first_word test (map token_word (to_mark us)) ≡ test (token_word t)
first_there test us t ts e =
    ap (λ (l : List Token). first_word test (map token_word (to_mark l))) e ∙ first_by test t ts (is_open t) refl

two_by : (t u : Token) (ts : List Token) (b : Bool) → is_open u ≡ b → is_open t ≡ true → is_spn_name t ≡ true
    → bytes_eq u.text (codes "SG_") ≡ true → says_spn (map token_word (to_mark (t ∷ u ∷ ts))) ≡ true
two_by t u ts true e o name key = rw (o, e, name, key) refl
two_by t u ts false e o name key = rw (o, e, name, key) refl

key_text : (k : Keyword) (t : Token) → is_key k t ≡ true → t.text ≡ keyword_text k
key_text k t e =
    (bytes_eq-Decides t.text (keyword_text k)).0 (and_parts (is_a Name t) (bytes_eq t.text (keyword_text k)) e).1

-- ---- what doesn't say anything is skipped by its form

-- Of what the rule reads of contents that can be skipped, all that says nothing is skipped by its form.
abbrev Silent : Keyword → Rule Content → Type 0
Silent k rule = (ts : List Token) (c : Content) (rest : List Token) → rule ts c rest → CanPass c
    → says k (map token_word (others_of k ts)) ≡ false → c ≡ PassedOver

silent_never : (k : Keyword) {rule : Rule Content} → Never rule → Silent k rule
silent_never k f ts c rest h can quiet = absurd (f ts c rest h can)

silent_either : (k : Keyword) (r q : Rule Content) → Silent k r → Silent k q → Silent k (either r q)
silent_either k r q first second ts c rest h can quiet =
    elim h [ inl x ↦ first ts c rest x can quiet | inr x ↦ second ts c rest x can quiet ]

true_false : {b : Bool} → b ≡ true → b ≡ false → ⊥
true_false {b} t f = let no : true ≡ false = sym t ∙ f in absurd cc

skipped_is : (ts : List Token) (c : Content) (rest : List Token) → skipped ts c rest → c ≡ PassedOver
unfolding skipped
skipped_is ts c rest h = h.goes_on.goes_on.value

silent_skipped : (k : Keyword) → Silent k skipped
silent_skipped k ts c rest h can quiet = skipped_is ts c rest h

-- comments

no_variable : (k : Keyword) (us : List Token) (t : Token) (ts : List Token) → us ≡ t ∷ ts → is_key k t ≡ true
    → bytes_eq (keyword_text k) (codes "EV_") ≡ false → says Comment (map token_word (to_mark us)) ≡ true
no_variable k us t ts e key other =
    let first = first_there (is_word (codes "EV_")) us t ts e in
    let word : bytes_eq t.text (codes "EV_") ≡ false = ap (λ v. bytes_eq v (codes "EV_")) (key_text k t key) ∙ other in
    ap not (first ∙ word)

silent_node_comment : Silent Comment node_comment
unfolding node_comment
silent_node_comment ts c rest h can quiet =
    let t = h.begins in
    let key = passes (is_key Nodes) t.first h.value t.value in
    absurd (true_false (no_variable Nodes ts t.first h.middle t.front key refl) quiet)

silent_message_comment : Silent Comment message_comment
unfolding message_comment
silent_message_comment ts c rest h can quiet =
    let t = h.begins in
    let key = passes (is_key Message) t.first h.value t.value in
    absurd (true_false (no_variable Message ts t.first h.middle t.front key refl) quiet)

silent_signal_comment : Silent Comment signal_comment
unfolding signal_comment
silent_signal_comment ts c rest h can quiet =
    let t = h.begins in
    let key = passes (is_key Signal) t.first h.value t.value in
    absurd (true_false (no_variable Signal ts t.first h.middle t.front key refl) quiet)

silent_passed_comment : Silent Comment passed_comment
unfolding passed_comment
silent_passed_comment ts c rest h can quiet =
    h.goes_on.goes_on.value ∙ skipped_is h.middle h.goes_on.value h.goes_on.middle h.goes_on.begins

silent_comment : Silent Comment comment_line
unfolding comment_line
silent_comment =
    silent_either Comment file_comment _ (silent_never Comment never_file_comment)
    (silent_either Comment node_comment _ silent_node_comment
    (silent_either Comment message_comment _ silent_message_comment
    (silent_either Comment signal_comment _ silent_signal_comment silent_passed_comment)))

-- texts of values

number_no_name : (t : Token) (x : Option ℕ) → cited_number t ≡ Some x → is_name_word (token_word t) ≡ false
number_no_name t x e =
    rw (kind_is NumberKind t (and_parts (is_a NumberKind t) (is_numeral t.text)
    (only_passes (is_a NumberKind t && is_numeral t.text) (whole_of t.text) x e)).0) refl

silent_texts : Silent ValueTexts value_texts_line
unfolding value_texts_line
silent_texts ts c rest h can quiet =
    let t = h.begins in
    let first = first_there is_name_word ts t.first h.middle t.front in
    let loud : says ValueTexts (map token_word (to_mark ts)) ≡ true =
    ap not (first ∙ number_no_name t.first h.value t.value) in
    absurd (true_false loud quiet)

silent_passed_texts : Silent ValueTexts passed_value_texts
unfolding passed_value_texts
silent_passed_texts ts c rest h can quiet =
    h.goes_on.goes_on.value ∙ skipped_is h.middle h.goes_on.value h.goes_on.middle h.goes_on.begins

silent_type : Silent SignalValueType value_type_line
silent_type ts c rest h can quiet = absurd (true_false refl quiet)

-- values of attributes

silent_spn : Silent AttributeValue spn_line
unfolding spn_line
silent_spn ts c rest h can quiet =
    let a = h.begins in
    let b = h.goes_on.begins in
    let name = passes is_spn_name a.first h.value a.value in
    let key = passes (is_key Signal) b.first h.goes_on.value b.value in
    let word = (and_parts (is_a Name b.first) (bytes_eq b.first.text (keyword_text Signal)) key).1 in
    let words : ts ≡ a.first ∷ b.first ∷ h.goes_on.middle = a.front ∙ ap (λ (l : List Token). a.first ∷ l) b.front in
    let two = two_by a.first b.first h.goes_on.middle (is_open b.first) refl (spn_name_open a.first name) name word in
    let loud : says AttributeValue (map token_word (to_mark ts)) ≡ true =
    ap (λ (l : List Token). says_spn (map token_word (to_mark l))) words ∙ two in
    absurd (true_false loud quiet)

silent_attribute : Silent AttributeValue passed_attribute
unfolding passed_attribute
silent_attribute ts c rest h can quiet = skipped_is ts c rest h.reads

-- all

silent_other : (k : Keyword) (g : KeywordGroup) → Silent k (other_line g)
unfolding passed_line
silent_other k Passed = silent_skipped k
silent_other k Refused = λ ts c rest h can quiet. absurd h
silent_other k Kept = λ ts c rest h can quiet. absurd h

independent_is : (ts : List Token) (c : Content) (rest : List Token) → independent_line ts c rest → c ≡ PassedOver
unfolding independent_line
independent_is ts c rest h = h.goes_on.goes_on.goes_on.value

silent_message : Silent Message (either message_line independent_line)
silent_message =
    silent_either Message message_line independent_line (silent_never Message never_message)
    (λ ts c rest h can quiet. independent_is ts c rest h)

silent_line : (k : Keyword) → Silent k (line k)
unfolding line
silent_line Version = silent_never Version never_version
silent_line NewSymbols = silent_never NewSymbols never_symbols
silent_line BitTiming = silent_never BitTiming never_timing
silent_line Nodes = silent_never Nodes never_nodes
silent_line ValueTable = silent_never ValueTable never_table
silent_line Message = silent_message
silent_line Signal = λ ts c rest h can quiet. absurd h
silent_line Comment = silent_comment
silent_line ValueTexts = silent_either ValueTexts value_texts_line passed_value_texts silent_texts silent_passed_texts
silent_line SignalValueType = silent_type
silent_line AttributeValue = silent_either AttributeValue spn_line passed_attribute silent_spn silent_attribute
silent_line k = silent_other k (keyword_group k)

-- ---- what stays says nothing

none_there : (o : Option LeavingReason) (b : Bool) → not (is_some (or_else o (if b then Some SheetSays else None))) ≡ true
    → b ≡ false
none_there None true h = absurd cc
none_there None false h = refl
none_there (Some r) b h = absurd cc

stays_silent : (s : Sheet) (p : Passage) → stays s p ≡ true → says p.keyword (words_of p.line) ≡ false
stays_silent s p h =
    none_there (first_absent s (cites p.keyword (words_of p.line))) (says p.keyword (words_of p.line)) h

module _ (source : List ℕ) (s : Sheet) where
  abbrev Stays : Part → Type 0
  Stays part = CanPass part.is.content → stays s (passage_of source part) ≡ true
      → sheet_passed s part.is.content ≡ true

  part_stays : (part : Part) (rest : List Token) → statement (part.run ++ rest) part.is rest → Stays part
  part_stays part rest h can stay =
      let r = statement_run part.run part.is rest h can in
      let quiet = stays_silent s (passage_of source part) stay in
      let words : words_of (line_of source part.run) ≡ map token_word (others_of part.is.keyword r.after) =
      ap (λ (l : List Token). words_of (line_of source l)) r.run_is ∙ words_are source r.first _ in
      let content : part.is.content ≡ PassedOver =
      silent_line part.is.keyword r.after part.is.content rest r.reads can
      (ap (says part.is.keyword) (sym words) ∙ quiet) in
      ap (sheet_passed s) content

  parts_stay : (ts : List Token) (parts : List Part) → AreParts ts parts → AllByRecursion Stays parts
  parts_stay ts [] are = tt
  parts_stay ts (part ∷ parts) (rest, same, is, others) = (part_stays part rest is, parts_stay rest parts others)

  -- ---- the entries that stay

  abbrev stay : Entry → Bool
  stay e = stays s e.passage

  module _ (ss : List Statement) where
    abbrev gone : Part → Bool
    gone p = is_passed ss p.is.content

    abbrev staying : List Part → List Entry
    staying parts = filter stay (map (entry_of source) (filter gone parts))

    stay_by : (part : Part) (parts : List Part) (b : Bool) → stays s (passage_of source part) ≡ b
        → CanPass part.is.content
        → Stands (entry_of source part) → Stays part → AreEntries s (staying parts)
        → AreEntries s (filter stay (entry_of source part ∷ map (entry_of source) (filter gone parts)))
    stay_by part parts true e can stands stays_so more =
        rw e (record { stand = (stands, more.stand); passed = (stays_so can e, more.passed) })
    stay_by part parts false e can stands stays_so more = rw e more

    gone_by : (part : Part) (parts : List Part) (b : Bool) → gone part ≡ b
        → (CanPass part.is.content → Stands (entry_of source part)) → Stays part → AreEntries s (staying parts)
        → AreEntries s (staying (part ∷ parts))
    gone_by part parts true e stands stays_so more =
        let can = passed_can ss part.is.content e in
        rw e (stay_by part parts (stays s (passage_of source part)) refl can (stands can) stays_so more)
    gone_by part parts false e stands stays_so more = rw e more

    are_entries : (parts : List Part)
        → AllByRecursion (λ part. CanPass part.is.content → Stands (entry_of source part)) parts
        → AllByRecursion Stays parts → AreEntries s (staying parts)
    are_entries [] h k = record { stand = tt; passed = tt }
    are_entries (part ∷ parts) h k = gone_by part parts (gone part) refl h.0 k.0 (are_entries parts h.1 k.1)

  chosen_by : (e : Entry) (es : List Entry) (b : Bool) → stay e ≡ b
      → passages (filter stay es) ≡ filter (stays s) (passages es)
      → passages (filter stay (e ∷ es)) ≡ filter (stays s) (passages (e ∷ es))
  chosen_by e es true q more = rw q (ap (λ (l : List Passage). e.passage ∷ l) more)
  chosen_by e es false q more = rw q more

  chosen : (es : List Entry) → passages (filter stay es) ≡ filter (stays s) (passages es)
  chosen [] = refl
  chosen (e ∷ es) = chosen_by e es (stay e) refl (chosen es)

pub statements_stay : StatementsStay
statements_stay source o ps s k is =
    let ss = statements_of k.parts in
    let gone_parts = filter (λ (p : Part). is_passed ss p.is.content) k.parts in
    let es = map (entry_of source) gone_parts in
    let are = are_entries source s ss k.parts (parts_stand source k.tokens k.parts k.has_tokens k.are_parts)
    (parts_stay source s k.tokens k.parts k.are_parts) in
    let same : passages (filter (stay source s) es) ≡ filter (stays s) ps =
    chosen source s es ∙ ap (filter (stays s)) (passages_are source gone_parts ∙ sym k.passages) in
    subst (λ (qs : List Passage). Keeps (kept_text s qs) s (completed s qs)) same
    (keeps_again s is (filter (stay source s) es) are)

pub keeps_read : KeptIsRead
keeps_read source s ps k =
    let ss = statements_of k.parts in (
      passed_by ss,
      record {
        tokens = k.tokens;
        statements = ss;
        has_tokens = k.has_tokens;
        divides = (divisions_are_parts k.tokens ss).1 (k.parts, k.are_parts, refl);
        says = k.says;
        passes = refl;
      },
    )
