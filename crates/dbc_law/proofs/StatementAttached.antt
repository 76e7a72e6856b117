-- The lines that attach suspect parameter numbers, texts for values and value types to signals are statements.
use Rattle.dbc_law.proofs.Common.{◌≡◌, ◌++◌, ◌==◌, ℕ, Bool, true, false, List, [], ◌∷◌, length, Some, if◌then◌else◌}
use Rattle.dbc_law.proofs.Common.{refl, inl, arith, codes, All, flat_map, length-append, spn_limit, value_type_number}
use Rattle.dbc_law.proofs.Common.{ValueType, Integer, Float, Double, IsMessage, IsSheet, IsSignal, IsValueText}
use Rattle.dbc_law.proofs.Common.{number_of, Content, SpnIs, ValueTextsAre, ValueTypeIs, Token, Message, Sheet, Signal}
use Rattle.dbc_law.proofs.Common.{ValueText}
use Rattle.dbc_words.specs.declared.keyword.Keyword.TheVariants as keyword
use Rattle.dbc_grammar.specs.Canon as canon
use Rattle.dbc_grammar.specs.Fields.{type_of}
use Rattle.dbc_grammar.specs.Grammar as grammar
use Rattle.dbc_grammar.specs.Statement.{PassedOver}
use Rattle.dbc_law.proofs.Contents as sheet_contents
use Rattle.dbc_law.proofs.PieceTokens.{line, token_of}
use Rattle.dbc_law.proofs.StatementLines.{Writes, ◌also◌, writes_each, writes_line, writes_none, writes_unless}
use Rattle.dbc_law.proofs.StatementRules.{chain, finish, past, read, split_pieces}
use Rattle.dbc_law.proofs.StatementValues.{entries_read}
use Rattle.dbc_law.proofs.StatementWords.{says_at_most, says_cited, whole_decimal}

-- lines for each signal of each message
each_writes : (ls : Message → Signal → List canon.Line) (cs : Message → Signal → List Content)
    → ((m : Message) (x : Signal) → IsMessage m → IsSignal x → Writes (ls m x) (cs m x))
    → (s : Sheet) → IsSheet s → Writes (canon.each_signal ls s) (sheet_contents.each_signal cs s)
each_writes ls cs each s h =
    writes_each IsMessage (λ m. flat_map (ls m) m.signals) (λ m. flat_map (cs m) m.signals)
    (λ m k. writes_each IsSignal (ls m) (cs m) (λ x j. each m x k j) m.signals k.signals) s.messages h.messages

-- ---- suspect parameter numbers

abbrev spn_after : Message → Signal → List canon.Piece
spn_after m s = canon.quoted canon.space (codes "SPN") ∷ canon.signal_pieces m s ++ canon.number canon.space s.spn
    ∷ canon.mark canon.tight (codes ";") ∷ []

spn_reads : (m : Message) (s : Signal) → IsMessage m → IsSignal s → (ts rest : List Token)
    → line ts (spn_after m s) rest → grammar.next rest ≡ true
    → grammar.line keyword.AttributeValue ts (SpnIs (Some (number_of m)) s.name s.spn) rest
unfolding grammar.line grammar.spn_line
spn_reads m s h k ts rest (a, attribute, (b, word, (c, number, (d, name, (e, spn, (f, mark, same)))))) next =
    inl (past attribute (λ _ _. refl)
    (past word (λ _ _. refl)
    (past number (says_cited m h)
    (past name (λ _ _. refl)
    (past spn (says_at_most spn_limit canon.space s.spn (omega arith) k.spn)
    (past mark (λ _ _. refl) (finish same)))))))

spn_writes : (m : Message) (s : Signal) → IsMessage m → IsSignal s
    → Writes (canon.spn_lines m s) (sheet_contents.spns m s)
spn_writes m s h k = writes_unless (s.spn == 0) _ _
    (writes_line keyword.AttributeValue (spn_after m s) _ refl (spn_reads m s h k))

-- ---- the definitions of their attribute, which are skipped

abbrev definition_after : List canon.Piece
definition_after =
    canon.word canon.space (codes "SG_") ∷ canon.quoted canon.space (codes "SPN") ∷ canon.word canon.space (codes "INT")
    ∷ canon.number canon.space 0
    ∷ canon.number canon.space spn_limit ∷ canon.mark canon.tight (codes ";") ∷ []

abbrev default_after : List canon.Piece
default_after = canon.quoted canon.space (codes "SPN") ∷ canon.number canon.space 0 ∷ canon.mark canon.tight (codes ";")
    ∷ []

definition_reads : (ts rest : List Token) → line ts definition_after rest → grammar.next rest ≡ true
    → grammar.line keyword.AttributeDefinition ts PassedOver rest
unfolding grammar.line grammar.passed_line grammar.skipped
definition_reads ts rest (a, word, (b, text, (c, kind, (d, least, (e, most, (f, mark, same)))))) next =
    chain (tt ∷ tt ∷ tt ∷ tt ∷ tt ∷ []) e (
      a,
      read word (λ _ _. refl),
      (
        b,
        read text (λ _ _. refl),
        (c, read kind (λ _ _. refl), (d, read least (λ _ _. refl), (e, read most (λ _ _. refl), refl))),
      ),
    )
    (past mark (λ _ _. refl) (finish same))

default_reads : (ts rest : List Token) → line ts default_after rest → grammar.next rest ≡ true
    → grammar.line keyword.AttributeDefault ts PassedOver rest
unfolding grammar.line grammar.passed_line grammar.skipped
default_reads ts rest (a, text, (b, zero, (c, mark, same))) next =
    chain (tt ∷ tt ∷ []) b (a, read text (λ _ _. refl), (b, read zero (λ _ _. refl), refl))
    (past mark (λ _ _. refl) (finish same))

definitions_write : Writes canon.spn_definitions (PassedOver ∷ PassedOver ∷ [])
definitions_write =
    writes_line keyword.AttributeDefinition definition_after PassedOver refl definition_reads
    also writes_line keyword.AttributeDefault default_after PassedOver refl default_reads

-- they come before the first of the lines, if there is one; so there must be as many lines as statements
with_spn_definitions_write : (ls : List canon.Line) (cs : List Content) → length ls ≡ length cs → Writes ls cs
    → Writes (canon.with_spn_definitions ls) (sheet_contents.with_spn_definitions cs)
with_spn_definitions_write [] [] e h = writes_none
with_spn_definitions_write [] (c ∷ cs) e h = absurd (omega (arith, e))
with_spn_definitions_write (l ∷ ls) [] e h = absurd (omega (arith, e))
with_spn_definitions_write (l ∷ ls) (c ∷ cs) e h = definitions_write also h

module _ {A B C : Type 0} (f : A → List B) (g : A → List C) (same : (x : A) → length (f x) ≡ length (g x)) where
  each_long : (xs : List A) → length (flat_map f xs) ≡ length (flat_map g xs)
  each_long [] = refl
  each_long (x ∷ xs) = omega
      (arith, same x, each_long xs, length-append (f x) (flat_map f xs), length-append (g x) (flat_map g xs))

spn_long : (m : Message) (s : Signal) → length (canon.spn_lines m s) ≡ length (sheet_contents.spns m s)
spn_long m s = by (s.spn == 0) _ _
  where
    by : (b : Bool) (l : canon.Line) (c : Content)
        → length (if b then [] else (l ∷ [])) ≡ length (if b then [] else (c ∷ []))
    by true l c = refl
    by false l c = refl

spns_long : (s : Sheet) → length (canon.each_signal canon.spn_lines s)
    ≡ length (sheet_contents.each_signal sheet_contents.spns s)
spns_long s =
    each_long (λ (m : Message). flat_map (canon.spn_lines m) m.signals)
    (λ (m : Message). flat_map (sheet_contents.spns m) m.signals)
    (λ m. each_long (canon.spn_lines m) (sheet_contents.spns m) (spn_long m) m.signals) s.messages

pub spns_write : (s : Sheet) → IsSheet s → Writes (canon.with_spn_definitions (canon.each_signal canon.spn_lines s))
    (sheet_contents.with_spn_definitions (sheet_contents.each_signal sheet_contents.spns s))
spns_write s h = with_spn_definitions_write (canon.each_signal canon.spn_lines s)
    (sheet_contents.each_signal sheet_contents.spns s) (spns_long s)
    (each_writes canon.spn_lines sheet_contents.spns spn_writes s h)

-- ---- texts for values

abbrev texts_after : Message → Signal → List ValueText → List canon.Piece
texts_after m s vs = canon.citation_pieces m s ++ canon.entries vs

texts_read : (m : Message) (s : Signal) (vs : List ValueText) → IsMessage m → All IsValueText vs
    → (ts rest : List Token) → line ts (texts_after m s vs) rest
    → grammar.next rest ≡ true → grammar.line keyword.ValueTexts ts (ValueTextsAre (Some (number_of m)) s.name vs) rest
unfolding grammar.line grammar.value_texts_line
texts_read m s vs h k ts rest (a, number, (b, name, after)) next =
    split_pieces (flat_map canon.entry vs) (canon.mark canon.space (codes ";") ∷ []) b rest after
    (λ c entries (d, mark, same).
    inl (past number (says_cited m h)
    (past name (λ _ _. refl)
    (chain vs c (entries_read vs b c k entries)
    (past mark (λ _ _. refl) (finish same))))))

texts_write : (m : Message) (s : Signal) (vs : List ValueText) → IsMessage m → All IsValueText vs
    → Writes (canon.value_lines m (record s { values = vs })) (sheet_contents.texts (number_of m) s.name vs)
texts_write m s [] h k = writes_none
texts_write m s (v ∷ vs) h k =
    writes_line keyword.ValueTexts (texts_after m s (v ∷ vs)) _ refl (texts_read m s (v ∷ vs) h k)

pub value_texts_write : (s : Sheet) → IsSheet s
    → Writes (canon.each_signal canon.value_lines s) (sheet_contents.each_signal sheet_contents.value_texts s)
value_texts_write s h = each_writes canon.value_lines sheet_contents.value_texts
    (λ m x k j. texts_write m x x.values k j.values) s h

-- ---- value types

says_type : (t : ValueType) (start end : ℕ)
    → type_of (token_of (canon.number canon.space (value_type_number t)) start end) ≡ Some t
says_type Integer start end = rw (whole_decimal 0 (omega arith)) refl
says_type Float start end = rw (whole_decimal 1 (omega arith)) refl
says_type Double start end = rw (whole_decimal 2 (omega arith)) refl

abbrev type_after : Message → Signal → List canon.Piece
type_after m s = canon.citation_pieces m s ++ canon.mark canon.space (codes ":") ∷ canon.number canon.space
    (value_type_number s.value_type) ∷ canon.mark canon.tight (codes ";") ∷ []

type_reads : (m : Message) (s : Signal) → IsMessage m → (ts rest : List Token) → line ts (type_after m s) rest
    → grammar.next rest ≡ true
    → grammar.line keyword.SignalValueType ts (ValueTypeIs (Some (number_of m)) s.name s.value_type) rest
unfolding grammar.line grammar.value_type_line
type_reads m s h ts rest (a, number, (b, name, (c, colon, (d, value_type, (e, mark, same))))) next =
    past number (says_cited m h)
    (past name (λ _ _. refl)
    (chain (Some tt) c (read colon (λ _ _. refl))
    (past value_type (says_type s.value_type)
    (past mark (λ _ _. refl) (finish same)))))

type_writes : (m : Message) (s : Signal) → IsMessage m → Writes (canon.type_lines m s) (sheet_contents.value_types m s)
type_writes m s h = writes_unless (value_type_number s.value_type == 0) _ _
    (writes_line keyword.SignalValueType (type_after m s) _ refl (type_reads m s h))

pub value_types_write : (s : Sheet) → IsSheet s
    → Writes (canon.each_signal canon.type_lines s) (sheet_contents.each_signal sheet_contents.value_types s)
value_types_write s h = each_writes canon.type_lines sheet_contents.value_types (λ m x k _. type_writes m x k) s h
