-- The kept text of a sheet has tokens, and these divide into statements: those of the canonical text, and the passed
-- ones.
use Rattle.dbc_keep_law.proofs.Common.{◌≡◌, ◌==◌, ◌&&◌, ◌++◌, ℕ, Bool, true, false, not, List, [], ◌∷◌, map, filter}
use Rattle.dbc_keep_law.proofs.Common.{Some, codes, if◌then◌else◌, refl, inl, arith, AllByRecursion, flat_map, list_any}
use Rattle.dbc_keep_law.proofs.Common.{IsMessage, IsNode, IsSheet, number_of, Sheet, Line, Piece, message_comments}
use Rattle.dbc_keep_law.proofs.Common.{message_lines, node_comment, spn_default, spn_definition, spn_lines}
use Rattle.dbc_keep_law.proofs.Common.{with_spn_definitions, Divides, many, Content, CommentIs, Dropped, NodesAre}
use Rattle.dbc_keep_law.proofs.Common.{PassedOver, SpnIs, Statement, VersionIs, Token, HasTokens, contents_of, line}
use Rattle.dbc_keep_law.proofs.Common.{value_texts_write, value_types_write, file_comment_writes}
use Rattle.dbc_keep_law.proofs.Common.{message_comments_write, node_comment_writes, heading_writes, tables_write}
use Rattle.dbc_keep_law.proofs.Common.{Writes, means, writes_each, messages_write}
use Rattle.std.proofs.Common.{◌<◌, ◌^◌}
use Rattle.dbc_sheet.specs.Form.{IsSignal}
use Rattle.dbc_words.specs.Limits.{spn_limit}
use Rattle.dbc_words.specs.Text.{IsText}
use Rattle.dbc_words.specs.declared.keyword.Keyword.TheVariants as keyword
use Rattle.dbc_sheet.specs.declared.message.Message.{Message}
use Rattle.dbc_sheet.specs.declared.signal.Signal.{Signal}
use Rattle.dbc_words.proofs.Texts.{text-Decides}
use Rattle.dbc_grammar.specs.Canon as canon
use Rattle.dbc_grammar.specs.Grammar as grammar
use Rattle.dbc_law.proofs.Contents as sheet_contents
use Rattle.dbc_law.proofs.StatementLines.{◌also◌, writes_line, writes_none, writes_unless}
use Rattle.dbc_law.proofs.StatementRules.{chain, finish, past, read}
use Rattle.dbc_law.proofs.StatementWords.{says_at_most, says_cited}
use Rattle.dbc_law.proofs.TokenAttached.{spns_legible, value_texts_legible, value_types_legible}
use Rattle.dbc_law.proofs.TokenComments.{comment_legible, message_comments_legible, node_comment_legible}
use Rattle.dbc_law.proofs.TokenHeading.{heading_legible, tables_legible}
use Rattle.dbc_law.proofs.TokenLegible.{no_pieces}
use Rattle.dbc_law.proofs.TokenLines.{AreLegibleLines, lines_of_each, no_lines}
use Rattle.dbc_law.proofs.TokenMessages.{message_lines_legible}
use Rattle.dbc_law.proofs.TokenPieces.{end_follows, keyword_follows, keyword_line, number_follows, text_follows}
use Rattle.dbc_law.proofs.TokenPieces.{word_follows}
use Rattle.dbc_keep_law.specs.Kept.{defaults_spn, defines_spn, has_spn, kept_lines, kept_text, lines_at, place_of}
use Rattle.dbc_keep_law.specs.Passages.{Passage}
use Rattle.dbc_keep_law.proofs.LegibleLines.{AreWhole, legible_lines_whole, whole_append, whole_lines_have}
use Rattle.dbc_keep_law.proofs.Standing.{Entry, Stands}

abbrev pub passages : List Entry → List Passage
passages es = map (λ (e : Entry). e.passage) es

abbrev pub contents_at : ℕ → List Entry → List Content
contents_at place es = map (λ (e : Entry). e.content) (filter (λ (e : Entry). place_of e.passage.keyword == place) es)

abbrev pub said_contents : Sheet → (Line → Bool) → List Line → List Content
said_contents s says kept = if has_spn s && not (list_any says kept) then PassedOver ∷ [] else []

abbrev pub kept_contents : Sheet → List Entry → List Content
kept_contents s es =
    VersionIs s.version ∷ Dropped ∷ Dropped ∷ NodesAre (sheet_contents.node_names s)
    ∷ map sheet_contents.table s.tables ++ map sheet_contents.message s.messages
    ++ contents_at 0 es ++ contents_at 1 es ++ contents_at 2 es ++ contents_at 3 es ++ contents_at 4 es
    ++ sheet_contents.comments CommentIs s.comment ++ flat_map sheet_contents.node_comments s.nodes
    ++ flat_map sheet_contents.message_comments s.messages ++ contents_at 5 es
    ++ contents_at 6 es ++ said_contents s defines_spn (lines_at 6 (passages es))
    ++ contents_at 7 es ++ said_contents s defaults_spn (lines_at 7 (passages es))
    ++ contents_at 8 es ++ sheet_contents.each_signal sheet_contents.spns s
    ++ sheet_contents.each_signal sheet_contents.value_texts s ++ contents_at 9 es ++ contents_at 10 es
    ++ contents_at 11 es ++ contents_at 12 es ++ contents_at 13 es ++ contents_at 14 es
    ++ sheet_contents.each_signal sheet_contents.value_types s ++ contents_at 15 es ++ contents_at 16 es

-- ---- whole lines

pub record AreWholeLines (ls : List Line) : Type 0 where
  pub each : AllByRecursion AreWhole ls

of_legible : {ls : List Line} → AreLegibleLines ls → AreWholeLines ls
of_legible {ls} h = record { each = legible_lines_whole ls h.each }

infixl 10 ◌then_also◌
◌then_also◌ : {ls ks : List Line} → AreWholeLines ls → AreWholeLines ks → AreWholeLines (ls ++ ks)
◌then_also◌ {ls} {ks} h k = record { each = whole_append ls ks h.each k.each }

whole_by : (place : ℕ) (e : Entry) (es : List Entry) (b : Bool) → (place_of e.passage.keyword == place) ≡ b
    → AreWhole e.passage.line
    → AreWholeLines (lines_at place (passages es)) → AreWholeLines (lines_at place (passages (e ∷ es)))
whole_by place e es true q h more = rw q (record { each = (h, more.each) })
whole_by place e es false q h more = rw q more

whole_at : (place : ℕ) (es : List Entry) → AllByRecursion Stands es → AreWholeLines (lines_at place (passages es))
whole_at place [] h = record { each = tt }
whole_at place (e ∷ es) h = whole_by place e es (place_of e.passage.keyword == place) refl h.0.whole
    (whole_at place es h.1)

if_whole : (b : Bool) (l : Line) → AreWholeLines (l ∷ []) → AreWholeLines (if b then l ∷ [] else [])
if_whole true l h = h
if_whole false l h = record { each = tt }

spn_text : IsText (codes "SPN")
spn_text = (text-Decides (codes "SPN")).0 refl

zero_small : 0 < 2 ^ 32
zero_small = omega arith

limit_small : spn_limit < 2 ^ 32
limit_small = omega arith

definition_legible : AreLegibleLines (spn_definition ∷ [])
definition_legible =
    let limits = number_follows 0 _ zero_small (number_follows spn_limit _ limit_small end_follows) in
    let attribute = text_follows (codes "SPN") _ spn_text (word_follows (codes "INT") _ refl limits).legible in
    record { each = (keyword_line keyword.AttributeDefinition _ (keyword_follows keyword.Signal _ attribute), tt) }

default_legible : AreLegibleLines (spn_default ∷ [])
default_legible =
    record {
      each = (
        keyword_line keyword.AttributeDefault _
            (text_follows (codes "SPN") _ spn_text (number_follows 0 _ zero_small end_follows).legible),
        tt,
      );
    }

without_definitions : (ls : List Line) → AreLegibleLines (with_spn_definitions ls) → AreLegibleLines ls
without_definitions [] h = no_lines
without_definitions (l ∷ ls) h = record { each = h.each.1.1 }

pub kept_whole : (s : Sheet) → IsSheet s → (es : List Entry) → AllByRecursion Stands es
    → AreWholeLines (kept_lines s (passages es))
kept_whole s h es k =
    of_legible (heading_legible s h)
    then_also of_legible (tables_legible s.tables h.tables)
    then_also of_legible (lines_of_each IsMessage message_lines message_lines_legible s.messages h.messages)
    then_also whole_at 0 es k
    then_also whole_at 1 es k
    then_also whole_at 2 es k
    then_also whole_at 3 es k
    then_also whole_at 4 es k
    then_also of_legible (comment_legible [] s.comment no_pieces h.comment)
    then_also of_legible (lines_of_each IsNode node_comment node_comment_legible s.nodes h.nodes)
    then_also of_legible (lines_of_each IsMessage message_comments message_comments_legible s.messages h.messages)
    then_also whole_at 5 es k
    then_also whole_at 6 es k
    then_also if_whole _ spn_definition (of_legible definition_legible)
    then_also whole_at 7 es k
    then_also if_whole _ spn_default (of_legible default_legible)
    then_also whole_at 8 es k
    then_also of_legible (without_definitions _ (spns_legible s h))
    then_also of_legible (value_texts_legible s h)
    then_also whole_at 9 es k
    then_also whole_at 10 es k
    then_also whole_at 11 es k
    then_also whole_at 12 es k
    then_also whole_at 13 es k
    then_also whole_at 14 es k
    then_also of_legible (value_types_legible s h)
    then_also whole_at 15 es k
    then_also whole_at 16 es k

-- ---- statements

writes_by : (place : ℕ) (e : Entry) (es : List Entry) (b : Bool) → (place_of e.passage.keyword == place) ≡ b
    → Writes (e.passage.line ∷ []) (e.content ∷ [])
    → Writes (lines_at place (passages es)) (contents_at place es)
    → Writes (lines_at place (passages (e ∷ es))) (contents_at place (e ∷ es))
writes_by place e es true q h more = rw q (h also more)
writes_by place e es false q h more = rw q more

writes_at : (place : ℕ) (es : List Entry) → AllByRecursion Stands es
    → Writes (lines_at place (passages es)) (contents_at place es)
writes_at place [] h = writes_none
writes_at place (e ∷ es) h = writes_by place e es (place_of e.passage.keyword == place) refl h.0.writes
    (writes_at place es h.1)

if_writes : (b : Bool) (l : Line) (c : Content) → Writes (l ∷ []) (c ∷ [])
    → Writes (if b then l ∷ [] else []) (if b then c ∷ [] else [])
if_writes true l c h = h
if_writes false l c h = writes_none

abbrev spn_after : Message → Signal → List Piece
spn_after m s = canon.quoted canon.space (codes "SPN") ∷ canon.signal_pieces m s
    ++ canon.number canon.space s.spn ∷ canon.mark canon.tight (codes ";") ∷ []

spn_reads : (m : Message) (s : Signal) → IsMessage m → IsSignal s → (ts rest : List Token)
    → line ts (spn_after m s) rest → grammar.next rest ≡ true
    → grammar.line keyword.AttributeValue ts (SpnIs (Some (number_of m)) s.name s.spn) rest
unfolding grammar.line grammar.spn_line
spn_reads m s h k ts rest (a, attribute, (b, word, (c, number, (d, name, (e, spn, (f, mark, same)))))) next =
    inl (past attribute (λ _ _. refl)
    (past word (λ _ _. refl)
    (past number (says_cited m h)
    (past name (λ _ _. refl)
    (past spn (says_at_most spn_limit canon.space s.spn (omega arith) k.spn)
    (past mark (λ _ _. refl) (finish same)))))))

spn_writes : (m : Message) (s : Signal) → IsMessage m → IsSignal s → Writes (spn_lines m s) (sheet_contents.spns m s)
spn_writes m s h k = writes_unless (s.spn == 0) _ _
    (writes_line keyword.AttributeValue (spn_after m s) _ refl (spn_reads m s h k))

pub spns_write : (s : Sheet) → IsSheet s
    → Writes (canon.each_signal spn_lines s) (sheet_contents.each_signal sheet_contents.spns s)
spns_write s h =
    writes_each IsMessage (λ m. flat_map (spn_lines m) m.signals) (λ m. flat_map (sheet_contents.spns m) m.signals)
    (λ m k. writes_each IsSignal (spn_lines m) (sheet_contents.spns m) (λ x j. spn_writes m x k j) m.signals k.signals)
    s.messages h.messages

abbrev pub definition_after : List Piece
definition_after =
    canon.word canon.space (codes "SG_") ∷ canon.quoted canon.space (codes "SPN") ∷ canon.word canon.space
    (codes "INT") ∷ canon.number canon.space 0
    ∷ canon.number canon.space spn_limit ∷ canon.mark canon.tight (codes ";") ∷ []

abbrev pub default_after : List Piece
default_after = canon.quoted canon.space (codes "SPN") ∷ canon.number canon.space 0 ∷ canon.mark canon.tight
    (codes ";") ∷ []

pub definition_reads : (ts rest : List Token) → line ts definition_after rest → grammar.next rest ≡ true
    → grammar.line keyword.AttributeDefinition ts PassedOver rest
unfolding grammar.line grammar.passed_line grammar.skipped
definition_reads ts rest (a, word, (b, text, (c, kind, (d, least, (e, most, (f, mark, same)))))) next =
    chain (tt ∷ tt ∷ tt ∷ tt ∷ tt ∷ []) e (
      a,
      read word (λ _ _. refl),
      (
        b,
        read text (λ _ _. refl),
        (c, read kind (λ _ _. refl), (d, read least (λ _ _. refl), (e, read most (λ _ _. refl), refl))),
      ),
    )
    (past mark (λ _ _. refl) (finish same))

pub default_reads : (ts rest : List Token) → line ts default_after rest → grammar.next rest ≡ true
    → grammar.line keyword.AttributeDefault ts PassedOver rest
unfolding grammar.line grammar.passed_line grammar.skipped
default_reads ts rest (a, text, (b, zero, (c, mark, same))) next =
    chain (tt ∷ tt ∷ []) b (a, read text (λ _ _. refl), (b, read zero (λ _ _. refl), refl))
    (past mark (λ _ _. refl) (finish same))

pub kept_writes : (s : Sheet) → IsSheet s → (es : List Entry) → AllByRecursion Stands es
    → Writes (kept_lines s (passages es)) (kept_contents s es)
kept_writes s h es k =
    heading_writes s h
    also tables_write s.tables h.tables
    also messages_write s.messages h.messages
    also writes_at 0 es k
    also writes_at 1 es k
    also writes_at 2 es k
    also writes_at 3 es k
    also writes_at 4 es k
    also file_comment_writes s.comment
    also writes_each IsNode node_comment sheet_contents.node_comments (λ n _. node_comment_writes n) s.nodes h.nodes
    also writes_each IsMessage message_comments sheet_contents.message_comments message_comments_write s.messages
    h.messages
    also writes_at 5 es k
    also writes_at 6 es k
    also if_writes _ spn_definition PassedOver
    (writes_line keyword.AttributeDefinition definition_after PassedOver refl definition_reads)
    also writes_at 7 es k
    also if_writes _ spn_default PassedOver
    (writes_line keyword.AttributeDefault default_after PassedOver refl default_reads)
    also writes_at 8 es k
    also spns_write s h
    also value_texts_write s h
    also writes_at 9 es k
    also writes_at 10 es k
    also writes_at 11 es k
    also writes_at 12 es k
    also writes_at 13 es k
    also writes_at 14 es k
    also value_types_write s h
    also writes_at 15 es k
    also writes_at 16 es k

are_statements : (ts : List Token) (cs : List Content) (rest : List Token) → many means ts cs rest
    → (ss : List Statement) × many grammar.statement ts ss rest × (contents_of ss ≡ cs)
are_statements ts [] rest same = ([], same, refl)
are_statements ts (c ∷ cs) rest (middle, first, others) =
    let (ss, after, contents) = are_statements middle cs rest others in
    (first.is ∷ ss, (middle, first.there, after), λ i. first.content i ∷ contents i)

-- ---- the kept text

pub record IsDivided (bytes : List ℕ) (cs : List Content) : Type 0 where
  pub tokens : List Token
  pub statements : List Statement
  pub has_tokens : HasTokens 0 bytes tokens
  pub divides : Divides tokens statements
  pub contents : contents_of statements ≡ cs

pub kept_divides : (s : Sheet) → IsSheet s → (es : List Entry) → AllByRecursion Stands es
    → IsDivided (kept_text s (passages es)) (kept_contents s es)
kept_divides s h es k =
    let (tokens, has, are_lines) = whole_lines_have 0 (kept_lines s (passages es)) (kept_whole s h es k).each in
    let (statements, divides, contents) =
    are_statements tokens (kept_contents s es) [] ((kept_writes s h es k).written tokens [] are_lines refl).0 in
    record { tokens = tokens; statements = statements; has_tokens = has; divides = divides; contents = contents }
