-- Messages with their signals are statements.
use Rattle.dbc_law.proofs.Common.{◌≡◌, ◌∙◌, ℕ, true, List, [], ◌∷◌, map, Option, Some, None, IfSome, unwrap_or, refl}
use Rattle.dbc_law.proofs.Common.{sym, ap, inl, arith, All, flat_map, All-head, All-tail, IsName, no_node, goes_on}
use Rattle.dbc_law.proofs.Common.{node_of, IsMessage, IsSignal, number_of, many, Token, Message, Signal}
use Rattle.dbc_words.specs.Limits.{length_limit}
use Rattle.dbc_words.specs.declared.keyword.Keyword.TheVariants as keyword
use Rattle.dbc_grammar.specs.Canon as canon
use Rattle.dbc_grammar.specs.Fields.{message_ident, signal}
use Rattle.dbc_grammar.specs.Grammar as grammar
use Rattle.dbc_law.proofs.Contents.{message, signal_line}
use Rattle.dbc_law.proofs.MessageNumbers.{number_ident, number_small}
use Rattle.dbc_law.proofs.PieceTokens.{line, lines, token_of}
use Rattle.dbc_law.proofs.StatementEnds.{next_ends, signal_ends}
use Rattle.dbc_law.proofs.StatementLines.{Means, Writes, ◌also◌, begins_next, statement_is_read, writes_none}
use Rattle.dbc_law.proofs.StatementNodes.{EndsList}
use Rattle.dbc_law.proofs.StatementRules.{chain, finish, past}
use Rattle.dbc_law.proofs.StatementSignals.{signal_reads}
use Rattle.dbc_law.proofs.StatementWords.{says_at_most, says_made, says_node, whole_decimal}

-- ---- what the words of the message's own line say

says_message_ident : (m : Message) → IsMessage m → (start end : ℕ)
    → message_ident (token_of (canon.number canon.space (number_of m)) start end) ≡ Some m.ident
says_message_ident m h start end = rw (whole_decimal (number_of m) (number_small m h), number_ident m h) refl

says_transmitter : (t : Option (List ℕ)) → IfSome t IsName → (start end : ℕ)
    → node_of (token_of (canon.word canon.space (unwrap_or t no_node)) start end) ≡ Some t
says_transmitter None h start end = refl
says_transmitter (Some n) h start end = says_node canon.space n h start end

-- ---- the signals

signal_starts : (s : Signal) (ts middle : List Token) → line ts (canon.signal_line s) middle → EndsList ts
signal_starts s ts middle (after, word, others) = ap goes_on word.front ∙ signal_ends word.start word.end after

-- each ends where no list of receivers goes on: at the next one, or at what follows the last
signals_read : (signals : List Signal) (ts rest : List Token) → All IsSignal signals
    → lines ts (map canon.signal_line signals) rest → EndsList rest
    → many signal ts (map signal_line signals) rest × EndsList ts
signals_read [] ts rest h same end = (same, ap goes_on (sym same) ∙ end)
signals_read (s ∷ signals) ts rest h (middle, first, others) end =
    let (after, ends_here) = signals_read signals middle rest (All-tail IsSignal s signals h) others end in (
      (middle, signal_reads s ts middle (All-head IsSignal s signals h) first ends_here, after),
      signal_starts s ts middle first,
    )

-- ---- the statement

message_is_read : (m : Message) → IsMessage m → (ts middle rest : List Token) → line ts (canon.message_line m) middle
    → many signal middle (map signal_line m.signals) rest → Means ts (message m) rest
unfolding grammar.line grammar.message_line
message_is_read m h ts middle rest (a, word, (b, number, (c, name, (d, colon, (e, length, (f, transmitter, same))))))
    signals =
    statement_is_read keyword.Message (message m) ts a rest word
    (inl (past number (says_message_ident m h)
    (past name (says_made canon.space m.name h.named)
    (past colon (λ _ _. refl)
    (past length (says_at_most length_limit canon.space m.length (omega arith) h.length)
    (past transmitter (says_transmitter m.transmitter h.transmitter)
    (chain (map signal_line m.signals) rest (rw same at signals) (finish refl))))))))

message_starts : (m : Message) (ts middle : List Token) → line ts (canon.message_line m) middle → grammar.next ts ≡ true
message_starts m ts middle (after, word, others) = begins_next keyword.Message ts after refl word

message_writes : (m : Message) → IsMessage m → Writes (canon.message_lines m) (message m ∷ [])
message_writes m h = record {
  written = λ ts rest (middle, head, signals) next.
      let (there, end) = signals_read m.signals middle rest h.signals signals (next_ends rest next) in
      ((rest, message_is_read m h ts middle rest head there, refl), message_starts m ts middle head);
}

pub messages_write : (messages : List Message) → All IsMessage messages
    → Writes (flat_map canon.message_lines messages) (map message messages)
messages_write [] h = writes_none
messages_write (m ∷ messages) h = message_writes m (All-head IsMessage m messages h) also messages_write messages
    (All-tail IsMessage m messages h)
