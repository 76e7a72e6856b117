-- Signals, read from the tokens of their pieces.
use Rattle.dbc_law.proofs.Common.{◌≡◌, ◌^◌, ◌<◌, ◌≤◌, ◌&&◌, ◌++◌, ℕ, Bool, true, false, nat_le, List, ◌∷◌, Option, Some}
use Rattle.dbc_law.proofs.Common.{None, unwrap_or, if◌then◌else◌, refl, sym, arith, codes, decimal, nat_tests, Order}
use Rattle.dbc_law.proofs.Common.{Intel, Motorola, order_number, Mux, Always, Multiplexor, Under, IsMux, IsSignal}
use Rattle.dbc_law.proofs.Common.{token, Token, Signal}
use Rattle.dbc_words.specs.Limits.{size_limit, start_limit}
use Rattle.dbc_grammar.specs.Canon as canon
use Rattle.dbc_grammar.specs.Fields.{layout, mux_of, order_of, sign_of, signal, size_of}
use Rattle.dbc_sheet.specs.Form.{IsLayout}
use Rattle.dbc_grammar.specs.Rules.{optional}
use Rattle.dbc_law.proofs.Contents.{signal_line}
use Rattle.dbc_law.proofs.PieceTokens.{line, token_of}
use Rattle.dbc_law.proofs.StatementNodes.{EndsList, receivers_read}
use Rattle.dbc_law.proofs.StatementRules.{chain, finish, past, read, split_pieces}
use Rattle.dbc_law.proofs.StatementValues.{pair_reads}
use Rattle.dbc_law.proofs.StatementWords.{says_at_most, says_made, says_text, says_where, whole_decimal}

-- ---- the layout

says_size : (n : ℕ) → 1 ≤ n → n ≤ size_limit → (start end : ℕ)
    → size_of (token_of (canon.number canon.tight n) start end) ≡ Some n
says_size n least most =
    let within : (nat_le 1 n && nat_le n size_limit) ≡ true = grind (arith, nat_tests) in
    says_where (λ m. nat_le 1 m && nat_le m size_limit) canon.tight n (omega (arith, most)) within

says_order : (o : Order) (start end : ℕ) → order_of (token_of (canon.number canon.tight (order_number o)) start end)
    ≡ Some o
says_order Intel start end = rw (whole_decimal 1 (omega arith)) refl
says_order Motorola start end = rw (whole_decimal 0 (omega arith)) refl

says_sign : (signed : Bool) (start end : ℕ)
    → sign_of (token_of (canon.mark canon.tight (if signed then codes "-" else codes "+")) start end) ≡ Some signed
says_sign true start end = refl
says_sign false start end = refl

layout_reads : (s : Signal) (ts rest : List Token) → IsLayout s.layout → line ts (canon.layout_pieces s) rest
    → layout ts (s.layout, s.signed) rest
unfolding layout
layout_reads s ts rest h (a, start, (b, bar, (c, size, (d, at_mark, (e, order, (f, sign, same)))))) =
    past start (says_at_most start_limit canon.space s.layout.start (omega arith) h.start)
    (past bar (λ _ _. refl)
    (past size (says_size s.layout.size h.least h.most)
    (past at_mark (λ _ _. refl)
    (past order (says_order s.layout.order)
    (past sign (says_sign s.signed) (finish same))))))

-- ---- the multiplexer indicator

-- a signal that is always there has none
abbrev indicator : Mux → Option Mux
indicator Always = None
indicator Multiplexor = Some Multiplexor
indicator (Under n) = Some (Under n)

indicator_kept : (m : Mux) → unwrap_or (indicator m) Always ≡ m
indicator_kept Always = refl
indicator_kept it = refl

says_under : (n : ℕ) → n < 2 ^ 32 → (start end : ℕ)
    → mux_of (token_of (canon.word canon.space (109 ∷ decimal n)) start end) ≡ Some (Under n)
says_under n h start end = rw (whole_decimal n h) refl

mux_reads : (m : Mux) (ts rest : List Token) → IsMux m → line ts (canon.mux_pieces m) rest
    → optional (token mux_of) ts (indicator m) rest
mux_reads Always ts rest h same = same
mux_reads Multiplexor ts rest h (after, word, same) = rw same (read word (λ _ _. refl))
mux_reads (Under n) ts rest h (after, word, same) = rw same (read word (says_under n h))

-- ---- the whole line

abbrev up_to_name : Signal → List canon.Piece
up_to_name s = canon.word canon.space (codes "SG_") ∷ canon.word canon.space s.name ∷ canon.mux_pieces s.mux

abbrev up_to_layout : Signal → List canon.Piece
up_to_layout s = up_to_name s ++ canon.mark canon.space (codes ":") ∷ canon.layout_pieces s

abbrev up_to_scale : Signal → List canon.Piece
up_to_scale s = up_to_layout s ++ canon.pair (codes "(") (codes ",") (codes ")") s.factor s.offset

abbrev up_to_range : Signal → List canon.Piece
up_to_range s = up_to_scale s ++ canon.pair (codes "[") (codes "|") (codes "]") s.minimum s.maximum

same_line : (s : Signal) → signal_line s ≡ record (signal_line s) { mux = unwrap_or (indicator s.mux) Always }
same_line s = λ i. record (signal_line s) { mux = sym (indicator_kept s.mux) i }

pub signal_reads : (s : Signal) (ts rest : List Token) → IsSignal s → line ts (canon.signal_line s) rest → EndsList rest
    → signal ts (signal_line s) rest
unfolding signal
signal_reads s ts rest h is_line end =
    split_pieces (up_to_range s) (canon.quoted canon.space s.unit ∷ canon.receiver_pieces s.receivers) ts rest is_line
    (λ e ranged (f, unit, receivers).
    split_pieces (up_to_scale s) (canon.pair (codes "[") (codes "|") (codes "]") s.minimum s.maximum) ts e ranged
    (λ d scaled range.
    split_pieces (up_to_layout s) (canon.pair (codes "(") (codes ",") (codes ")") s.factor s.offset) ts d scaled
    (λ c laid_out scale.
    split_pieces (up_to_name s) (canon.mark canon.space (codes ":") ∷ canon.layout_pieces s) ts c laid_out
    (λ b (a, word, (n, name, mux)) (p, colon, bits).
    past word (λ _ _. refl)
    (past name (says_made canon.space s.name h.named)
    (chain (indicator s.mux) b (mux_reads s.mux n b h.mux mux)
    (past colon (λ _ _. refl)
    (chain (s.layout, s.signed) c (layout_reads s p c h.layout bits)
    (chain (s.factor, s.offset) d (pair_reads 40 44 41 s.factor s.offset c d h.factor h.offset scale)
    (chain (s.minimum, s.maximum) e (pair_reads 91 124 93 s.minimum s.maximum d e h.minimum h.maximum range)
    (past unit (says_text canon.space s.unit)
    (chain s.receivers rest (receivers_read s.receivers f rest h.receivers receivers end)
    (record { value = same_line s; all = refl })))))))))))))
