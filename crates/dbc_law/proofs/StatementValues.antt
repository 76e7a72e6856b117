-- Decimals, and values with their texts, read from the tokens of their pieces.
use Rattle.dbc_law.proofs.Common.{◌≡◌, ◌++◌, ℕ, Bool, true, false, List, [], ◌∷◌, Some, None, refl, is_negative, All}
use Rattle.dbc_law.proofs.Common.{flat_map, All-head, All-tail, IsDecimal, Number, IsValueText, many, Token, ValueText}
use Rattle.dbc_grammar.specs.Canon as canon
use Rattle.dbc_grammar.specs.Fields.{decimal, entry, pair}
use Rattle.dbc_law.proofs.DecimalPieces.{signed_pieces}
use Rattle.dbc_law.proofs.PieceTokens.{line}
use Rattle.dbc_law.proofs.StatementRules.{chain, finish, past, read, split_pieces}
use Rattle.dbc_law.proofs.StatementWords.{says_mark, says_number, says_text}

signed_reads : (negative : Bool) (gap : List ℕ) (n : Number) (ts rest : List Token) → IsDecimal n
    → is_negative n.mantissa ≡ negative
    → line ts (signed_pieces negative gap n) rest → decimal ts n rest
unfolding decimal
signed_reads true gap n ts rest h e (after, sign, (last, number, same)) =
    chain (Some true) after (read sign (λ _ _. refl)) (past number (says_number canon.tight n true h e) (finish same))
signed_reads false gap n ts rest h e (last, number, same) =
    chain None ts refl (past number (says_number gap n false h e) (finish same))

pub value_reads : (gap : List ℕ) (n : Number) (ts rest : List Token) → IsDecimal n → line ts (canon.value gap n) rest
    → decimal ts n rest
value_reads gap n ts rest h is_line = signed_reads (is_negative n.mantissa) gap n ts rest h refl is_line

-- two values between marks
pub pair_reads : (left between right : ℕ) (a b : Number) (ts rest : List Token) → IsDecimal a → IsDecimal b
    → line ts (canon.pair (left ∷ []) (between ∷ []) (right ∷ []) a b) rest
    → pair (left ∷ []) (between ∷ []) (right ∷ []) ts (a, b) rest
unfolding pair
pair_reads left between right a b ts rest ha hb (first, opening, more) =
    let after_a = canon.mark canon.tight (between ∷ []) ∷ canon.value canon.tight b in
    split_pieces (canon.value canon.tight a ++ after_a) (canon.mark canon.tight (right ∷ []) ∷ []) first rest more
    (λ last both (end, closing, same).
    split_pieces (canon.value canon.tight a) after_a first last both (λ second value_a (third, separator, value_b).
    past opening (says_mark canon.space left)
    (chain a second (value_reads canon.tight a first second ha value_a)
    (past separator (says_mark canon.tight between)
    (chain b last (value_reads canon.tight b third last hb value_b)
    (past closing (says_mark canon.tight right) (finish same)))))))

-- values with their texts
entry_reads : (v : ValueText) (ts rest : List Token) → IsValueText v → line ts (canon.entry v) rest → entry ts v rest
unfolding entry
entry_reads v ts rest h is_line =
    split_pieces (canon.value canon.space v.value) (canon.quoted canon.space v.text ∷ []) ts rest is_line
    (λ middle value (end, text, same).
    chain v.value middle (value_reads canon.space v.value ts middle h.value value)
    (past text (says_text canon.space v.text) (finish same)))

pub entries_read : (vs : List ValueText) (ts rest : List Token) → All IsValueText vs
    → line ts (flat_map canon.entry vs) rest → many entry ts vs rest
entries_read [] ts rest h same = same
entries_read (v ∷ vs) ts rest h is_line =
    split_pieces (canon.entry v) (flat_map canon.entry vs) ts rest is_line (λ middle first others. (
      middle,
      entry_reads v ts middle (All-head IsValueText v vs h) first,
      entries_read vs middle rest (All-tail IsValueText v vs h) others,
    ))
