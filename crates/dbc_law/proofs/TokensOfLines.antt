-- Legible lines, one after the other, have the tokens that belong to their pieces.
use Rattle.dbc_law.proofs.Common.{◌≡◌, ◌+◌, ℕ, List, [], ◌∷◌, ◌++◌, length, refl, sym, ap, subst, ◌∙◌, append_assoc}
use Rattle.dbc_law.proofs.Common.{arith, AllByRecursion, flat_map, list_all, and_from, length-append, Line, Piece}
use Rattle.dbc_law.proofs.Common.{line_text, Token, HasTokens, IsGap}
use Rattle.std.proofs.lemmas.List.Folds.{list_all-append}
use Rattle.dbc_grammar.specs.Spelling.{is_gap}
use Rattle.dbc_law.proofs.PieceTokens.{line, lines, token_of}
use Rattle.dbc_law.proofs.TokenEnds.{word_longest}
use Rattle.dbc_law.proofs.TokenLegible.{AreLegible, ends_before, pieces_text}

-- ---- a gap before bytes

gap_append : (gap more : List ℕ) → IsGap gap → IsGap more → IsGap (gap ++ more)
gap_append gap more h k = list_all-append is_gap gap more ∙ and_from (list_all is_gap gap) (list_all is_gap more) h k

after_gap : (offset : ℕ) (gap bytes : List ℕ) (ts : List Token) → IsGap gap → HasTokens (offset + length gap) bytes ts
    → HasTokens offset (gap ++ bytes) ts
after_gap offset gap bytes [] h has = gap_append gap bytes h has
after_gap offset gap bytes (t ∷ ts) h (rest, first, others) = (
  rest,
  record {
    gap = gap ++ first.gap;
    parts = ap (λ v. gap ++ v) first.parts ∙ sym (append_assoc gap first.gap (t.text ++ rest));
    gap_is = gap_append gap first.gap h first.gap_is;
    start = omega (arith, first.start, length-append gap first.gap);
    end = first.end;
    spelled = first.spelled;
    longest = first.longest;
  },
  others,
)

-- ---- the tokens of a line, and of lines

-- the offset at which pieces end that begin at the given one
abbrev end_of : ℕ → List Piece → ℕ
end_of offset [] = offset
end_of offset (p ∷ ps) = end_of (offset + length p.gap + length p.text) ps

-- pieces of a line, before its end and whatever follows
pieces_have : (offset : ℕ) (ps : List Piece) (more : List ℕ) (ts : List Token) → AreLegible ps
    → HasTokens (end_of offset ps) (10 ∷ more) ts
    → (us : List Token) × HasTokens offset (pieces_text ps ++ 10 ∷ more) us × line us ps ts
pieces_have offset [] more ts legible has = (ts, has, refl)
pieces_have offset (p ∷ ps) more ts legible has =
    let start = offset + length p.gap in
    let end = offset + length p.gap + length p.text in
    let rest = pieces_text ps ++ 10 ∷ more in
    let (us, after, rest_is) = pieces_have end ps more ts legible.1 has in (
      token_of p start end ∷ us,
      (
        rest,
        record {
          gap = p.gap;
          parts = simp append_assoc;
          gap_is = legible.0.gap;
          start = refl;
          end = refl;
          spelled = legible.0.spelled;
          longest = word_longest p.kind p.text rest legible.0.spelled
              (ends_before p.kind (pieces_text ps) (10 ∷ more) legible.0.ends refl);
        },
        after,
      ),
      (us, record { start = start; end = end; front = refl }, rest_is),
    )

pub lines_have : (offset : ℕ) (ls : List Line) → AllByRecursion AreLegible ls → (ts : List Token)
    × HasTokens offset (flat_map line_text ls) ts × lines ts ls []
lines_have offset [] legible = ([], refl, refl)
lines_have offset (l ∷ ls) legible =
    let more = flat_map line_text ls in
    let (ts, has, rest_is) = lines_have (end_of offset l + 1) ls legible.1 in
    let (us, here, front) = pieces_have offset l more ts legible.0
    (after_gap (end_of offset l) (10 ∷ []) more ts refl has) in
    let parts : line_text l ++ more ≡ pieces_text l ++ 10 ∷ more = simp append_assoc in
    (us, subst (λ v. HasTokens offset v us) (sym parts) here, (ts, front, rest_is))
