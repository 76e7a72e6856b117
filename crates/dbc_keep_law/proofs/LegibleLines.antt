-- Lines whose words are each the longest there have their tokens, one after the other. (The lines of a canonical text
-- are such lines, and so are the bytes of a statement.)
use Rattle.dbc_keep_law.proofs.Common.{◌≡◌, ◌+◌, ℕ, List, [], ◌∷◌, ◌++◌, length, refl, sym, ap, subst, ◌∙◌}
use Rattle.dbc_keep_law.proofs.Common.{append_assoc, arith, AllByRecursion, flat_map, list_all, and_from, length-append}
use Rattle.dbc_keep_law.proofs.Common.{list_all-append, Line, Piece, line_text, Spells, Token, HasTokens, IsLongest}
use Rattle.dbc_keep_law.proofs.Common.{line, token_of, word_longest, pieces_text}
use Rattle.dbc_grammar.specs.Spelling.{is_gap}
use Rattle.dbc_grammar.specs.Tokens.{IsGap}
use Rattle.dbc_law.proofs.PieceTokens.{lines}
use Rattle.dbc_law.proofs.TokenLegible.{AreLegible, ends_before}

-- a piece, and those after it in its line
pub record IsWhole (p : Piece) (after : List Piece) : Type 0 where
  pub gap : IsGap p.gap
  pub spelled : Spells p.kind p.text
  pub longest : (more : List ℕ) → IsLongest (length p.text) (p.text ++ (pieces_text after ++ 10 ∷ more))

abbrev pub AreWhole : List Piece → Type 0
AreWhole [] = Unit {0}
AreWhole (p ∷ ps) = IsWhole p ps × AreWhole ps

pub record AreWholeLines (ls : List Line) : Type 0 where
  pub each : AllByRecursion AreWhole ls

-- ---- lines of a canonical text

pub legible_whole : (ps : List Piece) → AreLegible ps → AreWhole ps
legible_whole [] h = tt
legible_whole (p ∷ ps) h = (
  record {
    gap = h.0.gap;
    spelled = h.0.spelled;
    longest = λ more. word_longest p.kind p.text (pieces_text ps ++ 10 ∷ more) h.0.spelled
        (ends_before p.kind (pieces_text ps) (10 ∷ more) h.0.ends refl);
  },
  legible_whole ps h.1,
)

pub legible_lines_whole : (ls : List Line) → AllByRecursion AreLegible ls → AllByRecursion AreWhole ls
legible_lines_whole [] h = tt
legible_lines_whole (l ∷ ls) h = (legible_whole l h.0, legible_lines_whole ls h.1)

pub whole_append : (ls ks : List Line) → AllByRecursion AreWhole ls → AllByRecursion AreWhole ks
    → AllByRecursion AreWhole (ls ++ ks)
whole_append [] ks h k = k
whole_append (l ∷ ls) ks h k = (h.0, whole_append ls ks h.1 k)

-- ---- their tokens

gap_append : (gap more : List ℕ) → IsGap gap → IsGap more → IsGap (gap ++ more)
gap_append gap more h k = list_all-append is_gap gap more ∙ and_from (list_all is_gap gap) (list_all is_gap more) h k

pub after_gap : (offset : ℕ) (gap bytes : List ℕ) (ts : List Token) → IsGap gap
    → HasTokens (offset + length gap) bytes ts → HasTokens offset (gap ++ bytes) ts
after_gap offset gap bytes [] h has = gap_append gap bytes h has
after_gap offset gap bytes (t ∷ ts) h (rest, first, others) = (
  rest,
  record {
    gap = gap ++ first.gap;
    parts = ap (λ v. gap ++ v) first.parts ∙ sym (append_assoc gap first.gap (t.text ++ rest));
    gap_is = gap_append gap first.gap h first.gap_is;
    start = omega (arith, first.start, length-append gap first.gap);
    end = first.end;
    spelled = first.spelled;
    longest = first.longest;
  },
  others,
)

abbrev pub end_of : ℕ → List Piece → ℕ
end_of offset [] = offset
end_of offset (p ∷ ps) = end_of (offset + length p.gap + length p.text) ps

pieces_have : (offset : ℕ) (ps : List Piece) (more : List ℕ) (ts : List Token) → AreWhole ps
    → HasTokens (end_of offset ps) (10 ∷ more) ts
    → (us : List Token) × HasTokens offset (pieces_text ps ++ 10 ∷ more) us × line us ps ts
pieces_have offset [] more ts whole has = (ts, has, refl)
pieces_have offset (p ∷ ps) more ts whole has =
    let start = offset + length p.gap in
    let end = offset + length p.gap + length p.text in
    let rest = pieces_text ps ++ 10 ∷ more in
    let (us, after, rest_is) = pieces_have end ps more ts whole.1 has in (
      token_of p start end ∷ us,
      (
        rest,
        record {
          gap = p.gap;
          parts = simp append_assoc;
          gap_is = whole.0.gap;
          start = refl;
          end = refl;
          spelled = whole.0.spelled;
          longest = whole.0.longest more;
        },
        after,
      ),
      (us, record { start = start; end = end; front = refl }, rest_is),
    )

pub whole_lines_have : (offset : ℕ) (ls : List Line) → AllByRecursion AreWhole ls
    → (ts : List Token) × HasTokens offset (flat_map line_text ls) ts × lines ts ls []
whole_lines_have offset [] whole = ([], refl, refl)
whole_lines_have offset (l ∷ ls) whole =
    let more = flat_map line_text ls in
    let (ts, has, rest_is) = whole_lines_have (end_of offset l + 1) ls whole.1 in
    let (us, here, front) = pieces_have offset l more ts whole.0
    (after_gap (end_of offset l) (10 ∷ []) more ts refl has) in
    let parts : line_text l ++ more ≡ pieces_text l ++ 10 ∷ more = simp append_assoc in
    (us, subst (λ v. HasTokens offset v us) (sym parts) here, (ts, front, rest_is))
