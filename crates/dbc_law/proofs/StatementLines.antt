-- Lines, and the contents of the statements that their tokens form.
use Rattle.dbc_law.proofs.Common.{◌≡◌, ◌++◌, ◌∙◌, Bool, true, false, List, [], ◌∷◌, if◌then◌else◌, refl, sym, ap, All}
use Rattle.dbc_law.proofs.Common.{flat_map, option_map, All-head, All-tail, keyword_text, Keyword, Line, Piece, tight}
use Rattle.dbc_law.proofs.Common.{word, Rule, many, Content, Statement, Token}
use Rattle.dbc_grammar.specs.Grammar as grammar
use Rattle.dbc_grammar.proofs.ExactStatements.{keyword_back}
use Rattle.dbc_law.proofs.PieceTokens.{Front, line, lines, many_append, many_parts, token_of}
use Rattle.dbc_law.proofs.StatementRules.{chain, finish}

-- the tokens begin with a statement of this content
pub record Means (ts : List Token) (c : Content) (rest : List Token) : Type 0 where
  pub is : Statement
  pub there : grammar.statement ts is rest
  pub content : is.content ≡ c

abbrev pub means : Rule Content
means = λ ts c rest. Means ts c rest

-- If the tokens of these lines come before the end or a keyword other than `SG_`, they form statements of these
-- contents, and begin with such a keyword.
pub record Writes (ls : List Line) (cs : List Content) : Type 0 where
  pub written : (ts rest : List Token) → lines ts ls rest → grammar.next rest ≡ true → many means ts cs rest
      × (grammar.next ts ≡ true)

-- ---- lines after others

pub writes_none : Writes [] []
writes_none = record { written = λ ts rest same next. (same, ap grammar.next (sym same) ∙ next) }

infixl 10 ◌also◌
pub ◌also◌ : {ls ms : List Line} {cs ds : List Content} → Writes ls cs → Writes ms ds → Writes (ls ++ ms) (cs ++ ds)
◌also◌ {ls} {ms} {cs} {ds} first second = record {
  written = λ ts rest are_lines next.
      let (middle, front, after) = many_parts line ts ls ms rest are_lines in
      let (others, begins) = second.written middle rest after next in
      let (here, start) = first.written ts middle front begins in
      (many_append means ts cs ds middle rest here others, start);
}

module _ {A : Type 0} (P : A → Type 0) (ls : A → List Line) (cs : A → List Content)
    (each : (x : A) → P x → Writes (ls x) (cs x)) where
  pub writes_each : (xs : List A) → All P xs → Writes (flat_map ls xs) (flat_map cs xs)
  writes_each [] h = writes_none
  writes_each (x ∷ xs) h = each x (All-head P x xs h) also writes_each xs (All-tail P x xs h)

-- a line that is left out where the test holds, with its statement
pub writes_unless : (test : Bool) (l : Line) (c : Content) → Writes (l ∷ []) (c ∷ [])
    → Writes (if test then [] else (l ∷ [])) (if test then [] else (c ∷ []))
writes_unless true l c h = writes_none
writes_unless false l c h = h

-- ---- one statement

abbrev pub keyword_piece : Keyword → Piece
keyword_piece k = word tight (keyword_text k)

-- if the tokens of its keyword and of its line come there
pub statement_is_read : (k : Keyword) (c : Content) (ts middle rest : List Token) → Front ts (keyword_piece k) middle
    → grammar.line k middle c rest → Means ts c rest
unfolding grammar.statement
statement_is_read k c ts middle rest f after = record {
  is = record { start = f.start; keyword = k; content = c };
  there = chain (f.start, k) middle
      (record {
        first = token_of (keyword_piece k) f.start f.end;
        front = f.front;
        value =
            ap (option_map (λ (j : Keyword). (f.start, j))) (keyword_back k);
      })
      (chain c rest after (finish refl));
  content = refl;
}

-- the keyword is not `SG_`; the offset of its token makes no difference
abbrev pub BeginsNext : Keyword → Type 0
BeginsNext k = grammar.begins_next (token_of (keyword_piece k) 0 0) ≡ true

pub begins_next : (k : Keyword) (ts middle : List Token) → BeginsNext k → Front ts (keyword_piece k) middle
    → grammar.next ts ≡ true
begins_next k ts middle e f = ap grammar.next f.front ∙ e

-- one line that is one statement
pub writes_line : (k : Keyword) (ps : List Piece) (c : Content) → BeginsNext k
    → ((ts rest : List Token) → line ts ps rest → grammar.next rest ≡ true → grammar.line k ts c rest)
    → Writes ((keyword_piece k ∷ ps) ∷ []) (c ∷ [])
writes_line k ps c begins reads = record {
  written = λ ts rest (end, (middle, word, after), same) next.
      let there = reads middle end after (ap grammar.next (sym same) ∙ next) in
      ((end, statement_is_read k c ts middle end word there, same), begins_next k ts middle begins word);
}
