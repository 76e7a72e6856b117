-- The tokens that are read of a text are spelled as their kinds are.
use Rattle.dbc_statements.proofs.Common.{◌≡◌, ℕ, true, List, [], ◌∷◌, Option, sym, ap, subst, ◌∙◌, inside_of, LexFault}
use Rattle.dbc_statements.proofs.Common.{lexed, Token, TokenKind, Name, Text, Mark, IsRead, first_of, read_is_there}
use Rattle.std.proofs.lemmas.Bool.{false≢true}
use Rattle.dbc_words.specs.Text.{IsText}
use Rattle.dbc_grammar.specs.Fields.{same_kind}
use Rattle.dbc_grammar.specs.Spelling.{Spells}
use Rattle.dbc_grammar.specs.declared.token.TokenKind.TheVariants.{Number}
use Rattle.dbc_grammar.proofs.TokenTexts.{inside_kept}
use Rattle.dbc_statements.specs.Tokens.{AreSpelled}

are_spelled : (offset : ℕ) (bytes : List ℕ) (tokens : List Token) (o : Option LexFault) → IsRead offset bytes tokens o
    → AreSpelled tokens
are_spelled offset bytes [] o h = tt
are_spelled offset bytes (t ∷ ts) o h =
    let (rest, first, more) = first_of offset bytes t ts o h in
    (first.spelled, are_spelled t.end rest ts o more)

pub read_are_spelled : (offset : ℕ) (bytes : List ℕ) → AreSpelled (lexed offset bytes).tokens
read_are_spelled offset bytes = are_spelled offset bytes (lexed offset bytes).tokens (lexed offset bytes).fault
    (read_is_there offset bytes)

-- what is inside a text token
pub inside_is_text : (kind : TokenKind) (word : List ℕ) → Spells kind word → same_kind Text kind ≡ true
    → IsText (inside_of word)
inside_is_text Name word spells e = absurd (false≢true e)
inside_is_text Number word spells e = absurd (false≢true e)
inside_is_text Text word (inside, text, is) e = subst IsText (sym (ap inside_of is ∙ inside_kept inside)) text
inside_is_text Mark word spells e = absurd (false≢true e)
