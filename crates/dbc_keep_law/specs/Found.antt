-- A skipped statement as it is found again in its source, by its offset and its first keyword.
use Rattle.std.specs.Prelude.{ℕ, List, [], ◌∷◌, length, drop, min, if◌then◌else◌}
use Rattle.dbc_grammar.specs.Grammar.{begins_next, is_open}
use Rattle.dbc_grammar.specs.Lexing.{lexed}
use Rattle.dbc_grammar.specs.Token.{Token}
use Rattle.dbc_keep_law.specs.Passages.{Passage, line_of}
use Rattle.dbc_words.specs.declared.keyword.Keyword.{Keyword}
use Rattle.dbc_words.specs.declared.keyword.Keyword.TheVariants.{Message}

-- the tokens from an offset on, or from the end on where the offset is past that
abbrev pub tokens_at : List ℕ → ℕ → List Token
tokens_at source at = (lexed (min at (length source)) (drop at source)).tokens

-- those before the first with which a statement begins
abbrev pub before_next : List Token → List Token
before_next [] = []
before_next (t ∷ ts) = if begins_next t then [] else t ∷ before_next ts

-- those up to the first `;`, and that mark
abbrev pub to_mark : List Token → List Token
to_mark [] = []
to_mark (t ∷ ts) = if is_open t then t ∷ to_mark ts else t ∷ []

-- those of a statement after its keyword: of `BO_` the ones before the next statement, and of the others up to `;`
abbrev pub others_of : Keyword → List Token → List Token
others_of Message = before_next
others_of k = to_mark

-- those of a statement
abbrev pub run_of : Keyword → List Token → List Token
run_of k [] = []
run_of k (t ∷ ts) = t ∷ others_of k ts

-- the statement with this offset and keyword
abbrev pub found : List ℕ → ℕ × Keyword → Passage
found source statement = record {
  keyword = statement.1;
  line = line_of source (run_of statement.1 (tokens_at source statement.0));
}
