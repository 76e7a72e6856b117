-- The skipped statements that stay in the text of another sheet, as the code sees them.
use Rattle.std.specs.Prelude.{◌≡◌, ◌++◌, ℕ, Bool, List, map, filter, Option, IsPermutation}
use Rattle.std.specs.List.{filter_map}
use Rattle.std.specs.Option.{option_map}
use Rattle.dbc_keep.specs.Finding.{found_in}
use Rattle.dbc_keep.specs.declared.staying.LeftOut.{LeftOut}
use Rattle.dbc_keep_law.specs.Kept.{completed, declarations, kept_text}
use Rattle.dbc_keep_law.specs.Law.{Keeps}
use Rattle.dbc_keep_law.specs.Passages.{Passage}
use Rattle.dbc_keep_law.specs.Staying.{Word, reason, stays}
use Rattle.dbc_grammar.specs.Token.{Token}
use Rattle.dbc_lex.specs.declared.token.Token.{Token as TextToken}
use Rattle.dbc_read.specs.declared.passed.Passed.{Passed}
use Rattle.dbc_sheet.specs.declared.sheet.Sheet.{Sheet}

abbrev pub token_word : Token → Word
token_word t = record { kind = t.kind; text = t.text }

-- a token of the lexer as a word
abbrev pub seen : TextToken → Word
seen t = record { kind = t.kind; text = t.text.now }

abbrev pub all_seen : List TextToken → List Word
all_seen tokens = map seen tokens

abbrev pub stays_in : Sheet → List ℕ → Passed → Bool
stays_in s source one = stays s (found_in source one)

abbrev pub staying : Sheet → List ℕ → List Passed → List Passed
staying s source passed = filter (stays_in s source) passed

abbrev pub left_out_of : Sheet → List ℕ → Passed → Option LeftOut
left_out_of s source one = option_map (λ r. record { statement = one; reason = r }) (reason s (found_in source one))

-- those that don't stay, each with why
abbrev pub left_out : Sheet → List ℕ → List Passed → List LeftOut
left_out s source passed = filter_map (left_out_of s source) passed

-- The source has these skipped statements. The text is the canonical lines of the sheet with those of them that stay,
-- each once, place after place, with the declarations that the canonical lines add; and these are what is skipped of
-- it.
pub record KeepsStaying (source text : List ℕ) (o s : Sheet) : Type 0 where
  pub passages : List Passage
  pub of_source : Keeps source o passages
  pub text_is : text ≡ kept_text s (filter (stays s) passages)
  pub of_text : Keeps text s (completed s (filter (stays s) passages))
  pub once : IsPermutation (filter (stays s) passages ++ declarations s (filter (stays s) passages))
      (completed s (filter (stays s) passages))
