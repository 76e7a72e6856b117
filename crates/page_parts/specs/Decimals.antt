-- Decimals of a page, as HTML.
use Rattle.std.specs.Prelude.{ℕ, List}
use Rattle.decimal.specs.Number.{Number}
use Rattle.decimal.specs.Printing.{text_of}
use Rattle.markup.specs.Html.{escaped}

abbrev pub decimal_words : Number → List ℕ
decimal_words d = escaped (text_of d)
