-- How a skipped statement is reported.
use Rattle.std.specs.Prelude.{ℕ}
use Rattle.dbc_words.specs.declared.keyword.Keyword.{Keyword}
use Rattle.dbc_read.specs.declared.passed.Passed.{Passed}

abbrev pub start_and_keyword : Passed → ℕ × Keyword
start_and_keyword p = (p.at, p.keyword)
