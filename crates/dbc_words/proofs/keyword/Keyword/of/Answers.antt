use Rattle.dbc_words.proofs.Common.{◌≡◌, ◌∙◌, false, sym}
use Rattle.dbc_words.specs.Keyword.{ends_keyword}
use Rattle.dbc_words.proofs.KeywordEndings.{no_keyword}
use Rattle.dbc_words.proofs.keyword.Keyword.of.Goals as goal

pub returns-then-not-ends_keyword : goal.returns-then-not-ends_keyword
returns-then-not-ends_keyword c =
    let fails : ends_keyword c.args.word.now ≡ false = sym c.ends_keyword.ensures ∙ c.if-not-ends_keyword.true in
    sym (no_keyword c.args.word.now fails)
