-- What several proofs use of other crates, passed on from one place.
pub use Rattle.std.proofs.Common.{◌≡◌, ◌≤◌, ℕ, List, [], ◌∷◌, ◌++◌, length, drop, min, Option, Some, None, refl, sym}
pub use Rattle.std.proofs.Common.{ap, subst, ◌∙◌, arith, append_assoc, ◌<◌, Bool, true, inl, false, Ok, Err}
pub use Rattle.std.proofs.lemmas.List.{length-append, drop_at}
pub use Rattle.std.proofs.lemmas.Result.{err_from_is_err_and}
pub use Rattle.std.specs.Prelude.{codes}
pub use Rattle.dbc_grammar.proofs.Exactness.{Within}
pub use Rattle.dbc_grammar.proofs.Repeating.{Takes, goes_round, further_take, statements_take, is_over}
pub use Rattle.dbc_grammar.proofs.TokenExact.{IsRead, first_of, read_is_there, there_is_read}
pub use Rattle.dbc_grammar.specs.Fields.{goes_on, is_key}
pub use Rattle.dbc_grammar.specs.Grammar.{is_open, is_symbol}
pub use Rattle.dbc_grammar.specs.Inside.{inside_of}
pub use Rattle.dbc_grammar.specs.Lexing.{LexFault, Lexed, lexed}
pub use Rattle.dbc_grammar.specs.Parsing.{Parsed, many_at, with_front, further_at, statement_at, is_more, entry_at}
pub use Rattle.dbc_grammar.specs.Parsing.{signal_at}
pub use Rattle.dbc_grammar.specs.Rules.{starts}
pub use Rattle.dbc_grammar.specs.Statement.{Statement}
pub use Rattle.dbc_grammar.specs.Token.{Token}
pub use Rattle.dbc_grammar.specs.TokenLaw.{tokens_without_fault}
pub use Rattle.dbc_grammar.specs.declared.token.TokenKind.{TokenKind}
pub use Rattle.dbc_grammar.specs.declared.token.TokenKind.TheVariants.{Name, Text, Mark}
pub use Rattle.dbc_lex.specs.Token.{token_of}
pub use Rattle.dbc_words.specs.declared.keyword.Keyword.TheVariants.{Signal}
