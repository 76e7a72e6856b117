-- What several proofs use of other crates, passed on from one place.
pub use Rattle.std.proofs.Common.{◌≡◌, ◌≤◌, ◌++◌, ◌-◌, ℕ, true, false, List, [], ◌∷◌, Option, None, refl, sym, ap, ◌∙◌}
pub use Rattle.std.proofs.Common.{arith, drop, get_or, length, take, append_assoc, ◌==◌, ◌+◌, slice_range, ◌<◌, ◌&&◌}
pub use Rattle.std.proofs.Common.{Bool, map, subst, inl, inr}
pub use Rattle.std.proofs.Math.Seq.{take-add}
pub use Rattle.std.proofs.lemmas.Result.{err_from_is_err_and}
pub use Rattle.std.specs.List.{flat_map}
pub use Rattle.dbc_grammar.specs.Canon.{line_text}
pub use Rattle.dbc_grammar.specs.Grammar.{begins_next, is_open}
pub use Rattle.dbc_grammar.specs.Lexing.{Lexed}
pub use Rattle.dbc_grammar.specs.Reads.{Reads, ReadsAs, ReadsAsOneAtMost, ReadsOnlyAs}
pub use Rattle.dbc_grammar.specs.Rules.{starts}
pub use Rattle.dbc_grammar.specs.Token.{Token}
pub use Rattle.dbc_keep_law.specs.Found.{before_next, to_mark, others_of, run_of, tokens_at, found}
pub use Rattle.dbc_keep_law.specs.Kept.{defaults_spn, defines_spn, has_spn, place_of, kept_text}
pub use Rattle.dbc_keep_law.specs.Law.{EachOnce, Keeps, StatementsAreFound}
pub use Rattle.dbc_keep_law.specs.Passages.{line_of, pieces_from}
pub use Rattle.dbc_keep_law.specs.Staying.{Word, first_absent, node_cited, signal_cited, reason_by}
pub use Rattle.dbc_lex.specs.Token.{token_of}
pub use Rattle.dbc_read.proofs.ReadFaults.{read_fault}
pub use Rattle.dbc_read.specs.Passed.{start_and_keyword}
pub use Rattle.dbc_read.specs.declared.passed.Passed.{Passed}
pub use Rattle.dbc_sheet.specs.declared.sheet.Sheet.{Sheet}
pub use Rattle.dbc_words.specs.declared.keyword.Keyword.{Keyword}
pub use Rattle.dbc_words.specs.declared.keyword.Keyword.TheVariants.{Message}
pub use Rattle.dbc_write.proofs.Adds.{also, none}
