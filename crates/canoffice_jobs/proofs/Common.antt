-- What several proofs use of other crates, passed on from one place.
pub use Rattle.std.proofs.Common.{◌≡◌, ◌∙◌, ◌+◌, ◌<◌, ◌||◌, ℕ, false, List, length, take, sym, ap, ◌∷◌, map, ◌⊎◌, ◌&&◌}
pub use Rattle.std.proofs.Common.{inl, inr, Bool, [], Option, Some, None, codes, option_map, refl, subst, true}
pub use Rattle.std.proofs.Common.{true≢false, not, is_some, cond, arith, ◌++◌, drop}
pub use Rattle.std.proofs.lemmas.Slice.Eq.{bytes_eq-Decides}
pub use Rattle.std.specs.Borrow.{Bor}
pub use Rattle.std.specs.List.{list_any, list_all}
pub use Rattle.std.specs.Option.{option_map_or}
pub use Rattle.std.specs.Prelude.{fold, find, slice_get, unwrap_or}
pub use Rattle.std.specs.Str.{bytes_eq}
pub use Rattle.clap.proofs.SimpleLemmas.{is_nil}
pub use Rattle.clap.proofs.WalkLemmas.{both}
pub use Rattle.clap.specs.Faults.{fault_of, level_fault, settle_fault}
pub use Rattle.clap.specs.Kinds.{Kinds, or_else}
pub use Rattle.clap.specs.Simple.{Shape, built, label_of, subcommand_of}
pub use Rattle.clap.specs.Walk.{Rule, Text, answers_to, is_empty, rows_after, nothing_held, walk, Held, Outcome, Row}
pub use Rattle.clap.specs.Walk.{arg_by_id, done, long_met, reading_by, settled, with_values, Names}
pub use Rattle.clap.specs.Words.{App, app_of, all_of, first_value, first_of, rows_of, found_of}
pub use Rattle.clap.specs.declared.builder.value_parser.Reading.{Reading}
pub use Rattle.clap.specs.declared.error.kind.ErrorKind.TheVariants.{TooManyValues, DisplayHelp, InvalidSubcommand}
pub use Rattle.clap.specs.declared.parser.matches.ArgMatches.{ArgMatches}
