-- What several proofs use of other crates, passed on from one place.
pub use Rattle.std.proofs.Common.{◌≡◌, ◌⊎◌, inl, inr, Err, Ok, Result, sym, subst, arith, ℕ, List, [], ◌∷◌, refl, ap}
pub use Rattle.std.proofs.Common.{◌∙◌, ◌+◌, false, Option, Some, None, true, length, ◌++◌, not, rules, take}
pub use Rattle.std.proofs.lemmas.Bool.{false≢true, cases_Bool}
pub use Rattle.std.proofs.lemmas.List.Elements.{All-contains, All-push, All-nil}
pub use Rattle.std.proofs.lemmas.List.Sorted.{IsPermutation-refl}
pub use Rattle.std.proofs.lemmas.Result.{on_ok_weaker, IfOk-weaker}
pub use Rattle.std.specs.Option.{option_map}
pub use Rattle.std.specs.Prelude.{OnErr, IfSome, All, IfErr, IfOk, IsErr, IsTrue, ◌≢◌, OnOk}
pub use Rattle.office_facts.specs.Scope.{reads_part}
pub use Rattle.office_history.proofs.Histories.{histories_grow}
pub use Rattle.office_history.specs.Answering.{reported, answered}
pub use Rattle.office_history.specs.History.{Answered, first_of}
pub use Rattle.office_history.specs.Laws.{HistoriesLeaveOffices, IsInRange}
pub use Rattle.office_history.specs.declared.arrival.Answer.{Answer}
pub use Rattle.office_history.specs.declared.arrival.Arrival.{Arrival}
pub use Rattle.office_law.proofs.Lists.{Contains-found}
pub use Rattle.office_rules.specs.Change.{IsDecision, HaveOwnBlocks, IsHeadFirst, all_applied}
pub use Rattle.office_rules.specs.Kept.{IsNet}
pub use Rattle.office_rules.specs.Outcome.{Refusing}
pub use Rattle.office_rules.specs.Profile.{Profile, Two}
pub use Rattle.office_rules.specs.Step.{net_named, opening}
pub use Rattle.office_types.specs.Reply.{reply_parts}
pub use Rattle.office_types.specs.declared.book.SpnBook.{SpnBook}
pub use Rattle.office_types.specs.declared.change.Change.{Change}
pub use Rattle.office_types.specs.declared.change.Decision.{Decision}
pub use Rattle.office_types.specs.declared.command.Command.{Command}
pub use Rattle.office_types.specs.declared.look.Look.{Look}
pub use Rattle.office_types.specs.declared.state.Net.{Net}
pub use Rattle.office_types.specs.declared.state.Office.{Office}
pub use Rattle.sqlite.proofs.Callers.{survives_begin}
pub use Rattle.sqlite.proofs.StateLemmas.{survives_then}
pub use Rattle.sqlite.specs.Effect.{Database}
pub use Rattle.sqlite.specs.Held.{state, Held}
pub use Rattle.sqlite.specs.Order.{Row}
pub use Rattle.sqlite.specs.Schema.{Schema}
pub use Rattle.sqlite.specs.State.{HasCleanDisk, State, Survives, KeepsCommit, IsUnchanged}
pub use Rattle.sqlite.specs.Tree.{Trees}
pub use Rattle.sqlite.specs.declared.error.Error.{Error}
pub use Rattle.sqlite_catalog.specs.Listing.{IsSound}
pub use Rattle.sqlite_trees.specs.declared.store.Store.{Ghosts}
pub use Rattle.store_changes.specs.Kept.{kept_row, part_rows}
pub use Rattle.store_changes.specs.Writing.{IsNext, next_number}
pub use Rattle.store_migrate.specs.FormSchema.{schema_of}
pub use Rattle.store_migrate.specs.declared.forms.SchemaForm.{SchemaForm}
pub use Rattle.store_migrate.specs.declared.forms.SchemaForm.TheVariants.{Bodies, Analyzed, Foreign, Rows}
pub use Rattle.store_migrate.specs.declared.profile_rows.ProfileRows.TheVariants.{Newer, Second}
pub use Rattle.store_rows.proofs.Changes.{same_net}
pub use Rattle.store_rows.proofs.Frames.{nothing_left}
pub use Rattle.store_rows.specs.Follows.{Follows}
pub use Rattle.store_rows.specs.NetIn.{IsNetAt}
pub use Rattle.store_rows.specs.Rows.{IsBookIn}
pub use Rattle.store_tables.proofs.Keeping.{unchanged_keeps}
pub use Rattle.store_tables.specs.Schema.{no_schema, IsCurrentSchema, IsOfficeSchema, schema_13}
pub use Rattle.store_tables.specs.Statements.{statistics_of, IsOfficeWith, statistics_in}
pub use Rattle.store_tables.specs.Tables.{AreOffice, Tables, tables_of, no_rows, IsOffice}
