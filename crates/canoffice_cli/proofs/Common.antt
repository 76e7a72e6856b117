-- What several proofs use of other crates, passed on from one place.
pub use Rattle.std.proofs.Common.{◌≡◌, ◌+◌, ◌∙◌, inl, inr, Bool, true, false, List, [], ◌∷◌, ◌++◌, length, ℕ, suc}
pub use Rattle.std.proofs.Common.{zero-le, Option, Some, None, Result, Ok, Err, refl, sym, ap, subst, arith, map, ◌≤◌}
pub use Rattle.std.proofs.Common.{take, codes, length-append, ◌⊎◌, append-nil, append_assoc, ◌<◌, zero, ◌-◌, drop, not}
pub use Rattle.std.proofs.Common.{rules}
pub use Rattle.std.proofs.lemmas.Bool.{false≢true}
pub use Rattle.std.proofs.lemmas.List.{length-map, take_more}
pub use Rattle.std.proofs.lemmas.Option.{none-some}
pub use Rattle.std.proofs.lemmas.Result.{on_err_weaker, IfOk-weaker}
pub use Rattle.std.proofs.lemmas.Slice.Zip.{AllZip-long}
pub use Rattle.std.specs.Borrow.{Bor}
pub use Rattle.std.specs.Io.KnownBytes.{Appends}
pub use Rattle.std.specs.List.{flat_map, AllZip, list_any}
pub use Rattle.std.specs.Option.{option_and_then, option_map}
pub use Rattle.std.specs.Prelude.{IfOk, if◌then◌else◌, ⊤, IfSome, IsTrue, OnErr, IsFalse, is_some}
pub use Rattle.std.specs.Result.{result_map_both}
pub use Rattle.std.specs.Vec.{vec_capacity, vec_len}
pub use Rattle.std.specs.declared.alloc.AllocError.{AllocError}
pub use Rattle.canoffice_jobs.specs.CommandLine.{entered, lint_entered}
pub use Rattle.dbc_advice.specs.ShownPath.{shown_path}
pub use Rattle.dbc_grammar.specs.Canon.{canonical_text}
pub use Rattle.dbc_grammar.specs.Reads.{ReadsAs}
pub use Rattle.dbc_read.proofs.ReadFaults.{read_fault}
pub use Rattle.dbc_read.specs.Passed.{start_and_keyword}
pub use Rattle.dbc_read.specs.Reading.{ReadsAsNothing}
pub use Rattle.dbc_read.specs.declared.passed.Passed.{Passed}
pub use Rattle.dbc_sheet.specs.declared.sheet.Sheet.{Sheet}
pub use Rattle.desk_send.specs.Desks.{Desks, AreStill}
pub use Rattle.desk_send.specs.Replies.{HasCome}
pub use Rattle.desk_send.specs.Request.{IsFirstUnsent}
pub use Rattle.office.specs.Keyed.{HoldsHistory}
pub use Rattle.office_history.specs.History.{Answered, IsLegalHistory}
pub use Rattle.office_history.specs.declared.arrival.Answer.{Answer}
pub use Rattle.office_history.specs.declared.arrival.Arrival.{Arrival}
pub use Rattle.office_rules.specs.Profile.{Profile}
pub use Rattle.office_script.specs.Echoes.{is_refused}
pub use Rattle.office_script.specs.Files.{Files}
pub use Rattle.office_script.specs.Lines.{lines_of, says_nothing}
pub use Rattle.office_script.specs.Requests.{request_of}
pub use Rattle.office_script.specs.Script.{AreArrivalsOf, IsScriptFault, requests_of_lines}
pub use Rattle.office_script.specs.declared.keys.Dash.{Dash}
pub use Rattle.office_script.specs.declared.requests.LineRequest.{LineRequest}
pub use Rattle.office_script.specs.declared.script.ScriptFault.{ScriptFault}
pub use Rattle.office_script.specs.declared.script.ScriptFault.TheVariants.{BadLine, Unreadable}
pub use Rattle.office_types.specs.declared.command.Action.{Action}
pub use Rattle.office_types.specs.declared.command.Command.{Command}
pub use Rattle.office_types.specs.declared.command.Task.{Task}
pub use Rattle.office_types.specs.declared.command.Task.TheVariants.{Act, Import, Bundle}
pub use Rattle.office_types.specs.declared.refusal.Refusal.{Refusal}
pub use Rattle.office_types.specs.declared.state.Office.{Office}
pub use Rattle.sqlite.specs.Effect.{Database}
pub use Rattle.sqlite.specs.Held.{Held, state}
pub use Rattle.sqlite.specs.State.{HasCleanDisk, State}
pub use Rattle.sqlite.specs.Steps.{over_memory}
pub use Rattle.sqlite_trees.specs.declared.memory.MemStore.{MemStore}
pub use Rattle.store.proofs.Same.{held_tables}
pub use Rattle.store.proofs.TablesInForm.{in_form, office_in_form, older_in_form}
pub use Rattle.store.specs.Holding.{Holding}
pub use Rattle.store.specs.Opening.{HasNone, HoldingInSomeForm, HoldingOlder}
pub use Rattle.store.specs.declared.lost.Lost.{Lost}
pub use Rattle.store.specs.declared.lost.Lost.TheVariants.{Memory, Store}
pub use Rattle.store_tables.specs.Statements.{statistics_of}
