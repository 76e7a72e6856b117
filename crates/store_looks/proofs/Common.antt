-- What several proofs use of other crates, passed on from one place.
pub use Rattle.std.proofs.Common.{◌≡◌, ◌∙◌, ℕ, ◌+◌, Bool, true, false, List, [], ◌∷◌, ◌++◌, map, filter, take, Some}
pub use Rattle.std.proofs.Common.{refl, sym, ap, subst, arith, Option, None}
pub use Rattle.std.proofs.lemmas.Result.{IfOk-weaker}
pub use Rattle.std.specs.List.{AllByRecursion, flat_map}
pub use Rattle.std.specs.Option.{option_map}
pub use Rattle.std.specs.Prelude.{IsTrue}
pub use Rattle.std.specs.Str.{bytes_eq}
pub use Rattle.dbc_sheet.specs.declared.sheet.Sheet.{Sheet}
pub use Rattle.office_history.specs.History.{Answered}
pub use Rattle.office_law.specs.Released.{with_releases}
pub use Rattle.office_looks.specs.Looks.{net_shown, shown_of}
pub use Rattle.office_looks.specs.Reads.{AreRead, net_read}
pub use Rattle.office_looks.specs.Requests.{asked, asked_of}
pub use Rattle.office_seen.specs.View.{view_of}
pub use Rattle.office_seen.specs.declared.view.View.{View}
pub use Rattle.office_types.specs.declared.book.SpnBook.{SpnBook}
pub use Rattle.office_types.specs.declared.look.LookForm.{LookForm}
pub use Rattle.office_types.specs.declared.look.NetLook.{NetLook}
pub use Rattle.office_types.specs.declared.state.Net.{Net}
pub use Rattle.sqlite.proofs.Callers.{unchanged_then}
pub use Rattle.sqlite.specs.Effect.{Database}
pub use Rattle.sqlite.specs.Held.{state}
pub use Rattle.sqlite.specs.State.{HasCleanDisk}
pub use Rattle.store_bodies.specs.ReadText.{text_bytes}
pub use Rattle.store_changes.specs.Kept.{AreKept, content_and_answer, kept_answer, AreKeptParts}
pub use Rattle.store_net.specs.NetParts.{HasLast}
pub use Rattle.store_rows.proofs.Made.{reads_any, reads_then, while_open}
pub use Rattle.store_rows.specs.NetIn.{IsNetAt}
pub use Rattle.store_rows.specs.Rows.{IsBookIn}
pub use Rattle.store_tables.specs.Tables.{Tables, IsOffice, tables_of}
