-- What several proofs use of other crates, passed on from one place.
pub use Rattle.std.proofs.Common.{◌≡◌, ℕ, true, false, List, [], ◌∷◌, ◌++◌, filter, map, Some, None, IfSome, arith}
pub use Rattle.std.proofs.Common.{refl, zero, suc, Bool, cond, not, append-nil, find, All, Option, sym, ap, subst, ◌∙◌}
pub use Rattle.std.proofs.Common.{inl, inr, Contains}
pub use Rattle.std.proofs.lemmas.Bool.{false≢true, cases_Bool}
pub use Rattle.std.proofs.lemmas.List.{map-append}
pub use Rattle.std.proofs.lemmas.List.Elements.{All-nil, filter-append, All-cons, All-filter, All-head, All-tail}
pub use Rattle.std.proofs.lemmas.List.Elements.{All-weaker}
pub use Rattle.std.proofs.lemmas.List.Folds.{find-append}
pub use Rattle.std.proofs.lemmas.List.Kept.{AllPairs-cons}
pub use Rattle.std.proofs.lemmas.Slice.Eq.{bytes_eq-Decides}
pub use Rattle.std.specs.Option.{option_or}
pub use Rattle.std.specs.Prelude.{AllPairs, if◌then◌else◌}
pub use Rattle.std.specs.Str.{bytes_eq}
pub use Rattle.dbc_sheet.specs.declared.sheet.Sheet.{Sheet}
pub use Rattle.office_law.proofs.KeptOffice.{offices_are_kept}
pub use Rattle.office_law.proofs.OneStep.{steps_agree}
pub use Rattle.office_law.specs.Agree.{StepsAgree}
pub use Rattle.office_law.specs.Apart.{needs_book}
pub use Rattle.office_law.specs.Histories.{AreInOrder}
pub use Rattle.office_rules.specs.Commands.{outcome}
pub use Rattle.office_rules.specs.Importing.{FileReading}
pub use Rattle.office_rules.specs.Outcome.{reply_of, Outcome, Refusing, Changing}
pub use Rattle.office_rules.specs.Profile.{Profile}
pub use Rattle.office_rules.specs.Step.{IsRead, Step, file_wanted, net_named, office_after, opening, step_outcome, Run}
pub use Rattle.office_rules.specs.Step.{TeamCommand}
pub use Rattle.office_types.specs.declared.book.SpnBook.{SpnBook}
pub use Rattle.office_types.specs.declared.command.Command.{Command}
pub use Rattle.office_types.specs.declared.command.Task.{Task}
pub use Rattle.office_types.specs.declared.command.Task.TheVariants.{Import, Act, Bundle}
pub use Rattle.office_types.specs.declared.reply.Reply.{Reply}
pub use Rattle.office_types.specs.declared.reply.Reply.TheVariants.{Done, Number, Refused}
pub use Rattle.office_types.specs.declared.state.Net.{Net}
pub use Rattle.office_types.specs.declared.state.Office.{Office}
