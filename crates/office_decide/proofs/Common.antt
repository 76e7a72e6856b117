-- What several proofs use of other crates, passed on from one place.
pub use Rattle.std.proofs.Common.{◌≡◌, ◌∙◌, ◌+◌, ℕ, List, [], ◌∷◌, ◌++◌, length, drop, Option, Some, None, refl, sym}
pub use Rattle.std.proofs.Common.{ap, subst, arith, true, false}
pub use Rattle.std.proofs.lemmas.Result.{IfOk-weaker}
pub use Rattle.std.specs.Option.{option_copied}
pub use Rattle.office_facts.specs.Excerpt.{AreFacts}
pub use Rattle.office_facts.specs.FactsOf.{facts_of}
pub use Rattle.office_facts.specs.Scope.{reads_book, scope_of}
pub use Rattle.office_facts.specs.declared.excerpt.Facts.{Facts}
pub use Rattle.office_rules.specs.Bundling.{bundle_outcome}
pub use Rattle.office_rules.specs.Change.{AllFit, Decides, NetAndBook, all_applied, IsDecision}
pub use Rattle.office_rules.specs.Commands.{acted, parts_done}
pub use Rattle.office_rules.specs.Importing.{Reading, Unreadable}
pub use Rattle.office_rules.specs.Outcome.{Outcome}
pub use Rattle.office_types.specs.declared.book.SpnBook.{SpnBook}
pub use Rattle.office_types.specs.declared.change.Decision.{Decision}
pub use Rattle.office_types.specs.declared.command.Action.{Action}
pub use Rattle.office_types.specs.declared.command.Command.{Command}
pub use Rattle.office_types.specs.declared.command.Task.TheVariants.{Act, Import}
pub use Rattle.office_types.specs.declared.refusal.Refusal.{Refusal}
pub use Rattle.office_types.specs.declared.reply.Reply.TheVariants.{Bundle, Refused}
pub use Rattle.office_types.specs.declared.state.Net.{Net}
