-- What several proofs use of other crates, passed on from one place.
pub use Rattle.std.proofs.Common.{◌≡◌, ◌⊎◌, ℕ, List, Option, Result, Err, IsErrOf, inl, inr, refl, sym, subst, ◌∙◌, Ok}
pub use Rattle.std.proofs.Common.{ap, arith, [], ◌∷◌, ◌++◌, IfOk, OnErr, Bool, true, false, None, Some, append-nil}
pub use Rattle.std.proofs.Common.{Global, Vec, length}
pub use Rattle.std.proofs.lemmas.List.Elements.{All-nil, All-push}
pub use Rattle.std.specs.Io.KnownBytes.{Appends}
pub use Rattle.std.specs.Prelude.{IsTrue, IsFalse}
pub use Rattle.desk_call.specs.Call.{Requested, ArrivalSeen, arrives, fails, shows, seen}
pub use Rattle.desk_call.specs.Read.{StopsShort}
pub use Rattle.desk_reply.specs.Response.{answer_response, problem_response}
pub use Rattle.desk_types.specs.Moved.{AppendsFront}
pub use Rattle.desk_types.specs.declared.fault.DeskFault.{DeskFault}
pub use Rattle.desk_types.specs.declared.problem.Problem.TheVariants.{TryAgain}
pub use Rattle.office_history.specs.History.{Answered, IsLegal}
pub use Rattle.office_history.specs.declared.arrival.Answer.{Answer}
pub use Rattle.office_types.specs.declared.state.Office.{Office}
pub use Rattle.sqlite.specs.Held.{state}
pub use Rattle.sqlite.specs.State.{State, HasCleanDisk}
pub use Rattle.sqlite.specs.Tree.{Trees}
pub use Rattle.store.proofs.ListOfArrivals.{KeepThose}
pub use Rattle.store.proofs.Statistics.{itself_keeps, itself_leaves}
pub use Rattle.store.specs.Holding.{Holding, Keeps, Leaves}
pub use Rattle.store.specs.Looking.{IsShown}
