-- Statuses (RFC 9110, section 15) and texts of problems.
use Rattle.std.specs.Prelude.{ℕ, List, codes}
use Rattle.desk_types.specs.declared.problem.Problem.{Problem}
use Rattle.desk_types.specs.declared.problem.Problem.TheVariants.{BadRequest, NotFound, WrongMethod, NoLength, TooLarge}
use Rattle.desk_types.specs.declared.problem.Problem.TheVariants.{TryAgain}

abbrev pub problem_status : Problem → ℕ
problem_status BadRequest = 400
problem_status NotFound = 404
problem_status WrongMethod = 405
problem_status NoLength = 411
problem_status TooLarge = 413
problem_status TryAgain = 503

abbrev pub problem_text : Problem → List ℕ
problem_text BadRequest = codes "bad request"
problem_text NotFound = codes "not found"
problem_text WrongMethod = codes "method"
problem_text NoLength = codes "length required"
problem_text TooLarge = codes "too large"
problem_text TryAgain = codes "try again"
