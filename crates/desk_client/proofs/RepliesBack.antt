-- The three responses of a desk come back.
use Rattle.std.proofs.Common.{refl, arith}
use Rattle.std.proofs.lemmas.List.Sums.{AllPass-from_list_all}
use Rattle.std.specs.Fmt.{digits}
use Rattle.httparse.specs.Grammar.{is_value_byte}
use Rattle.serde_json.specs.Written.{compact_text}
use Rattle.office_types.specs.declared.refusal.Refusal.{Refusal}
use Rattle.office_types.specs.declared.refusal.Refusal.TheVariants as no
use Rattle.office_types.specs.declared.reply.Reply.TheVariants.{Refused}
use Rattle.office_history.specs.declared.arrival.Answer.{Answer}
use Rattle.office_history.specs.declared.arrival.Answer.TheVariants as answer
use Rattle.desk_types.specs.Problem.{problem_status}
use Rattle.desk_types.specs.declared.problem.Problem.{Problem}
use Rattle.desk_types.specs.declared.problem.Problem.TheVariants.{BadRequest, NotFound, WrongMethod, NoLength, TooLarge}
use Rattle.desk_types.specs.declared.problem.Problem.TheVariants.{TryAgain}
use Rattle.desk_reply.specs.Reply.{answer_data, answer_status, problem_data, refusal_status}
use Rattle.desk_reply.specs.Response.{answer_response, phrase_of, problem_response, text_response}
use Rattle.desk_reply.specs.declared.responses.BodyKind.TheVariants.{Json}
use Rattle.desk_client.specs.Replies.{RepliesComeBack}
use Rattle.desk_client.proofs.ReplyTexts.{IsReplyStatus, comes_back}

ok : IsReplyStatus 200
unfolding digits
ok = record {
  three = refl;
  small = omega arith;
  code = refl;
  phrase = AllPass-from_list_all is_value_byte (phrase_of 200) refl;
}

missing : IsReplyStatus 404
unfolding digits
missing = record {
  three = refl;
  small = omega arith;
  code = refl;
  phrase = AllPass-from_list_all is_value_byte (phrase_of 404) refl;
}

conflict : IsReplyStatus 409
unfolding digits
conflict = record {
  three = refl;
  small = omega arith;
  code = refl;
  phrase = AllPass-from_list_all is_value_byte (phrase_of 409) refl;
}

problem_is : (p : Problem) → IsReplyStatus (problem_status p)
unfolding digits
problem_is BadRequest = record {
  three = refl;
  small = omega arith;
  code = refl;
  phrase = AllPass-from_list_all is_value_byte (phrase_of 400) refl;
}
problem_is NotFound = missing
problem_is WrongMethod = record {
  three = refl;
  small = omega arith;
  code = refl;
  phrase = AllPass-from_list_all is_value_byte (phrase_of 405) refl;
}
problem_is NoLength = record {
  three = refl;
  small = omega arith;
  code = refl;
  phrase = AllPass-from_list_all is_value_byte (phrase_of 411) refl;
}
problem_is TooLarge = record {
  three = refl;
  small = omega arith;
  code = refl;
  phrase = AllPass-from_list_all is_value_byte (phrase_of 413) refl;
}
problem_is TryAgain = record {
  three = refl;
  small = omega arith;
  code = refl;
  phrase = AllPass-from_list_all is_value_byte (phrase_of 503) refl;
}

refusal_is : (r : Refusal) → IsReplyStatus (refusal_status r)
refusal_is no.NoNet = missing
refusal_is r = conflict

answer_is : (a : Answer) → IsReplyStatus (answer_status a)
answer_is answer.KeyReused = conflict
answer_is (answer.Reply (Refused r)) = refusal_is r
answer_is (answer.Reply r) = ok

pub replies_come_back : RepliesComeBack
unfolding text_response problem_response answer_response
replies_come_back = record {
  texts = λ kind body. comes_back 200 kind body ok;
  problems = λ p. comes_back (problem_status p) Json (compact_text (problem_data p)) (problem_is p);
  answers = λ a. comes_back (answer_status a) Json (compact_text (answer_data a)) (answer_is a);
}
