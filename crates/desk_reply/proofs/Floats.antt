-- No answer has a number with a fraction.
use Rattle.std.proofs.Common.{◌≡◌, ◌||◌, ◌∙◌, false, List, [], ◌∷◌, map, refl, ap}
use Rattle.serde_json.specs.View.{items_of}
use Rattle.serde_json.specs.Written.{has_float, items_have_float}
use Rattle.office_types.specs.declared.refusal.Refusal.{Refusal}
use Rattle.office_types.specs.declared.refusal.Refusal.TheVariants as no
use Rattle.office_types.specs.declared.reply.PartReply.{PartReply}
use Rattle.office_types.specs.declared.reply.PartReply.TheVariants as part
use Rattle.office_types.specs.declared.reply.Reply.TheVariants.{Done, Number, Start, Counts, Release, Refused, Bundle}
use Rattle.office_history.specs.declared.arrival.Answer.{Answer}
use Rattle.office_history.specs.declared.arrival.Answer.TheVariants as answer
use Rattle.desk_reply.specs.Reply.{answer_data, part_data, refusal_data}

part_float : (p : PartReply) → has_float (part_data p) ≡ false
part_float part.Done = refl
part_float p = refl

parts_float : (ps : List PartReply) → items_have_float (items_of (map part_data ps)) ≡ false
parts_float [] = refl
parts_float (p ∷ ps) = ap (λ b. b || items_have_float (items_of (map part_data ps))) (part_float p) ∙ parts_float ps

refusal_float : (r : Refusal) → has_float (refusal_data r) ≡ false
refusal_float (no.FileFault f) = refl
refusal_float (no.BundleRefused f) = refl
refusal_float r = refl

pub answer_float : (a : Answer) → has_float (answer_data a) ≡ false
answer_float answer.KeyReused = refl
answer_float (answer.Reply Done) = refl
answer_float (answer.Reply (Number n)) = refl
answer_float (answer.Reply (Start n)) = refl
answer_float (answer.Reply (Counts new same)) = refl
answer_float (answer.Reply (Release n)) = refl
answer_float (answer.Reply (Refused r)) = refusal_float r
answer_float (answer.Reply (Bundle ps)) = ap (λ b. b || false) (parts_float ps)
