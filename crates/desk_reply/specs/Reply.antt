-- Replies as JSON, and the statuses of their responses.
use Rattle.std.specs.Prelude.{ℕ, true, List, map, codes}
use Rattle.serde_json.specs.View.{items_of}
use Rattle.serde_json.specs.Data.{Data, Items, array, boolean, number, object, member, no_members, string, unsigned}
use Rattle.office_types.specs.Refusal.{refusal_name, refusal_number}
use Rattle.office_types.specs.declared.refusal.FileFault.{FileFault}
use Rattle.office_types.specs.declared.refusal.Refusal.{Refusal}
use Rattle.office_types.specs.declared.refusal.Refusal.TheVariants as no
use Rattle.office_types.specs.declared.reply.Reply.{Reply}
use Rattle.office_types.specs.declared.reply.Reply.TheVariants.{Done, Number, Start, Counts, Release, Refused, Bundle}
use Rattle.office_types.specs.declared.reply.PartReply.{PartReply}
use Rattle.office_types.specs.declared.reply.PartReply.TheVariants as part
use Rattle.office_history.specs.declared.arrival.Answer.{Answer}
use Rattle.office_history.specs.declared.arrival.Answer.TheVariants as answer
use Rattle.desk_types.specs.Problem.{problem_text}
use Rattle.desk_types.specs.declared.problem.Problem.{Problem}

abbrev pub whole : ℕ → Data
whole n = number (unsigned n)

-- the names of members are in ascending order
abbrev pub refused_data : List ℕ → ℕ → Data
refused_data name n = object (member (codes "name") (string name) (member (codes "refused") (whole n) no_members))

-- a refusal that shows a fault and where it is
abbrev pub fault_data : List ℕ → ℕ → FileFault → Data
fault_data name n f =
    object
    (member (codes "at") (whole f.at)
    (member (codes "fault") (whole f.fault)
    (member (codes "name") (string name)
    (member (codes "refused") (whole n) no_members))))

abbrev pub refusal_data : Refusal → Data
refusal_data (no.FileFault f) = fault_data (codes "FileFault") 58 f
refusal_data (no.BundleRefused f) = fault_data (codes "BundleRefused") 62 f
refusal_data r = refused_data (refusal_name r) (refusal_number r)

-- what a part of a bundle is answered: as the command alone would be
abbrev pub part_data : PartReply → Data
part_data part.Done = object (member (codes "done") (boolean true) no_members)
part_data (part.Number n) = object (member (codes "number") (whole n) no_members)
part_data (part.Start n) = object (member (codes "start") (whole n) no_members)
part_data (part.Release n) = object (member (codes "release") (whole n) no_members)

abbrev pub parts_data : List PartReply → Items
parts_data ps = items_of (map part_data ps)

abbrev pub reply_data : Reply → Data
reply_data Done = object (member (codes "done") (boolean true) no_members)
reply_data (Number n) = object (member (codes "number") (whole n) no_members)
reply_data (Start n) = object (member (codes "start") (whole n) no_members)
reply_data (Counts new same) =
    object (member (codes "new") (whole new) (member (codes "same") (whole same) no_members))
reply_data (Release n) = object (member (codes "release") (whole n) no_members)
reply_data (Refused r) = refusal_data r
reply_data (Bundle ps) = object (member (codes "bundle") (array (parts_data ps)) no_members)

abbrev pub answer_data : Answer → Data
answer_data (answer.Reply r) = reply_data r
answer_data answer.KeyReused = refused_data (codes "KeyReused") 70

abbrev pub problem_data : Problem → Data
problem_data p = object (member (codes "error") (string (problem_text p)) no_members)

-- ---- statuses

abbrev pub refusal_status : Refusal → ℕ
refusal_status no.NoNet = 404
refusal_status r = 409

abbrev pub reply_status : Reply → ℕ
reply_status (Refused r) = refusal_status r
reply_status r = 200

-- no such network is 404, any other refusal and a key that was used 409
abbrev pub answer_status : Answer → ℕ
answer_status (answer.Reply r) = reply_status r
answer_status answer.KeyReused = 409
