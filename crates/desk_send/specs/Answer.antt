-- The answer that a response of a desk has: the other way round than `desk_reply` writes it.
use Rattle.std.specs.Prelude.{◌≡◌, ◌<◌, ◌^◌, ◌==◌, not, ◌&&◌, ⊤, ℕ, nat_le, All, List, [], ◌∷◌, length, Option, Some}
use Rattle.std.specs.Prelude.{None, codes, unwrap_or, if◌then◌else◌}
use Rattle.std.specs.Option.{option_map}
use Rattle.serde_json.specs.Data.{Data, Items, no_items, item}
use Rattle.serde_json.specs.Find.{as_array, as_number, as_u64, get}
use Rattle.serde_json.specs.Written.{compact_text}
use Rattle.office_types.specs.Parts.{AreParts, part_limit}
use Rattle.office_types.specs.Refusal.{fault_of}
use Rattle.office_types.specs.Reply.{part_at, reply_at}
use Rattle.office_types.specs.declared.reply.PartNumbers.{PartNumbers}
use Rattle.office_types.specs.declared.reply.PartReply.{PartReply}
use Rattle.office_types.specs.declared.reply.PartReply.TheVariants as part
use Rattle.office_types.specs.declared.reply.Reply.{Reply}
use Rattle.office_types.specs.declared.reply.Reply.TheVariants.{Done, Number, Start, Counts, Release, Refused, Bundle}
use Rattle.office_types.specs.declared.reply.ReplyNumbers.{ReplyNumbers}
use Rattle.office_history.specs.declared.arrival.Answer.{Answer}
use Rattle.office_history.specs.declared.arrival.Answer.TheVariants as answer
use Rattle.office_fields.specs.Value.{◌>>=◌, at_most, where_true}
use Rattle.desk_reply.specs.Reply.{answer_data, answer_status}
use Rattle.desk_call.specs.Body.{json_in}

-- a desk writes the answer so: by a response of this status with this body
pub record IsWritten (code : ℕ) (text : List ℕ) (a : Answer) : Type 0 where
  pub status : code ≡ answer_status a
  pub body : text ≡ compact_text (answer_data a)

-- ---- the ranges of an answer's numbers; every value of the type `Answer` is so

abbrev pub IsPartAnswer : PartReply → Type 0
IsPartAnswer part.Done = ⊤
IsPartAnswer (part.Number n) = n < 2 ^ 32
IsPartAnswer (part.Start n) = n < 2 ^ 16
IsPartAnswer (part.Release n) = n < 2 ^ 32

abbrev pub IsReplyAnswer : Reply → Type 0
IsReplyAnswer Done = ⊤
IsReplyAnswer (Number n) = n < 2 ^ 32
IsReplyAnswer (Start n) = n < 2 ^ 16
IsReplyAnswer (Counts new same) = (new < 2 ^ 32) × (same < 2 ^ 32)
IsReplyAnswer (Release n) = n < 2 ^ 32
IsReplyAnswer (Refused r) = ((fault_of r).fault < 256) × ((fault_of r).at < 2 ^ 32)
IsReplyAnswer (Bundle ps) = AreParts ps × All IsPartAnswer ps

abbrev pub IsAnswer : Answer → Type 0
IsAnswer (answer.Reply r) = IsReplyAnswer r
IsAnswer answer.KeyReused = ⊤

-- ---- the answer that a JSON value may be of, by its members; whether it is is known by the whole text

abbrev pub or_else : {A : Type 0} → Option A → Option A → Option A
or_else None later = later
or_else (Some x) later = Some x

-- a whole number of 32 bits
abbrev pub whole_in : List ℕ → Data → Option ℕ
whole_in name d = get name d >>= as_number >>= as_u64 >>= at_most 4294967295

abbrev pub part_numbers_in : Data → Option PartNumbers
part_numbers_in d =
    or_else (option_map (λ done. record { kind = 0; a = 0 }) (get (codes "done") d))
    (or_else (option_map (λ n. record { kind = 1; a = n }) (whole_in (codes "number") d))
    (or_else (option_map (λ n. record { kind = 2; a = n }) (whole_in (codes "start") d))
    (option_map (λ n. record { kind = 4; a = n }) (whole_in (codes "release") d))))

abbrev pub part_in : Data → Option PartReply
part_in d = part_numbers_in d >>= part_at

abbrev pub parts_in : Items → Option (List PartReply)
parts_in no_items = Some []
parts_in (item d ds) = part_in d >>= λ part. option_map (λ parts. part ∷ parts) (parts_in ds)

abbrev pub counts_in : Data → Option ReplyNumbers
counts_in d = do
  new ← whole_in (codes "new") d
  same ← whole_in (codes "same") d
  Some (record { kind = 3; a = new; b = same; c = 0 })

abbrev pub refused_in : Data → Option ReplyNumbers
refused_in d = do
  number ← whole_in (codes "refused") d
  Some (record {
    kind = 5;
    a = number;
    b = unwrap_or (whole_in (codes "fault") d) 0;
    c = unwrap_or (whole_in (codes "at") d) 0;
  })

abbrev pub single_numbers_in : Data → Option ReplyNumbers
single_numbers_in d =
    option_map (λ p. record { kind = p.kind; a = p.a; b = 0; c = 0 }) (part_numbers_in d)

abbrev pub numbers_in : Data → Option ReplyNumbers
numbers_in d = or_else (counts_in d) (or_else (refused_in d) (single_numbers_in d))

abbrev pub single_in : Data → Option Reply
single_in d = numbers_in d >>= λ numbers. reply_at numbers []

abbrev pub bundle_reply : List PartReply → Option Reply
bundle_reply ps = where_true (not (length ps == 0) && nat_le (length ps) part_limit) (Some (Bundle ps))

abbrev pub reply_by : Option Items → Data → Option Reply
reply_by None d = single_in d
reply_by (Some ds) d = parts_in ds >>= bundle_reply

abbrev pub reply_in : Data → Option Reply
reply_in d = reply_by (get (codes "bundle") d >>= as_array) d

abbrev pub is_reused : Option ℕ → Option Reply → Option Answer
is_reused None found = option_map answer.Reply found
is_reused (Some n) found = if n == 70 then Some answer.KeyReused else option_map answer.Reply found

abbrev pub answer_in : Data → Option Answer
answer_in d = is_reused (whole_in (codes "refused") d) (reply_in d)

-- the answer that a body may be of
abbrev pub answer_at : List ℕ → Option Answer
answer_at body = json_in body >>= answer_in
