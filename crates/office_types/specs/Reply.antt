-- The lines of replies, without their ends, and replies as numbers.
use Rattle.std.specs.Prelude.{◌≤◌, ◌==◌, not, ◌&&◌, ⊤, ℕ, nat_le, All, List, [], ◌∷◌, ◌++◌, length, Option, Some, None}
use Rattle.std.specs.Prelude.{codes, decimal, if◌then◌else◌}
use Rattle.std.specs.List.{flat_map}
use Rattle.std.specs.Option.{option_map}
use Rattle.office_types.specs.Parts.{AreParts, part_limit}
use Rattle.office_types.specs.Refusal.{refusal_number, refusal_name, refusal_at, fault_of}
use Rattle.office_types.specs.declared.refusal.Refusal.{Refusal}
use Rattle.office_types.specs.declared.refusal.Refusal.TheVariants as no
use Rattle.office_types.specs.declared.reply.PartNumbers.{PartNumbers}
use Rattle.office_types.specs.declared.reply.PartReply.{PartReply}
use Rattle.office_types.specs.declared.reply.PartReply.TheVariants as part
use Rattle.office_types.specs.declared.reply.Reply.{Reply}
use Rattle.office_types.specs.declared.reply.Reply.TheVariants.{Done, Number, Start, Counts, Release, Refused, Bundle}
use Rattle.office_types.specs.declared.reply.ReplyNumbers.{ReplyNumbers}

abbrev pub refusal_text : Refusal → List ℕ
refusal_text (no.FileFault f) = codes "58 FileFault " ++ (decimal f.fault ++ (codes " " ++ decimal f.at))
refusal_text (no.BundleRefused f) = codes "62 BundleRefused " ++ (decimal f.fault ++ (codes " " ++ decimal f.at))
refusal_text r = decimal (refusal_number r) ++ (codes " " ++ refusal_name r)

-- What a part of a bundle is answered: as the command alone would be.

-- the reply of the command alone
abbrev pub whole_reply : PartReply → Reply
whole_reply part.Done = Done
whole_reply (part.Number n) = Number n
whole_reply (part.Start n) = Start n
whole_reply (part.Release n) = Release n

-- and the answer of a part whose command alone would have the reply; an action has none of the other replies
abbrev pub part_reply : Reply → PartReply
part_reply (Number n) = part.Number n
part_reply (Start n) = part.Start n
part_reply (Release n) = part.Release n
part_reply r = part.Done

abbrev pub part_text : PartReply → List ℕ
part_text part.Done = codes "done"
part_text (part.Number n) = codes "number " ++ decimal n
part_text (part.Start n) = codes "start " ++ decimal n
part_text (part.Release n) = codes "release " ++ decimal n

-- a semicolon and a space before each
abbrev pub later_text : List PartReply → List ℕ
later_text ps = flat_map (λ p. codes "; " ++ part_text p) ps

-- a space before the first
abbrev pub parts_text : List PartReply → List ℕ
parts_text [] = []
parts_text (p ∷ ps) = codes " " ++ (part_text p ++ later_text ps)

abbrev pub reply_text : Reply → List ℕ
reply_text Done = codes "done"
reply_text (Number n) = codes "number " ++ decimal n
reply_text (Start n) = codes "start " ++ decimal n
reply_text (Counts new same) = codes "counts " ++ (decimal new ++ (codes " " ++ decimal same))
reply_text (Release n) = codes "release " ++ decimal n
reply_text (Refused r) = codes "refused " ++ refusal_text r
reply_text (Bundle ps) = codes "bundle" ++ parts_text ps

-- a reply's kind, and the numbers in it
abbrev pub reply_numbers : Reply → ReplyNumbers
reply_numbers Done = record { kind = 0; a = 0; b = 0; c = 0 }
reply_numbers (Number n) = record { kind = 1; a = n; b = 0; c = 0 }
reply_numbers (Start n) = record { kind = 2; a = n; b = 0; c = 0 }
reply_numbers (Counts new same) = record { kind = 3; a = new; b = same; c = 0 }
reply_numbers (Release n) = record { kind = 4; a = n; b = 0; c = 0 }
reply_numbers (Refused r) = record { kind = 5; a = refusal_number r; b = (fault_of r).fault; c = (fault_of r).at }
reply_numbers (Bundle ps) = record { kind = 6; a = length ps; b = 0; c = 0 }

abbrev pub reply_parts : Reply → List PartReply
reply_parts (Bundle ps) = ps
reply_parts r = []

abbrev pub part_numbers : PartReply → PartNumbers
part_numbers part.Done = record { kind = 0; a = 0 }
part_numbers (part.Number n) = record { kind = 1; a = n }
part_numbers (part.Start n) = record { kind = 2; a = n }
part_numbers (part.Release n) = record { kind = 4; a = n }

-- a start has 16 bits, and a fault's number 8
abbrev pub start_at : ℕ → Option Reply
start_at n = if nat_le n 65535 then Some (Start n) else None

abbrev pub refused_at : ℕ → ℕ → ℕ → Option Reply
refused_at n fault at =
    if nat_le fault 255 then option_map Refused (refusal_at n (record { fault = fault; at = at })) else None

abbrev pub part_start_at : ℕ → Option PartReply
part_start_at n = if nat_le n 65535 then Some (part.Start n) else None

-- what a part is answered, of its numbers
abbrev pub part_at : PartNumbers → Option PartReply
part_at r =
    if r.kind == 0 then Some part.Done
    else (if r.kind == 1 then Some (part.Number r.a)
    else (if r.kind == 2 then part_start_at r.a
    else (if r.kind == 4 then Some (part.Release r.a)
    else None)))

abbrev pub bundle_at : ℕ → List PartReply → Option Reply
bundle_at count ps =
    if not (length ps == 0) && nat_le (length ps) part_limit && length ps == count then Some (Bundle ps) else None

-- the reply of these numbers, of whatever kind but a bundle
abbrev pub single_at : ReplyNumbers → Option Reply
single_at r =
    if r.kind == 0 then Some Done
    else (if r.kind == 1 then Some (Number r.a)
    else (if r.kind == 2 then start_at r.a
    else (if r.kind == 3 then Some (Counts r.a r.b)
    else (if r.kind == 4 then Some (Release r.a)
    else (if r.kind == 5 then refused_at r.a r.b r.c
    else None)))))

-- the reply of these numbers and parts
abbrev pub reply_at : ReplyNumbers → List PartReply → Option Reply
reply_at r ps =
    if r.kind == 6 then bundle_at r.a ps
    else (if not (length ps == 0) then None
    else single_at r)

-- every value of the type `PartReply` is so
abbrev pub IsPartReply : PartReply → Type 0
IsPartReply (part.Start n) = n ≤ 65535
IsPartReply p = ⊤

-- every value of the type `Reply` is so
abbrev pub IsReply : Reply → Type 0
IsReply (Start n) = n ≤ 65535
IsReply (Refused r) = (fault_of r).fault ≤ 255
IsReply (Bundle ps) = AreParts ps × All IsPartReply ps
IsReply r = ⊤
