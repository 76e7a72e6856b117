-- The answer of a response is the one that it is written for.
use Rattle.desk_send.proofs.Common.{◌≡◌, ◌<◌, ◌≤◌, ◌^◌, ◌==◌, ◌&&◌, not, ◌∙◌, ℕ, List, [], ◌∷◌, length, true, Some}
use Rattle.desk_send.proofs.Common.{IsUtf8, Option, None, subst, refl, ap, arith, nat_le, codes, nat_tests, All-head}
use Rattle.desk_send.proofs.Common.{All-tail, All, IsUtf8-are_ascii, are_ascii, Data, member, no_members, number}
use Rattle.desk_send.proofs.Common.{object, unsigned, max_depth, of_json, items_outline, outline, AreParts, part_limit}
use Rattle.desk_send.proofs.Common.{Answer, json_in}
use Rattle.json.specs.Tree as tree
use Rattle.serde_json.specs.Read.{of_items}
use Rattle.serde_json.proofs.Numbers.{number_of-decimal}
use Rattle.office_types.specs.Refusal.{fault_of, refusal_name, refusal_number}
use Rattle.office_types.specs.declared.refusal.FileFault.{FileFault}
use Rattle.office_types.specs.declared.refusal.Refusal.{Refusal}
use Rattle.office_types.specs.declared.refusal.Refusal.TheVariants as no
use Rattle.office_types.specs.declared.reply.PartReply.{PartReply}
use Rattle.office_types.specs.declared.reply.PartReply.TheVariants as part
use Rattle.office_types.specs.declared.reply.Reply.TheVariants.{Done, Number, Start, Counts, Release, Refused, Bundle}
use Rattle.office_history.specs.declared.arrival.Answer.TheVariants as answer
use Rattle.desk_reply.specs.Reply.{answer_data, fault_data, part_data, parts_data, refused_data}
use Rattle.desk_send.specs.Answer.{IsAnswer, IsPartAnswer, IsWritten, answer_at, answer_in, part_in, parts_in}
use Rattle.desk_send.proofs.JsonTexts.{ArePlain, IsPlain, text_back}

-- ---- what is written, as JSON that reads back

-- the value of which this is the text
record ReadsBack (d : Data) : Type 0 where
  plain : IsPlain d
  shallow : tree.depth (outline d) ≤ max_depth
  back : of_json (outline d) ≡ Some d

ascii : (name : List ℕ) → are_ascii name ≡ true → IsUtf8 name
ascii name h = IsUtf8-are_ascii name h

one_back : (name : List ℕ) (n : ℕ) → are_ascii name ≡ true → n < 2 ^ 32
    → ReadsBack (object (member name (number (unsigned n)) no_members))
one_back name n small h = record {
  plain = (ascii name small, omega (arith, h), tt);
  shallow = omega arith;
  back = rw (number_of-decimal n (omega (arith, h))) refl;
}

counts_back : (new same : ℕ) → new < 2 ^ 32 → same < 2 ^ 32 → ReadsBack (answer_data (answer.Reply (Counts new same)))
counts_back new same h k = record {
  plain = (
    ascii (codes "new") refl,
    omega (arith, h),
    (ascii (codes "same") refl, omega (arith, k), tt),
  );
  shallow = omega arith;
  back = rw (number_of-decimal new (omega (arith, h)), number_of-decimal same (omega (arith, k))) refl;
}

done_back : ReadsBack (answer_data (answer.Reply Done))
done_back = record { plain = (ascii (codes "done") refl, tt, tt); shallow = omega arith; back = refl }

refused_back : (name : List ℕ) (n : ℕ) → are_ascii name ≡ true → n < 256 → ReadsBack (refused_data name n)
refused_back name n small h = record {
  plain = (
    ascii (codes "name") refl,
    ascii name small,
    (ascii (codes "refused") refl, omega (arith, h), tt),
  );
  shallow = omega arith;
  back = rw (number_of-decimal n (omega (arith, h))) refl;
}

fault_back : (name : List ℕ) (n : ℕ) (f : FileFault) → are_ascii name ≡ true → n < 256 → f.fault < 256
    → f.at < 2 ^ 32 → ReadsBack (fault_data name n f)
fault_back name n f small h k m = record {
  plain = (
    ascii (codes "at") refl,
    omega (arith, m),
    (
      ascii (codes "fault") refl,
      omega (arith, k),
      (
        ascii (codes "name") refl,
        ascii name small,
        (ascii (codes "refused") refl, omega (arith, h), tt),
      ),
    ),
  );
  shallow = omega arith;
  back =
      rw (
        number_of-decimal f.at (omega (arith, m)),
        number_of-decimal f.fault (omega (arith, k)),
        number_of-decimal n (omega (arith, h)),
      )
      refl;
}

refusal_back : (r : Refusal) → (fault_of r).fault < 256 → (fault_of r).at < 2 ^ 32
    → ReadsBack (answer_data (answer.Reply (Refused r)))
refusal_back (no.FileFault f) h k = fault_back (codes "FileFault") 58 f refl (omega arith) h k
refusal_back (no.BundleRefused f) h k = fault_back (codes "BundleRefused") 62 f refl (omega arith) h k
refusal_back r h k = refused_back (refusal_name r) (refusal_number r) refl (omega arith)

part_back : (p : PartReply) → IsPartAnswer p → ReadsBack (part_data p)
part_back part.Done is = done_back
part_back (part.Number n) is = one_back (codes "number") n refl is
part_back (part.Start n) is = one_back (codes "start") n refl (omega (arith, is))
part_back (part.Release n) is = one_back (codes "release") n refl is

abbrev PartsAre : List PartReply → Type 0
PartsAre ps = All IsPartAnswer ps

parts_plain : (ps : List PartReply) → PartsAre ps → ArePlain (parts_data ps)
parts_plain [] is = tt
parts_plain (p ∷ ps) is = (
  (part_back p (All-head IsPartAnswer p ps is)).plain,
  parts_plain ps (All-tail IsPartAnswer p ps is),
)

part_depth : (p : PartReply) → tree.depth (outline (part_data p)) ≤ 1
part_depth part.Done = omega arith
part_depth p = omega arith

parts_depth : (ps : List PartReply) → tree.items_depth (items_outline (parts_data ps)) ≤ 1
parts_depth [] = omega arith
parts_depth (p ∷ ps) = omega (arith, part_depth p, parts_depth ps)

parts_back : (ps : List PartReply) → PartsAre ps → of_items (items_outline (parts_data ps)) ≡ Some (parts_data ps)
parts_back [] is = refl
parts_back (p ∷ ps) is =
    rw (
      (part_back p (All-head IsPartAnswer p ps is)).back,
      parts_back ps (All-tail IsPartAnswer p ps is),
    )
    refl

bundle_back : (ps : List PartReply) → PartsAre ps → ReadsBack (answer_data (answer.Reply (Bundle ps)))
bundle_back ps is = record {
  plain = (ascii (codes "bundle") refl, parts_plain ps is, tt);
  shallow = omega (arith, parts_depth ps);
  back = rw (parts_back ps is) refl;
}

answer_back : (a : Answer) → IsAnswer a → ReadsBack (answer_data a)
answer_back answer.KeyReused is = refused_back (codes "KeyReused") 70 refl (omega arith)
answer_back (answer.Reply Done) is = done_back
answer_back (answer.Reply (Number n)) is = one_back (codes "number") n refl is
answer_back (answer.Reply (Start n)) is = one_back (codes "start") n refl (omega (arith, is))
answer_back (answer.Reply (Counts new same)) is = counts_back new same is.0 is.1
answer_back (answer.Reply (Release n)) is = one_back (codes "release") n refl is
answer_back (answer.Reply (Refused r)) is = refusal_back r is.0 is.1
answer_back (answer.Reply (Bundle ps)) is = bundle_back ps is.1

-- ---- which answer it may be

whole : (n : ℕ) → n < 2 ^ 32 → nat_le n 4294967295 ≡ true
whole n h = grind (arith, nat_tests, h)

short : (n : ℕ) → n < 2 ^ 16 → nat_le n 65535 ≡ true
short n h = grind (arith, nat_tests, h)

byte : (n : ℕ) → n < 256 → nat_le n 255 ≡ true
byte n h = grind (arith, nat_tests, h)

abbrev IsFound : Answer → Type 0
IsFound a = answer_in (answer_data a) ≡ Some a

start_found : (n : ℕ) → n < 2 ^ 16 → IsFound (answer.Reply (Start n))
start_found n h = rw (whole n (omega (arith, h)), short n h) refl

fault_found : (f : FileFault) → f.fault < 256 → f.at < 2 ^ 32 → IsFound (answer.Reply (Refused (no.FileFault f)))
fault_found f h k = rw (whole f.fault (omega (arith, h)), whole f.at k, byte f.fault h) refl

bundle_fault_found : (f : FileFault) → f.fault < 256 → f.at < 2 ^ 32
    → IsFound (answer.Reply (Refused (no.BundleRefused f)))
bundle_fault_found f h k = rw (whole f.fault (omega (arith, h)), whole f.at k, byte f.fault h) refl

refusal_found : (r : Refusal) → (fault_of r).fault < 256 → (fault_of r).at < 2 ^ 32
    → IsFound (answer.Reply (Refused r))
refusal_found (no.FileFault f) h k = fault_found f h k
refusal_found (no.BundleRefused f) h k = bundle_fault_found f h k
refusal_found r h k = refl

part_found : (p : PartReply) → IsPartAnswer p → part_in (part_data p) ≡ Some p
part_found part.Done is = refl
part_found (part.Number n) is = rw (whole n is) refl
part_found (part.Start n) is = rw (whole n (omega (arith, is)), short n is) refl
part_found (part.Release n) is = rw (whole n is) refl

parts_found : (ps : List PartReply) → PartsAre ps → parts_in (parts_data ps) ≡ Some ps
parts_found [] is = refl
parts_found (p ∷ ps) is =
    rw (
      part_found p (All-head IsPartAnswer p ps is),
      parts_found ps (All-tail IsPartAnswer p ps is),
    )
    refl

some_parts : (ps : List PartReply) → AreParts ps → (not (length ps == 0) && nat_le (length ps) part_limit) ≡ true
some_parts ps are = grind (arith, nat_tests, are.some, are.few)

bundle_found : (ps : List PartReply) → AreParts ps → PartsAre ps → IsFound (answer.Reply (Bundle ps))
bundle_found ps are is = rw (parts_found ps is, some_parts ps are) refl

answer_found : (a : Answer) → IsAnswer a → IsFound a
answer_found answer.KeyReused is = refl
answer_found (answer.Reply Done) is = refl
answer_found (answer.Reply (Number n)) is = rw (whole n is) refl
answer_found (answer.Reply (Start n)) is = start_found n is
answer_found (answer.Reply (Counts new same)) is = rw (whole new is.0, whole same is.1) refl
answer_found (answer.Reply (Release n)) is = rw (whole n is) refl
answer_found (answer.Reply (Refused r)) is = refusal_found r is.0 is.1
answer_found (answer.Reply (Bundle ps)) is = bundle_found ps is.0 is.1

pub written_found : (status : ℕ) (body : List ℕ) (a : Answer) → IsAnswer a → IsWritten status body a
    → answer_at body ≡ Some a
written_found status body a is written =
    let back = answer_back a is in
    let json : json_in body ≡ Some (answer_data a) =
    ap json_in written.body ∙ text_back (answer_data a) back.plain back.shallow back.back in
    rw json (answer_found a is)

-- ---- what is found

pub is_found : (status : ℕ) (body : List ℕ) (found : Option Answer) → found ≡ answer_at body → (a : Answer)
    → IsAnswer a → IsWritten status body a → found ≡ Some a
is_found status body found e a is written = e ∙ written_found status body a is written

pub is_unlike : (status : ℕ) (body : List ℕ) (other : Answer) → Some other ≡ answer_at body
    → ¬ (IsWritten status body other) → (a : Answer) → IsAnswer a → IsWritten status body a → None ≡ Some a
is_unlike status body other e not_so a is written =
    let both : Some other ≡ Some a = is_found status body (Some other) e a is written in
    let same : a ≡ other = cc in
    absurd (not_so (subst (λ (x : Answer). IsWritten status body x) same written))
