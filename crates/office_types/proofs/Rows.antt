-- Worked examples, computed from the definitions.
use Rattle.std.proofs.Common.{◌≡◌, ℕ, [], ◌∷◌, map, Some, None, true, false, codes, refl}
use Rattle.std.specs.Fmt.{digits}
use Rattle.office_types.specs.Free.{least_free}
use Rattle.office_types.specs.PlainName.{is_office, is_plain_name}
use Rattle.office_types.specs.Refusal.{all_refusals}
use Rattle.office_types.specs.Reply.{reply_text}
use Rattle.office_types.specs.declared.block.Block.{Block}
use Rattle.office_types.specs.declared.free.NumberForm.TheVariants.{Std, Ext, Pdu1, Pdu2, Spn}
use Rattle.office_types.specs.declared.refusal.Refusal.TheVariants as no
use Rattle.office_types.specs.declared.reply.PartReply.TheVariants as part
use Rattle.office_types.specs.declared.reply.Reply.TheVariants.{Done, Number, Start, Counts, Release, Refused, Bundle}

replies : map reply_text (Done ∷ Number 256 ∷ Number 0 ∷ Start 16 ∷ Counts 3 0 ∷ Release 1 ∷ [])
    ≡ codes "done" ∷ codes "number 256" ∷ codes "number 0" ∷ codes "start 16" ∷ codes "counts 3 0" ∷ codes "release 1"
    ∷ []
unfolding digits
replies = refl

refusals : map (λ r. reply_text (Refused r)) (all_refusals (record { fault = 30; at = 565 }))
    ≡ codes "refused 22 OutsidePayload"
    ∷ codes "refused 23 Clash"
    ∷ codes "refused 24 NoMultiplexor"
    ∷ codes "refused 25 TwoMultiplexors"
    ∷ codes "refused 26 TooMany"
    ∷ codes "refused 40 NoNet"
    ∷ codes "refused 41 NetThere"
    ∷ codes "refused 42 NotOffice"
    ∷ codes "refused 43 NoNode"
    ∷ codes "refused 44 NoMessage"
    ∷ codes "refused 45 NoSignal"
    ∷ codes "refused 46 BlockTaken"
    ∷ codes "refused 47 NoBlock"
    ∷ codes "refused 48 BlockFull"
    ∷ codes "refused 49 OutsideBlock"
    ∷ codes "refused 50 NameTaken"
    ∷ codes "refused 51 IdentTaken"
    ∷ codes "refused 52 Held"
    ∷ codes "refused 53 NotOwner"
    ∷ codes "refused 54 InReview"
    ∷ codes "refused 55 NotInReview"
    ∷ codes "refused 56 OwnReview"
    ∷ codes "refused 57 NeedsMore"
    ∷ codes "refused 58 FileFault 30 565"
    ∷ codes "refused 59 NoSpn"
    ∷ codes "refused 60 NoRoom"
    ∷ codes "refused 61 NotJ1939"
    ∷ codes "refused 62 BundleRefused 30 565"
    ∷ []
unfolding digits
refusals = refl

bundles : map reply_text
    (Bundle (part.Number 256 ∷ part.Start 0 ∷ []) ∷ Bundle (part.Done ∷ [])
    ∷ Refused (no.BundleRefused (record { fault = 50; at = 3 })) ∷ [])
    ≡ codes "bundle number 256; start 0" ∷ codes "bundle done" ∷ codes "refused 62 BundleRefused 50 3" ∷ []
unfolding digits
bundles = refl

names : map is_plain_name
    (codes "engine" ∷ codes "-" ∷ codes "a-0" ∷ codes "zzzzzzzzzzzzzzzzzzzzzzzzzzzzzzzz"
    ∷ codes "zzzzzzzzzzzzzzzzzzzzzzzzzzzzzzzzz" ∷ [] ∷ codes "Engine" ∷ codes "a b" ∷ [])
    ≡ true ∷ true ∷ true ∷ true ∷ false ∷ false ∷ false ∷ false ∷ []
names = refl

the_office : map is_office (codes "office" ∷ codes "engine" ∷ [])
    ≡ true ∷ false ∷ []
the_office = refl

abbrev to : ℕ → ℕ → Block
to first last = record { first = first; last = last }

in_one_block : map (λ taken. least_free taken (to 256 258 ∷ []) Std)
    ([] ∷ (256 ∷ 258 ∷ []) ∷ (256 ∷ 257 ∷ 258 ∷ []) ∷ [])
    ≡ Some 256 ∷ Some 257 ∷ None ∷ []
in_one_block = refl

in_several_blocks : map (λ taken. least_free taken (to 256 258 ∷ to 11 300 ∷ to 10 12 ∷ []) Std)
    ((10 ∷ []) ∷ (10 ∷ 11 ∷ 12 ∷ 13 ∷ []) ∷ [])
    ≡ Some 11 ∷ Some 14 ∷ []
in_several_blocks = refl

in_no_block : map (λ blocks. least_free [] blocks Ext) ([] ∷ (to 5 4 ∷ []) ∷ (to 4294967290 4294967295 ∷ []) ∷ [])
    ≡ None ∷ None ∷ None ∷ []
in_no_block = refl

by_form : least_free [] (to 2047 3000 ∷ []) Std ∷ least_free (2047 ∷ []) (to 2047 2049 ∷ []) Std
    ∷ least_free (2047 ∷ []) (to 2047 3000 ∷ []) Ext ∷ []
    ≡ Some 2047 ∷ None ∷ Some 2048 ∷ []
by_form = refl

in_all_numbers : least_free (0 ∷ 1 ∷ 3 ∷ []) (to 0 536870911 ∷ []) Ext ≡ Some 2
in_all_numbers = refl

-- SAE J1939-21: the groups of PDU format 239 have a destination, those of 240 have none
in_groups : map (least_free [] (to 61184 61440 ∷ [])) (Pdu1 ∷ Pdu2 ∷ []) ≡ Some 61184 ∷ Some 61440 ∷ []
in_groups = refl

taken_groups : map (λ taken. least_free taken (to 61444 61445 ∷ []) Pdu2) ((61444 ∷ []) ∷ (61444 ∷ 61445 ∷ []) ∷ [])
    ≡ Some 61445 ∷ None ∷ []
taken_groups = refl

no_groups : map (least_free [] (to 131072 131073 ∷ to 61185 61439 ∷ [])) (Pdu1 ∷ Pdu2 ∷ []) ≡ None ∷ None ∷ []
no_groups = refl

in_spns : map (λ taken. least_free taken (to 0 2 ∷ to 524287 524288 ∷ []) Spn)
    ([] ∷ (1 ∷ 2 ∷ []) ∷ (1 ∷ 2 ∷ 524287 ∷ []) ∷ []) ≡ Some 1 ∷ Some 524287 ∷ None ∷ []
in_spns = refl
