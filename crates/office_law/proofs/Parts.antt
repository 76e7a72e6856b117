-- What the parts of a bundle leave.
use Rattle.office_law.proofs.Common.{ℕ, List, ◌∷◌, ◌++◌, [], Option, Some, None, ◌≡◌, refl, ap, ◌∙◌, IfSome, nat_cmp}
use Rattle.office_law.proofs.Common.{Ordering, put, by_net, part_reply, SpnBook, PartReply, Reply, Net, PartsOutcome}
use Rattle.office_law.proofs.Common.{RefusedAt, AllDone, both_entries, bundle_outcome, part_then, with_part, put_all}
use Rattle.office_law.proofs.Common.{Entries, Outcome, Refusing, Changing, entered}
use Rattle.office_types.specs.declared.reply.Reply.TheVariants.{Bundle}
use Rattle.office_law.proofs.NoTestHolds.{Leaves}

-- what all parts leave is so; where one is refused nothing is left
abbrev pub LeavesAll : (List PartReply → Option Net → Entries → Type 0) → PartsOutcome → Type 0
LeavesAll P (RefusedAt number r) = Unit {0}
LeavesAll P (AllDone replies net e) = P replies net e

pub leaves_all_weaker : (P Q : List PartReply → Option Net → Entries → Type 0)
    → ((rs : List PartReply) (net : Option Net) (e : Entries) → P rs net e → Q rs net e)
    → (out : PartsOutcome) → LeavesAll P out → LeavesAll Q out
leaves_all_weaker P Q h (RefusedAt number r) p = tt
leaves_all_weaker P Q h (AllDone rs net e) p = h rs net e p

-- a part before the others
pub leaves_with : (r : Reply) (e : Entries) (P Q : List PartReply → Option Net → Entries → Type 0)
    → ((rs : List PartReply) (net : Option Net) (f : Entries) → P rs net f
    → Q (part_reply r ∷ rs) net (both_entries e f))
    → (out : PartsOutcome) → LeavesAll P out → LeavesAll Q (with_part r e out)
leaves_with r e P Q h (RefusedAt number q) p = tt
leaves_with r e P Q h (AllDone rs net f) p = h rs net f p

pub leaves_then : (P : Reply → Net → Entries → Type 0) (Q : List PartReply → Option Net → Entries → Type 0) (number : ℕ)
    (out : Outcome) (others : Net → Entries → PartsOutcome)
    → Leaves P out → ((r : Reply) (n : Net) (e : Entries) → P r n e → LeavesAll Q (with_part r e (others n e)))
    → LeavesAll Q (part_then number out others)
leaves_then P Q number (Refusing r) others p h = tt
leaves_then P Q number (Changing r n e) others p h = h r n e p

pub leaves_bundle : (P : Reply → Net → Entries → Type 0) (out : PartsOutcome)
    → LeavesAll (λ rs net e. IfSome net (λ n. P (Bundle rs) n e)) out → Leaves P (bundle_outcome out)
leaves_bundle P (RefusedAt number r) h = tt
leaves_bundle P (AllDone rs (Some n) e) h = h
leaves_bundle P (AllDone rs None e) h = tt

-- several things are put into a list as one after the other
put_both : {A : Type 0} (order : A → A → Ordering) (xs ys zs : List A)
    → put_all order (xs ++ ys) zs ≡ put_all order ys (put_all order xs zs)
put_both order [] ys zs = refl
put_both order (x ∷ xs) ys zs = put_both order xs ys (put order x zs)

pub entered_both : (book : SpnBook) (e f : Entries) → entered book (both_entries e f) ≡ entered (entered book e) f
entered_both book e f =
    ap (λ blocks. record { blocks = blocks; used = put_all nat_cmp (e.numbers ++ f.numbers) book.used })
    (put_both by_net e.blocks f.blocks book.blocks)
    ∙ ap (λ used. record { blocks = put_all by_net f.blocks (put_all by_net e.blocks book.blocks); used = used })
    (put_both nat_cmp e.numbers f.numbers book.used)
