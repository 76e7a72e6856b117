use Rattle.store_looks.proofs.Common.{subst, ◌∙◌}
use Rattle.store_looks.specs.Seen.{IsSeen}
use Rattle.store_looks.proofs.Remembering.{still_true}
use Rattle.store_looks.proofs.Seeing.{look_text, whole_seen}
use Rattle.store_looks.proofs.shown.net_look_at.Goals as goal

pub returns-clause-found : goal.returns-clause-found
returns-clause-found g c clean office net at book in_book =
    c.in_ok-shown.ensures.text
    ∙ look_text c.args.form c.args.look.now net book c.in_ok-seen.seen
    (subst (λ reads. IsSeen reads net book c.in_ok-seen.seen) c.reads_of-reads.ensures
    (c.in_ok-seen.ensures.found clean office net at book in_book))

pub returns-clause-known : goal.returns-clause-known
returns-clause-known g c clean office =
    still_true c.args.name.now c.is_whole.result c.in_ok-seen.seen c.args.known.now c.view_at.new.known
    c.shown.new.known _
    (λ whole net at book in_book. whole_seen net book c.in_ok-seen.seen
    (subst (λ reads. IsSeen reads net book c.in_ok-seen.seen) (c.is_whole.ensures whole)
    (c.in_ok-seen.ensures.found clean office net at book in_book)))
    c.in_ok-seen.ensures.known c.in_ok-shown.ensures.known
