use Rattle.page_numbers.proofs.Common.{◌++◌, [], ◌∙◌, refl, sym, ap, append-nil, codes, flat_map-append, piece_html}
use Rattle.page_numbers.proofs.Common.{words}
use Rattle.page_numbers.specs.CellHtml.{IsLater}
use Rattle.page_numbers.specs.Index.{message_at}
use Rattle.page_numbers.proofs.Closing.{joined}
use Rattle.page_numbers.proofs.Pieces.{pieces_mapped}
use Rattle.page_numbers.proofs.cells.add_later.Goals as goal

pub loop-place-init : goal.loop-place-init
loop-place-init c = ([], (refl, sym (append-nil (words c.args.title.now.items))))

pub loop-place-preserved : goal.loop-place-preserved
loop-place-preserved c =
    let before = c.loop-place.invariant in
    let one = c.in_ok-add_named.ensures in
    let piece = codes ", " ++ one.0 in (
      before.0 ++ piece,
      (
        pieces_mapped IsLater message_at c.args.places.now c.loop-place.place-index c.place-item.result before.0 piece
            c.loop-place-test.true c.place-item.is before.1.0 (one.0, (one.1.0, refl)),
        one.1.1
            ∙ ap (λ v. v ++ one.0)
            (ap words c.in_ok-push.ensures.items ∙ flat_map-append piece_html c.loop-place.title.items _
            ∙ ap (λ v. v ++ codes ", ") before.1.1)
            ∙ joined (words c.args.title.now.items) before.0 (codes ", ") one.0,
      ),
    )
