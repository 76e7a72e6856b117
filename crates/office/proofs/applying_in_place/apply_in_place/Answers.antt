use Rattle.office.proofs.Common.{◌∙◌, List, Some, length, ap, sym, subst, on_ok_weaker, Change, AllFit, NetAndBook}
use Rattle.office.proofs.Common.{all_applied}
use Rattle.office.proofs.CarriedThere.{by_both, one_is, one_there, two_are}
use Rattle.office.proofs.applying_in_place.apply_in_place.Goals as goal

pub apply_two-requires-clause-fit : goal.apply_two-requires-clause-fit
apply_two-requires-clause-fit c =
    let before : NetAndBook = record { net = Some c.args.net.now; book = c.args.book.now } in
    let are = two_are c.args.changes c.remove-second.new.self c.remove-first.result c.remove-second.result
    (ap (λ (cs : List Change). length cs) (sym c.as_slice.ensures) ∙ c.in-2.is) c.remove-second.ensures.item
    c.remove-second.ensures.rest c.remove-first.ensures.item in
    subst (λ (cs : List Change). AllFit c.args.name.now cs before) are c.requires.fit

pub returns-in-1-clause-ok : goal.returns-in-1-clause-ok
returns-in-1-clause-ok c =
    let net = c.args.net.now in
    let book = c.args.book.now in
    let name = c.args.name.now in
    let change = c.remove-change.result in
    let before : NetAndBook = record { net = Some net; book = book } in
    let is = one_is c.args.changes change (ap (λ (cs : List Change). length cs) (sym c.as_slice.ensures) ∙ c.in-1.is)
    c.remove-change.ensures.item in
    by_both c.apply_one.result
    (λ e f. (λ i. record { net = Some (e i); book = f i }) ∙ sym (one_there name change net book)
    ∙ ap (λ (cs : List Change). all_applied name cs before) (sym is))
    c.apply_one.ensures.net c.apply_one.ensures.book

pub returns-in-2-clause-ok : goal.returns-in-2-clause-ok
returns-in-2-clause-ok c =
    let before : NetAndBook = record { net = Some c.args.net.now; book = c.args.book.now } in
    let are = two_are c.args.changes c.remove-second.new.self c.remove-first.result c.remove-second.result
    (ap (λ (cs : List Change). length cs) (sym c.as_slice.ensures) ∙ c.in-2.is) c.remove-second.ensures.item
    c.remove-second.ensures.rest c.remove-first.ensures.item in
    on_ok_weaker c.apply_two.result
    (λ e. e ∙ ap (λ (cs : List Change). all_applied c.args.name.now cs before) (sym are))
    c.apply_two.ensures.ok
