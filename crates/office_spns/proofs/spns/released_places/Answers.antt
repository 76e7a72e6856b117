use Rattle.std.proofs.Common.{◌≡◌, ◌+◌, ◌∙◌, List, ◌∷◌, ap, cond, drop, sym, get_or, Bor}
use Rattle.std.proofs.lemmas.List.{at_drop_more}
use Rattle.dbc_sheet.specs.declared.sheet.Sheet.{Sheet}
use Rattle.office_spns.specs.Spns.{SpnPlace, has_spn, places}
use Rattle.office_spns.proofs.LastPlaces.{places_else, places_in_next}
use Rattle.office_spns.proofs.spns.released_places.Goals as goal
use Rattle.office_spns.proofs.spns.released_places.Goals.{then-has, else-has}

pub loop-release-preserved : goal.loop-release-preserved
loop-release-preserved c =
    let n = c.args.number in
    let sheets : List Sheet = c.releases-release-items.result.now in
    let s : Sheet = c.release-item.result in
    let i = c.loop-release.release-index in
    let now : c.if-has.found.now ≡ cond (has_spn n s) (places n s) c.loop-release.found.now =
    elim c.if-has.branch [
      | then-has w ↦ ap (λ (r : Bor (List SpnPlace)). r.now) w.found-is ∙ w.places-found.ensures
          ∙ sym (ap (λ b. cond b (places n s) c.loop-release.found.now) (sym c.has.ensures ∙ w.if-has.true))
      | else-has w ↦ ap (λ (r : Bor (List SpnPlace)). r.now) w.found-is
          ∙ sym (ap (λ b. cond b (places n s) c.loop-release.found.now) (sym c.has.ensures ∙ w.if-has.false))
    ] in
    let next : places_else n (drop i sheets) c.loop-release.found.now
    ≡ places_else n (get_or sheets i s ∷ drop (i + 1) sheets) c.loop-release.found.now =
    at_drop_more (λ v. places_else n v c.loop-release.found.now) sheets i s c.loop-release-test.true in
    c.loop-release.invariant ∙ next
    ∙ ap (λ v. places_else n (v ∷ drop (i + 1) sheets) c.loop-release.found.now) (sym c.release-item.is)
    ∙ places_in_next n s (drop (i + 1) sheets) c.loop-release.found.now
    ∙ ap (places_else n (drop (i + 1) sheets)) (sym now)
