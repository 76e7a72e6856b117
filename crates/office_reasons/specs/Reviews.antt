-- What is reported of reviews.
use Rattle.std.specs.Prelude.{ℕ, List, ◌++◌, codes, decimal}
use Rattle.office_types.specs.declared.state.Net.{Net}
use Rattle.office_reasons.specs.Pieces.{shown}

abbrev pub review_text : Net → List ℕ → List ℕ
review_text net submitter = shown net.name ++ (codes " is in review, which team "
    ++ (shown submitter ++ codes " requested; release or reject ends it"))

abbrev pub draft_text : Net → List ℕ
draft_text net = shown net.name ++ codes " is in draft: submit it first"

abbrev pub own_review_text : Net → List ℕ → List ℕ
own_review_text net team = codes "team " ++ (shown team ++ (codes " requested the review of "
    ++ (shown net.name ++ codes " itself, so another team has to decide")))

abbrev pub unapproved_text : Net → List ℕ
unapproved_text net = codes "no team has approved of " ++ (shown net.name
    ++ (codes ", which has reviews=" ++ decimal net.head.reviews))
