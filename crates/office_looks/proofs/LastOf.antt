-- The last of the first sheets.
use Rattle.office_looks.proofs.Common.{◌≡◌, ◌+◌, ◌<◌, ◌++◌, ℕ, List, [], ◌∷◌, length, take, get_or, refl, sym, ap, ◌∙◌}
use Rattle.office_looks.proofs.Common.{arith, length-append, take_more, empty_sheet, Sheet, last_release}
use Rattle.std.proofs.Common.{◌-◌}
use Rattle.std.proofs.lemmas.List.{get_or_push}
use Rattle.std.proofs.lemmas.Option.{unwrap_or-slice_get}

last_pushed : (sheets : List Sheet) (s : Sheet) → last_release (sheets ++ s ∷ []) ≡ s
last_pushed sheets s =
    let all = sheets ++ s ∷ [] in
    let n : length (sheets ++ s ∷ []) - 1 ≡ length sheets = omega (arith, length-append sheets (s ∷ [])) in
    unwrap_or-slice_get all (length all - 1) empty_sheet
    ∙ ap (λ k. get_or (sheets ++ s ∷ []) k empty_sheet) n ∙ get_or_push sheets s empty_sheet (length sheets) refl

pub last_taken : (sheets : List Sheet) (i : ℕ) (s : Sheet) → i < length sheets → s ≡ get_or sheets i s
    → last_release (take (i + 1) sheets) ≡ s
last_taken sheets i s within is =
    ap last_release (take_more sheets i s within ∙ ap (λ x. take i sheets ++ x ∷ []) (sym is))
    ∙ last_pushed (take i sheets) s
