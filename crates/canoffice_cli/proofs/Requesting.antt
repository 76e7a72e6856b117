-- The lines of a script that request something, one for each arrival.
use Rattle.canoffice_cli.proofs.Common.{◌≡◌, ◌+◌, ◌-◌, ◌<◌, ◌++◌, ℕ, Bool, true, false, List, [], ◌∷◌, length, Option}
use Rattle.canoffice_cli.proofs.Common.{Some, None, refl, sym, subst, arith, option_and_then, option_map, none-some}
use Rattle.canoffice_cli.proofs.Common.{AllZip-long, IsFirstUnsent, Arrival, Files, says_nothing, request_of}
use Rattle.canoffice_cli.proofs.Common.{AreArrivalsOf, requests_of_lines, Dash, LineRequest}
use Rattle.std.proofs.Common.{◌==◌, if◌then◌else◌}
use Rattle.std.proofs.lemmas.Bool.Decides.{nat_tests}
use Rattle.std.proofs.lemmas.Option.{slice_get_within}
use Rattle.canoffice_cli.specs.Jobs.Sent.{requesting_line}

abbrev Requests : Type 0
Requests = List LineRequest

abbrev Numbered : Option ℕ → Type 0
Numbered found = (number : ℕ) × (found ≡ Some number)

some_same : (x y : Requests) → ◌≡◌ {A = Option Requests} (Some x) (Some y) → x ≡ y
some_same x y e = cc

not_first : (k : ℕ) → (k == 0) ≡ false → 0 < k
not_first k h = grind (arith, nat_tests, h)

-- the line, which requests nothing or one thing, and the later ones
at_line : (says : Bool) (own : Option LineRequest) (more : Option Requests) (number : ℕ) (next : ℕ → Option ℕ)
    (k : ℕ) (requests : Requests)
    → ((j : ℕ) (rest : Requests) → more ≡ Some rest → j < length rest → Numbered (next j))
    → option_and_then (λ (here : Requests). option_map (λ (rest : Requests). here ++ rest) more)
    (if says then Some [] else option_map (λ r. r ∷ []) own) ≡ Some requests
    → k < length requests
    → Numbered (if says then next k else (if k == 0 then Some number else next (k - 1)))
at_line true own None number next k requests later e within = absurd (none-some requests e)
at_line true own (Some rest) number next k requests later e within =
    let same : rest ≡ requests = some_same rest requests e in
    later k rest refl (subst (λ (l : Requests). k < length l) (sym same) within)
at_line false None more number next k requests later e within = absurd (none-some requests e)
at_line false (Some r) None number next k requests later e within = absurd (none-some requests e)
at_line false (Some r) (Some rest) number next k requests later e within =
    let same : r ∷ rest ≡ requests = some_same (r ∷ rest) requests e in
    at_index (k == 0) refl (subst (λ (l : Requests). k < length l) (sym same) within)
  where
    at_index : (last : Bool) → (k == 0) ≡ last → k < length (r ∷ rest)
        → Numbered (if last then Some number else next (k - 1))
    at_index true is fits = (number, refl)
    at_index false is fits = let some = not_first k is in later (k - 1) rest refl (omega (arith, fits, some))

there : (dash : Dash) (lines : List (List ℕ)) (number k : ℕ) (requests : Requests)
    → requests_of_lines dash number lines ≡ Some requests → k < length requests
    → Numbered (requesting_line number k lines)
there dash [] number k requests e within =
    let same : [] ≡ requests = some_same [] requests e in
    let none : k < length {A = LineRequest} [] = subst (λ (l : Requests). k < length l) (sym same) within in
    absurd (omega (arith, none))
there dash (line ∷ lines) number k requests e within =
    at_line (says_nothing line) (request_of dash number line) (requests_of_lines dash (number + 1) lines) number
    (λ j. requesting_line (number + 1) j lines) k requests
    (λ j rest more fits. there dash lines (number + 1) j rest more fits) e within

-- the arrival at this index has its line
pub line_is_there : (files : Files) (dash : Dash) (lines : List (List ℕ)) (arrivals : List Arrival) (index : ℕ)
    → AreArrivalsOf files dash lines arrivals → IsFirstUnsent arrivals index
    → Numbered (requesting_line 1 index lines)
line_is_there files dash lines arrivals index made first =
    let within : index < length arrivals = slice_get_within arrivals index first.arrival first.there in
    let long : length arrivals ≡ length made.requests = AllZip-long _ made.requests arrivals made.arrived in
    there dash lines 1 index made.requests made.requested (omega (arith, within, long))
