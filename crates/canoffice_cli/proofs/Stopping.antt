-- How far arrivals are answered.
use Rattle.canoffice_cli.proofs.Common.{◌≡◌, ◌≤◌, inl, inr, Bool, true, false, List, ◌∷◌, [], ◌++◌, length, Some, None}
use Rattle.canoffice_cli.proofs.Common.{refl, sym, ap, ◌∙◌, false≢true, none-some, IsTrue, list_any, is_refused, Answer}
use Rattle.canoffice_cli.proofs.Common.{Arrival, Lost}
use Rattle.std.proofs.Common.{◌&&◌, ◌||◌}
use Rattle.std.proofs.lemmas.List.Folds.{list_any-append}
use Rattle.canoffice_cli.specs.Answered.{EndsRefused, IsFarEnough, NoneRefused}

-- where nothing was refused and it goes on after the next answer, nothing is refused with that
pub still_none : (strict stops : Bool) (ys zs : List Answer) (answer : Answer) → (IsTrue strict → NoneRefused ys)
    → stops ≡ (strict && is_refused answer) → stops ≡ false → zs ≡ ys ++ answer ∷ [] → IsTrue strict → NoneRefused zs
still_none false stops ys zs answer none is goes_on more strictly = absurd (false≢true strictly)
still_none true stops ys zs answer none is goes_on more strictly =
    ap (list_any is_refused) more ∙ list_any-append is_refused ys (answer ∷ [])
    ∙ ap (λ b. b || (is_refused answer || false)) (none strictly) ∙ ap (λ b. b || false) (sym is ∙ goes_on)

-- it stops at a refusal
pub ends_here : (strict stops : Bool) (ys zs : List Answer) (answer : Answer) → (IsTrue strict → NoneRefused ys)
    → stops ≡ (strict && is_refused answer) → stops ≡ true → zs ≡ ys ++ answer ∷ []
    → IsTrue strict × EndsRefused zs
ends_here false stops ys zs answer none is here more = absurd (false≢true (sym is ∙ here))
ends_here true stops ys zs answer none is here more = (refl, (ys, answer, more, none refl, sym is ∙ here))

-- ---- how far it is then

pub far_at_refusal : (strict : Bool) (arrivals : List Arrival) (zs : List Answer) → length zs ≤ length arrivals
    → IsTrue strict × EndsRefused zs → IsFarEnough strict arrivals zs None
far_at_refusal strict arrivals zs some ends = record { some = some; all = λ none. inr ends; stops = λ s. inr ends.1 }

pub far_at_loss : (strict : Bool) (arrivals : List Arrival) (zs : List Answer) (lost : Lost)
    → length zs ≤ length arrivals
    → (IsTrue strict → NoneRefused zs) → IsFarEnough strict arrivals zs (Some lost)
far_at_loss strict arrivals zs lost some none =
    record { some = some; all = λ never. absurd (none-some lost (sym never)); stops = λ s. inl (none s) }
