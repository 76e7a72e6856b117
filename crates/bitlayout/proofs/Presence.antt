-- When two signals are present at once.
use Rattle.bitlayout.proofs.Common.{◌≡◌, ◌⊎◌, inl, inr, ℕ, true, refl, sym, ◌∙◌, Decides, eqb-true, eq-eqb, false≢true}
use Rattle.bitlayout.specs.declared.place.Mux.{Mux}
use Rattle.bitlayout.specs.declared.place.Mux.TheVariants.{Always, Multiplexor, Under}
use Rattle.bitlayout.specs.Mux.{IsPresent, Meet, IsUnder, meets, is_multiplexor, is_under}

present_somewhere : (mux : Mux) → (value : ℕ) × IsPresent mux value
present_somewhere Always = (0, tt)
present_somewhere Multiplexor = (0, tt)
present_somewhere (Under v) = (v, refl)

pub meets_decides : (a b : Mux) → Decides (meets a b) (Meet a b)
meets_decides Always b = (λ _. let (v, at) = present_somewhere b in (v, tt, at), λ _. refl)
meets_decides Multiplexor b = (λ _. let (v, at) = present_somewhere b in (v, tt, at), λ _. refl)
meets_decides (Under v) Always = (λ _. (v, refl, tt), λ _. refl)
meets_decides (Under v) Multiplexor = (λ _. (v, refl, tt), λ _. refl)
meets_decides (Under v) (Under w) =
    (λ t. (v, refl, sym (eqb-true v w t)), λ (x, at_v, at_w). eq-eqb v w (at_v ∙ sym at_w))

pub is_multiplexor_decides : (mux : Mux) → Decides (is_multiplexor mux) (mux ≡ Multiplexor)
is_multiplexor_decides Always = (λ t. absurd (false≢true t), λ e. cc)
is_multiplexor_decides Multiplexor = (λ _. refl, λ _. refl)
is_multiplexor_decides (Under v) = (λ t. absurd (false≢true t), λ e. cc)

pub is_under_decides : (mux : Mux) → Decides (is_under mux) (IsUnder mux)
is_under_decides Always = (λ t. absurd (false≢true t), λ (v, e). cc)
is_under_decides Multiplexor = (λ t. absurd (false≢true t), λ (v, e). cc)
is_under_decides (Under v) = (λ _. (v, refl), λ _. refl)

pub meets_unless_under : (a b : Mux) → (a ≡ Always) ⊎ (a ≡ Multiplexor) → meets a b ≡ true
meets_unless_under Always b either = refl
meets_unless_under Multiplexor b either = refl
meets_unless_under (Under v) b (inl e) = cc
meets_unless_under (Under v) b (inr e) = cc
