-- Where statements end, token by token.
use Rattle.dbc_keep.proofs.Common.{◌≡◌, ◌<◌, ℕ, true, false, List, [], ◌∷◌, length, refl, ap, ◌∙◌, arith, begins_next}
use Rattle.dbc_keep.proofs.Common.{is_open, Token, before_next, to_mark}
use Rattle.dbc_keep.specs.Finding.{last_end}

pub next_none : (e : ℕ) (ts : List Token) → ts ≡ [] → last_end e (before_next ts) ≡ e
next_none e ts h = ap (λ (l : List Token). last_end e (before_next l)) h

pub mark_none : (e : ℕ) (ts : List Token) → ts ≡ [] → last_end e (to_mark ts) ≡ e
mark_none e ts h = ap (λ (l : List Token). last_end e (to_mark l)) h

next_stop_at : (e : ℕ) (t : Token) (us : List Token) → begins_next t ≡ true → last_end e (before_next (t ∷ us)) ≡ e
next_stop_at e t us b = rw b refl

next_go_at : (e : ℕ) (t : Token) (us : List Token) → begins_next t ≡ false
    → last_end e (before_next (t ∷ us)) ≡ last_end t.end (before_next us)
next_go_at e t us b = rw b refl

mark_stop_at : (e : ℕ) (t : Token) (us : List Token) → is_open t ≡ false → last_end e (to_mark (t ∷ us)) ≡ t.end
mark_stop_at e t us b = rw b refl

mark_go_at : (e : ℕ) (t : Token) (us : List Token) → is_open t ≡ true
    → last_end e (to_mark (t ∷ us)) ≡ last_end t.end (to_mark us)
mark_go_at e t us b = rw b refl

pub next_stop : (e : ℕ) (t : Token) (ts us : List Token) → ts ≡ t ∷ us → begins_next t ≡ true
    → last_end e (before_next ts) ≡ e
next_stop e t ts us h b = ap (λ (l : List Token). last_end e (before_next l)) h ∙ next_stop_at e t us b

pub next_go : (e : ℕ) (t : Token) (ts us : List Token) → ts ≡ t ∷ us → begins_next t ≡ false
    → last_end e (before_next ts) ≡ last_end t.end (before_next us)
next_go e t ts us h b = ap (λ (l : List Token). last_end e (before_next l)) h ∙ next_go_at e t us b

pub mark_stop : (e : ℕ) (t : Token) (ts us : List Token) → ts ≡ t ∷ us → is_open t ≡ false
    → last_end e (to_mark ts) ≡ t.end
mark_stop e t ts us h b = ap (λ (l : List Token). last_end e (to_mark l)) h ∙ mark_stop_at e t us b

pub mark_go : (e : ℕ) (t : Token) (ts us : List Token) → ts ≡ t ∷ us → is_open t ≡ true
    → last_end e (to_mark ts) ≡ last_end t.end (to_mark us)
mark_go e t ts us h b = ap (λ (l : List Token). last_end e (to_mark l)) h ∙ mark_go_at e t us b

pub fewer : (t : Token) (ts us : List Token) → ts ≡ t ∷ us → length us < length ts
fewer t ts us h = omega (arith, ap length h)
