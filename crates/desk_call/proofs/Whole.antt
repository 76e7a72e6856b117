-- What was read of a request gives the same call as all the bytes of the source.
use Rattle.desk_call.proofs.Common.{◌≡◌, ℕ, ◌≤◌, ◌<◌, ◌⊎◌, List, [], ◌++◌, length, map, Option, None, Some, Bool, true}
use Rattle.desk_call.proofs.Common.{false, inl, inr, refl, sym, ap, ◌∙◌, arith, length-append, nat_le, nat_tests}
use Rattle.desk_call.proofs.Common.{IsAtEnd, RequestHead, name_and_value, Moves, demand_of, body_size, Headers, HasHead}
use Rattle.desk_call.proofs.Common.{Demand}
use Rattle.std.proofs.Common.{IfSome, Result, Ok, subst, append_assoc, append-nil}
use Rattle.std.proofs.lemmas.List.{take-append-le}
use Rattle.std.proofs.KnownBytes.{Consumes-trans}
use Rattle.std.specs.Io.KnownBytes.{Consumes}
use Rattle.httparse.specs.Grammar.{print_request}
use Rattle.desk_head.specs.declared.demand.Demand.TheVariants.{Fails, Shows, Does}
use Rattle.desk_call.specs.Call.{Requested, call_by, call_of}
use Rattle.desk_call.specs.Read.{IsRequest, IsNotWhole}

pub either : {E P Q : Type 0} (r : Result Bool E) (flag : Bool) → r ≡ Ok flag → (r ≡ Ok true → P)
    → (r ≡ Ok false → Q) → P ⊎ Q
either r true e p q = inl (p e)
either r false e p q = inr (q e)

le_true : (m n : ℕ) → m ≤ n → nat_le m n ≡ true
le_true m n h = grind (arith, nat_tests)

-- bytes after the whole request change nothing
by_stays : (w : Demand) (target : List ℕ) (headers : Headers) (r z : List ℕ) → (body_size w ≤ length r) ⊎ (z ≡ [])
    → call_by w target headers r ≡ call_by w target headers (r ++ z)
by_stays (Fails problem) target headers r z h = refl
by_stays (Shows s) target headers r z h = refl
by_stays (Does p n) target headers r z (inl h) =
    let longer : n ≤ length (r ++ z) = omega (arith, length-append r z) in
    rw (le_true n (length r) h, le_true n (length (r ++ z)) longer, take-append-le n r z h) refl
by_stays (Does p n) target headers r z (inr e) = rw (e, append-nil r) refl

call_stays : (h : RequestHead) (r z : List ℕ) → (body_size (demand_of h) ≤ length r) ⊎ (z ≡ [])
    → call_of h r ≡ call_of h (r ++ z)
unfolding call_of
call_stays h r z enough = by_stays (demand_of h) h.target (map name_and_value h.fields) r z enough

-- the head of the first bytes is the head of all
goes_on : (got bs : List ℕ) (h : RequestHead) (tail : List ℕ) → HasHead got h tail → HasHead (got ++ bs) h (tail ++ bs)
goes_on got bs h tail has =
    ((has.0.0, ap (λ l. l ++ bs) has.0.1 ∙ append_assoc (print_request h) tail bs), has.1)

-- what was read after the head, up to the end of the body or of the source
pub requests : (a b d : Option (List ℕ)) (got tail rest : List ℕ) (h : RequestHead) (requested : Requested)
    → Consumes a b got → Moves b d tail rest → HasHead got h tail → requested ≡ call_of h rest
    → (body_size (demand_of h) ≤ length rest) ⊎ IsAtEnd d → IfSome a (λ input. IsRequest input requested)
requests None b d got tail rest h requested p m has is end = tt
requests (Some x) None d got tail rest h requested p m has is end = absurd p
requests (Some x) (Some y) None got tail rest h requested p m has is end = absurd m.2
requests (Some x) (Some y) (Some z) got tail rest h requested p m has is end =
    let bs = m.0 in
    let after : tail ++ y ≡ rest ++ z =
    ap (λ l. tail ++ l) m.2 ∙ sym (append_assoc tail bs z) ∙ ap (λ l. l ++ z) (sym m.1) in
    let there : HasHead x h (rest ++ z) =
    subst (λ (l : List ℕ). HasHead x h l) after
    (subst (λ (l : List ℕ). HasHead l h (tail ++ y)) (sym p) (goes_on got y h tail has)) in
    let enough : (body_size (demand_of h) ≤ length rest) ⊎ (z ≡ []) = elim end [ inl e ↦ inl e | inr e ↦ inr e ] in
    inr (h, rest ++ z, there, is ∙ call_stays h rest z enough)

-- what was read after the head, before a call of the source failed
pub not_whole : (a b d : Option (List ℕ)) (got tail rest : List ℕ) (h : RequestHead)
    → Consumes a b got → Moves b d tail rest → HasHead got h tail → length rest < body_size (demand_of h)
    → (bytes : List ℕ) × Consumes a d bytes × IsNotWhole bytes
not_whole a b d got tail rest h p m has short =
    let bs = m.0 in
    let there : HasHead (got ++ bs) h rest =
    subst (λ (l : List ℕ). HasHead (got ++ bs) h l) (sym m.1) (goes_on got bs h tail has) in
    (got ++ bs, Consumes-trans a b d got bs p m.2, inr (h, rest, there, short))
