-- Lists of names, as a loop reads them: those that mean no node are left out immediately.
use Rattle.dbc_statements.proofs.Common.{◌≡◌, ℕ, true, List, [], ◌∷◌, ◌++◌, Option, Some, None, refl, sym, ap, ◌∙◌}
use Rattle.dbc_statements.proofs.Common.{append_assoc, goes_on, Parsed, many_at, further_at, with_front, Token}
use Rattle.dbc_statements.proofs.Common.{further_take, goes_round}
use Rattle.std.proofs.lemmas.List.Elements.{filter_map-append}
use Rattle.dbc_statements.specs.Names.{names_in, with_names}
use Rattle.dbc_statements.proofs.LoopRounds.{at_start}

abbrev Names : Type 0
Names = List (List ℕ)

abbrev further : List Token → Parsed (List (Option (List ℕ)))
further ts = many_at goes_on further_at ts

keeps_front : (front : Names) (xs : List (Option (List ℕ))) (o : Parsed (List (Option (List ℕ))))
    → with_names front (with_front xs o) ≡ with_names (front ++ names_in xs) o
keeps_front front xs None = refl
keeps_front front xs (Some b) =
    ap (λ (l : Names). Some (l, b.1)) (ap (λ (l : Names). front ++ l) (filter_map-append (λ name. name) xs b.0)
    ∙ sym (append_assoc front (names_in xs) (names_in b.0)))

pub one_more : (front : Names) (ts : List Token) (x : Option (List ℕ)) (rest : List Token) (total : Parsed Names)
    → goes_on ts ≡ true → further_at ts ≡ Some (x, rest)
    → with_names front (further ts) ≡ total → with_names (front ++ names_in (x ∷ [])) (further rest) ≡ total
one_more front ts x rest total test e h =
    sym (keeps_front front (x ∷ []) (further rest))
    ∙ ap (with_names front) (goes_round further_take [] ts (x, rest) (further ts) test e (at_start (further ts)))
    ∙ h
