-- Networks in tables, with live messages in one form or another.
use Rattle.store_rows.proofs.Common.{◌≡◌, ℕ, List, Option, sym, subst, Net, Tables}
use Rattle.store_rows.specs.NetIn.{IsNetIn, IsRestAt, LiveForm, live_in, rest_of}

-- The rest of the rows are the same, and the live messages are there in the other form.
pub carried : (From To : LiveForm) (name : List ℕ) (t t2 : Tables) (net : Option Net) → rest_of name t2 ≡ rest_of name t
    → (From name t (live_in net) → To name t2 (live_in net))
    → IsNetIn From name t net → IsNetIn To name t2 net
carried From To name t t2 net same over h =
    record { rest = subst (λ rows. IsRestAt name rows net) (sym same) h.rest; live = over h.live }
