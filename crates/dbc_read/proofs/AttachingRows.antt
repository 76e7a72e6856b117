-- Computed rows of the definitions of indices.
use Rattle.dbc_read.proofs.Common.{◌≡◌, ◌+◌, ℕ, List, [], ◌∷◌, None, Some, refl, arith, codes, Signal, CitedSignal}
use Rattle.dbc_read.proofs.Common.{MessageLine}
use Rattle.can_id.specs.declared.ident.Ident.TheVariants.{Std}
use Rattle.dbc_read.specs.Attaching.{CitesSignalAt, at_index, changed_at, index_after}
use Rattle.dbc_statements.specs.declared.statement.Content.TheVariants as content

-- the second of three is changed, and none past the end
second_changes : at_index (λ n. n + 5) (1 ∷ 2 ∷ 3 ∷ []) 1 ≡ 1 ∷ 7 ∷ 3 ∷ []
second_changes = refl

none_changes : at_index (λ n. n + 5) (1 ∷ []) 1 ≡ 1 ∷ []
none_changes = refl

no_index : changed_at (λ n. n + 5) None (1 ∷ []) ≡ 1 ∷ []
no_index = refl

-- the second item after two others is the fourth
second_after_two : index_after {A = ℕ} (7 ∷ 8 ∷ []) 1 ≡ 3
second_after_two = refl

-- the only signal of message 7 is the first of the first message
first_indices : (line : MessageLine) (s : Signal) (cited : CitedSignal) (text : List ℕ)
    → line.signals.items ≡ record s { name = codes "S" } ∷ []
    → CitesSignalAt (record line { ident = Std 7 } ∷ [])
    (content.SignalComment (record cited { number = Some 7; name = record cited.name { now = codes "S" } }) text)
    (Some (record { message = 0; signal = 0 }))
first_indices line s cited text e = record { within = rw e (omega arith); index = rw e refl }

-- and it has none where there are no messages
no_indices : (cited : CitedSignal) (text : List ℕ)
    → CitesSignalAt [] (content.SignalComment (record cited { number = Some 7 }) text) None
no_indices cited text = record { within = tt; index = refl }
