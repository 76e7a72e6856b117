-- Three texts, one after the other.
use Rattle.dbc_keep.proofs.Common.{◌≡◌, ◌++◌, ℕ, List, ap, ◌∙◌, append_assoc}

pub three : {u v w : List ℕ} (t a b c : List ℕ) → u ≡ t ++ a → v ≡ u ++ b → w ≡ v ++ c → w ≡ t ++ (a ++ b ++ c)
three t a b c x y z =
    z ∙ ap (λ l. l ++ c) (y ∙ ap (λ l. l ++ b) x) ∙ ap (λ l. l ++ c) (append_assoc t a b)
    ∙ append_assoc t (a ++ b) c
