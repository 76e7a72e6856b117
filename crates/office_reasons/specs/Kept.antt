-- What is reported of an answer that was kept, and of a key that came with another request.
use Rattle.std.specs.Prelude.{ℕ, List, ◌++◌, codes, decimal}
use Rattle.office_types.specs.Refusal.{refusal_name, refusal_number}
use Rattle.office_types.specs.declared.refusal.Refusal.{Refusal}

abbrev pub key_reused_text : List ℕ
key_reused_text = codes "the team has used this key for another request; another key asks anew"

-- a refusal that isn't that of today
abbrev pub outdated_text : Refusal → List ℕ → List ℕ
outdated_text now reason = codes "answered so before under this key: another key asks anew, and is refused "
    ++ (decimal (refusal_number now) ++ (codes " " ++ (refusal_name now ++ (codes " now: " ++ reason))))
