-- What is reported of the refused command of a bundle.
use Rattle.std.specs.Prelude.{ℕ, List, ◌++◌, codes, decimal}
use Rattle.office_types.specs.Refusal.{refusal_name, refusal_number}
use Rattle.office_types.specs.declared.command.Action.{Action}
use Rattle.office_types.specs.declared.refusal.Refusal.{Refusal}
use Rattle.office_fields.specs.Kind.{action_word, kind_of}

-- `command 2, take_bits, is refused 23 Clash: REASON`
abbrev pub refused_text : ℕ → Action → Refusal → List ℕ → List ℕ
refused_text number a r reason = codes "command " ++ (decimal number ++ (codes ", " ++ (action_word (kind_of a)
    ++ (codes ", is refused " ++ (decimal (refusal_number r) ++ (codes " " ++ (refusal_name r
    ++ (codes ": " ++ reason))))))))
