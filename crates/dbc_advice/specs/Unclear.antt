-- What is stated of a message that isn't clear: one sentence a reason.
use Rattle.std.specs.Prelude.{ℕ, true, List, [], ◌++◌, Option, Some, None, slice_get, codes, decimal}
use Rattle.std.specs.Fmt.{digits}
use Rattle.std.specs.Option.{option_map_or}
use Rattle.bitlayout.specs.declared.clash.Clash.TheVariants.{NoMultiplexor, Outside, Overlap, TwoMultiplexors}
use Rattle.bitlayout.specs.declared.clash.Clash.{Clash}
use Rattle.can_id.specs.Ident.{ident_number}
use Rattle.dbc_sheet.specs.declared.message.Message.{Message}
use Rattle.dbc_sheet.specs.declared.signal.Signal.{Signal}
use Rattle.dbc_advice.specs.declared.reasons.ClashReason.{ClashReason}

-- the name of the signal at an index
abbrev pub name_at : List Signal → ℕ → List ℕ
name_at signals i = option_map_or (λ (s : Signal). s.name) (slice_get signals i) []

-- its name, and its identifier in hexadecimal digits
abbrev pub message_text : Message → List ℕ
message_text m = codes "message " ++ (m.name ++ (codes " (0x" ++ (digits 16 true (ident_number m.ident) ++ codes ")")))

-- `bit N`, or bits past the payload
abbrev pub bit_text : Option ℕ → List ℕ
bit_text None = codes "bits past the payload"
bit_text (Some bit) = codes "bit " ++ decimal bit

abbrev pub outside_text : Message → List ℕ
outside_text m = (codes " is outside the " ++ (decimal m.length ++ codes " bytes of ")) ++ message_text m

-- the names of two signals
abbrev pub pair_text : List Signal → ℕ → ℕ → List ℕ
pair_text signals j i = name_at signals j ++ (codes " and " ++ name_at signals i)

abbrev pub share_text : Option ℕ → List ℕ
share_text bit = codes " share " ++ (bit_text bit ++ codes " in ")

abbrev pub clash_text : Message → Option ℕ → Clash → List ℕ
clash_text m bit (Outside i) =
    bit_text bit ++ (codes " of signal " ++ (name_at m.signals i ++ outside_text m))
clash_text m bit (TwoMultiplexors i) =
    codes "signal " ++ (name_at m.signals i ++ (codes " is a second multiplexor of " ++ message_text m))
clash_text m bit (NoMultiplexor i) =
    codes "signal " ++ (name_at m.signals i
    ++ (codes " depends on a multiplexor, and no signal is marked M in " ++ message_text m))
clash_text m bit (Overlap j i) =
    codes "signals " ++ (pair_text m.signals j i ++ (share_text bit ++ message_text m))

abbrev pub reason_text : Message → ClashReason → List ℕ
reason_text m reason = clash_text m reason.bit reason.clash
