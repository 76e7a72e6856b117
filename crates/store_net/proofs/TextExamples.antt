-- Worked examples, computed from the definitions.
use Rattle.store_net.proofs.Common.{◌≡◌, [], ◌∷◌, Some, None, refl, canonical_text, Message, Sheet, Head, Net}
use Rattle.std.proofs.Common.{codes}
use Rattle.std.specs.Fmt.{digits}
use Rattle.bitlayout.specs.First.{first_answer}
use Rattle.can_id.specs.declared.ident.Ident.TheVariants.{Std}
use Rattle.dbc_sheet.specs.Sheet.{empty_sheet}
use Rattle.store_net.specs.Parts.{heads}
use Rattle.store_net.specs.Texts.{IsTextOf, live_chart, live_table, live_text, release_at}

-- a network with two releases
abbrev twice_released : Net → Sheet → Sheet → Net
twice_released net first second = record net { releases = first ∷ second ∷ [] }

second_release : (net : Net) (a b : Sheet) → release_at (Some (twice_released net a b)) 2 ≡ Some b
second_release net a b = refl

no_release_0 : (net : Net) (a b : Sheet) → release_at (Some (twice_released net a b)) 0 ≡ None
no_release_0 net a b = refl

no_release_3 : (net : Net) (a b : Sheet) → release_at (Some (twice_released net a b)) 3 ≡ None
no_release_3 net a b = refl

no_release_of_none : release_at None 1 ≡ None
no_release_of_none = refl

-- where there is no release there is no text
nothing_reported : IsTextOf None None
nothing_reported = refl

-- a text that is missing is none of a release
something_missing : (release : Sheet) → IsTextOf (Some release) None → ⊥
something_missing release none = none

-- a network without a message has its frame as live sheet
live_frame : (net : Net) → live_text (Some (record net { head = record net.head { frame = empty_sheet }; live = [] }))
    ≡ Some (canonical_text empty_sheet)
live_frame net = refl

no_live : live_text None ≡ None
no_live = refl

-- its table has the counts alone, and there is no chart of it
live_counts : (net : Net) → live_table (Some (record net { head = record net.head { frame = empty_sheet }; live = [] }))
    ≡ Some (codes "messages 0 signals 0\n")
unfolding digits
live_counts net = refl

no_table : live_table None ≡ None
no_table = refl

chart_of_none : (net : Net) → live_chart (Some (record net { live = [] })) (codes "E1") ≡ None
chart_of_none net = refl

chart_nowhere : live_chart None (codes "E1") ≡ None
chart_nowhere = refl

-- a message without a signal has free bits alone
abbrev one_byte : Message
one_byte = record { ident = Std 256; name = codes "E1"; length = 1; transmitter = None; comment = []; signals = [] }

a_chart : (net : Net) → live_chart
    (Some (record net { live = record { message = one_byte; owner = codes "engine" } ∷ [] })) (codes "E1")
    ≡ Some (codes "   0 . . . . . . . .\nclear\n")
unfolding digits first_answer
a_chart net = refl

chart_of_another : (net : Net)
    → live_chart (Some (record net { live = record { message = one_byte; owner = codes "engine" } ∷ [] })) (codes "E2")
    ≡ None
chart_of_another net = refl

one_head : (head : Head) → heads (Some head) ≡ head ∷ []
one_head head = refl

no_head : heads None ≡ []
no_head = refl
