-- The state: the keys by which its lists are in order, and what a network says as a sheet.
use Rattle.std.specs.Prelude.{ℕ, ◌==◌, List, map, Option, Some, None, if◌then◌else◌}
use Rattle.std.specs.Ordering.{on, nat_cmp, then_cmp}
use Rattle.std.specs.declared.cmp.Ordering.{Ordering}
use Rattle.base.specs.Keyed.{text_cmp}
use Rattle.can_id.specs.Ident.{dbc_number}
use Rattle.can_id.specs.declared.ident.Ident.{Ident}
use Rattle.dbc_sheet.specs.declared.message.Message.{Message}
use Rattle.dbc_sheet.specs.declared.sheet.Sheet.{Sheet}
use Rattle.office_types.specs.Block.{form_number}
use Rattle.office_types.specs.declared.state.GrantedBlock.{GrantedBlock}
use Rattle.office_types.specs.declared.state.LiveMessage.{LiveMessage}
use Rattle.office_types.specs.declared.state.Net.{Net}
use Rattle.office_types.specs.declared.state.Phase.{Phase}
use Rattle.office_types.specs.declared.state.Phase.TheVariants.{Draft, Review}

-- the keys by which networks, live messages, blocks and held identifiers are in order
abbrev pub by_name : Net → Net → Ordering
by_name = on (λ n. n.name) text_cmp

abbrev pub by_number : LiveMessage → LiveMessage → Ordering
by_number = on (λ m. dbc_number m.message.ident) nat_cmp

abbrev pub by_first : GrantedBlock → GrantedBlock → Ordering
by_first = then_cmp (on (λ g. form_number g.block.form) nat_cmp) (on (λ g. g.block.first) nat_cmp)

abbrev pub by_ident : Ident → Ident → Ordering
by_ident = on dbc_number nat_cmp

-- the number of a phase, and the team that requested a review
abbrev pub phase_number : Phase → ℕ
phase_number Draft = 0
phase_number (Review submitter) = 1

abbrev pub submitter_of : Phase → Option (List ℕ)
submitter_of Draft = None
submitter_of (Review submitter) = Some submitter

-- the phase of a number: draft has no submitter, a review has one
abbrev pub phase_at : ℕ → Option (List ℕ) → Option Phase
phase_at n None = if n == 0 then Some Draft else None
phase_at n (Some submitter) = if n == 1 then Some (Review submitter) else None

-- the live sheet: the frame with the live messages
abbrev pub live_messages : List LiveMessage → List Message
live_messages live = map (λ m. m.message) live

abbrev pub sheet_with : Sheet → List LiveMessage → Sheet
sheet_with frame live = record frame { messages = live_messages live }

abbrev pub sheet_of : Net → Sheet
sheet_of net = sheet_with net.head.frame net.live
