-- One value in a column, and what was read part by part.
use Rattle.store_rows.proofs.Common.{◌≡◌, ℕ, pos, List, Some, sym, ap, ◌∙◌, Value, Int, Text, Blob, Sheet, Head}
use Rattle.store_rows.proofs.Common.{LiveMessage}
use Rattle.dbc_sheet.specs.declared.message.Message.{Message}
use Rattle.office_types.specs.declared.command.NetKind.{NetKind}
use Rattle.office_types.specs.declared.state.Phase.{Phase}

pub one_text : (v : Value) (a b : List ℕ) → v ≡ Text a → v ≡ Text b → a ≡ b
one_text v a b first second = let both : Text a ≡ Text b = sym first ∙ second in cc

pub one_blob : (v : Value) (a b : List ℕ) → v ≡ Blob a → v ≡ Blob b → a ≡ b
one_blob v a b first second = let both : Blob a ≡ Blob b = sym first ∙ second in cc

pub one_number : (v : Value) (a b : ℕ) → v ≡ Int (pos a) → v ≡ Int (pos b) → a ≡ b
one_number v a b first second = let both : Int (pos a) ≡ Int (pos b) = sym first ∙ second in cc

pub one_sheet : (a b : Sheet) → Some a ≡ Some b → a ≡ b
one_sheet a b same = cc

pub one_message : (a b : Message) → Some a ≡ Some b → a ≡ b
one_message a b same = cc

abbrev pub message_of : Message → List ℕ → LiveMessage
message_of message owner = record { message = message; owner = owner }

pub whole_message : (message : Message) (owner : List ℕ) (other : LiveMessage) → message ≡ other.message
    → owner ≡ other.owner → message_of message owner ≡ other
whole_message message owner other first second = ap (λ v. message_of v owner) first
    ∙ ap (message_of other.message) second

abbrev pub head_of : NetKind → ℕ → Phase → Sheet → Head
head_of kind reviews phase frame = record { kind = kind; reviews = reviews; phase = phase; frame = frame }

pub whole_head : (kind : NetKind) (reviews : ℕ) (phase : Phase) (frame : Sheet) (other : Head) → kind ≡ other.kind
    → reviews ≡ other.reviews → phase ≡ other.phase → frame ≡ other.frame
    → head_of kind reviews phase frame ≡ other
whole_head kind reviews phase frame other first second third fourth =
    ap (λ v. head_of v reviews phase frame) first ∙ ap (λ v. head_of other.kind v phase frame) second
    ∙ ap (λ v. head_of other.kind other.reviews v frame) third
    ∙ ap (head_of other.kind other.reviews other.phase) fourth
