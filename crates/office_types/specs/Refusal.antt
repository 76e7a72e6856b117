-- Numbers and names of refusals.
use Rattle.std.specs.Prelude.{ℕ, ◌==◌, List, [], ◌∷◌, Option, codes, find}
use Rattle.office_types.specs.declared.refusal.FileFault.{FileFault}
use Rattle.office_types.specs.declared.refusal.Refusal.{Refusal}
use Rattle.office_types.specs.declared.refusal.Refusal.TheVariants as no

abbrev pub refusal_number : Refusal → ℕ
refusal_number no.OutsidePayload = 22
refusal_number no.Clash = 23
refusal_number no.NoMultiplexor = 24
refusal_number no.TwoMultiplexors = 25
refusal_number no.TooMany = 26
refusal_number no.NoNet = 40
refusal_number no.NetThere = 41
refusal_number no.NotOffice = 42
refusal_number no.NoNode = 43
refusal_number no.NoMessage = 44
refusal_number no.NoSignal = 45
refusal_number no.BlockTaken = 46
refusal_number no.NoBlock = 47
refusal_number no.BlockFull = 48
refusal_number no.OutsideBlock = 49
refusal_number no.NameTaken = 50
refusal_number no.IdentTaken = 51
refusal_number no.Held = 52
refusal_number no.NotOwner = 53
refusal_number no.InReview = 54
refusal_number no.NotInReview = 55
refusal_number no.OwnReview = 56
refusal_number no.NeedsMore = 57
refusal_number (no.FileFault f) = 58
refusal_number no.NoSpn = 59
refusal_number no.NoRoom = 60
refusal_number no.NotJ1939 = 61
refusal_number (no.BundleRefused f) = 62

abbrev pub refusal_name : Refusal → List ℕ
refusal_name no.OutsidePayload = codes "OutsidePayload"
refusal_name no.Clash = codes "Clash"
refusal_name no.NoMultiplexor = codes "NoMultiplexor"
refusal_name no.TwoMultiplexors = codes "TwoMultiplexors"
refusal_name no.TooMany = codes "TooMany"
refusal_name no.NoNet = codes "NoNet"
refusal_name no.NetThere = codes "NetThere"
refusal_name no.NotOffice = codes "NotOffice"
refusal_name no.NoNode = codes "NoNode"
refusal_name no.NoMessage = codes "NoMessage"
refusal_name no.NoSignal = codes "NoSignal"
refusal_name no.BlockTaken = codes "BlockTaken"
refusal_name no.NoBlock = codes "NoBlock"
refusal_name no.BlockFull = codes "BlockFull"
refusal_name no.OutsideBlock = codes "OutsideBlock"
refusal_name no.NameTaken = codes "NameTaken"
refusal_name no.IdentTaken = codes "IdentTaken"
refusal_name no.Held = codes "Held"
refusal_name no.NotOwner = codes "NotOwner"
refusal_name no.InReview = codes "InReview"
refusal_name no.NotInReview = codes "NotInReview"
refusal_name no.OwnReview = codes "OwnReview"
refusal_name no.NeedsMore = codes "NeedsMore"
refusal_name (no.FileFault f) = codes "FileFault"
refusal_name no.NoSpn = codes "NoSpn"
refusal_name no.NoRoom = codes "NoRoom"
refusal_name no.NotJ1939 = codes "NotJ1939"
refusal_name (no.BundleRefused f) = codes "BundleRefused"

-- what is wrong with the file, or with the bundle; zeros where the refusal is of neither
abbrev pub fault_of : Refusal → FileFault
fault_of (no.FileFault f) = f
fault_of (no.BundleRefused f) = f
fault_of r = record { fault = 0; at = 0 }

-- all refusals, by number; that of a file and that of a bundle have this fault
abbrev pub all_refusals : FileFault → List Refusal
all_refusals f =
    no.OutsidePayload ∷
    no.Clash ∷
    no.NoMultiplexor ∷
    no.TwoMultiplexors ∷
    no.TooMany ∷
    no.NoNet ∷
    no.NetThere ∷
    no.NotOffice ∷
    no.NoNode ∷
    no.NoMessage ∷
    no.NoSignal ∷
    no.BlockTaken ∷
    no.NoBlock ∷
    no.BlockFull ∷
    no.OutsideBlock ∷
    no.NameTaken ∷
    no.IdentTaken ∷
    no.Held ∷
    no.NotOwner ∷
    no.InReview ∷
    no.NotInReview ∷
    no.OwnReview ∷
    no.NeedsMore ∷
    no.FileFault f ∷
    no.NoSpn ∷
    no.NoRoom ∷
    no.NotJ1939 ∷
    no.BundleRefused f ∷ []

-- the refusal of a number
abbrev pub refusal_at : ℕ → FileFault → Option Refusal
refusal_at n f = find (λ r. refusal_number r == n) (all_refusals f)
