-- What is seen of the network that the tables have.
use Rattle.std.specs.Prelude.{◌≡◌, ◌⊎◌, ⊤, Bool, ℕ, List, Option, Some, None, IsSomeAnd, IsTrue}
use Rattle.std.specs.Option.{option_map}
use Rattle.office_page.specs.Page.{IsNetPage, IsReleasePage}
use Rattle.dbc_sheet.specs.declared.sheet.Sheet.{Sheet}
use Rattle.office_types.specs.declared.book.SpnBook.{SpnBook}
use Rattle.office_types.specs.declared.look.Look.{Look}
use Rattle.office_types.specs.declared.look.Look.TheVariants as look
use Rattle.office_types.specs.declared.look.LookForm.{LookForm}
use Rattle.office_types.specs.declared.look.NetLook.{NetLook}
use Rattle.office_types.specs.declared.state.Net.{Net}
use Rattle.office_seen.specs.View.{view_of}
use Rattle.office_seen.specs.declared.view.View.{View}
use Rattle.office_looks.specs.Looks.{net_shown, shown_of}
use Rattle.office_looks.specs.Reads.{AreRead, net_read}
use Rattle.office_looks.specs.declared.reads.MessagesRead.TheVariants.{Whole}
use Rattle.office_looks.specs.declared.reads.Reads.{Reads}
use Rattle.office_looks.specs.declared.reads.ReleasesRead.TheVariants.{All}
use Rattle.store_rows.specs.NetIn.{IsNetAt}
use Rattle.store_rows.specs.Rows.{IsBookIn}
use Rattle.store_tables.specs.Tables.{Tables}

-- whatever network the tables have under the name, if any, and whatever book they have, this holds
abbrev pub OnNetAndBook : {X : Type 0} → List ℕ → (Option Net → SpnBook → X → Type 0) → X → Tables → Type 0
OnNetAndBook name Holds found t = (net : Option Net) → IsNetAt name t net → (book : SpnBook) → IsBookIn t book
    → Holds net book found

-- the network is seen with the book, its messages and releases as far as they are read
abbrev pub IsSeen : Reads → Option Net → SpnBook → Option View → Type 0
IsSeen reads None book found = found ≡ None
IsSeen reads (Some net) book found = (releases : List Sheet) × AreRead reads.releases net.releases releases
    × (found ≡ Some (view_of (net_read reads.messages releases net) book))

-- the text of what is seen, in the form, if anything is
abbrev pub seen_text : LookForm → NetLook → Option View → Option (List ℕ)
seen_text form look None = None
seen_text form look (Some view) = shown_of form look view

-- what is seen of the whole network with the book, if it is there
abbrev pub whole_view : Option Net → SpnBook → Option View
whole_view net book = option_map (λ n. view_of n book) net

-- a page of the network that is seen; nothing where none is
abbrev pub IsPageOf : Option View → Option (List ℕ) → Type 0
IsPageOf None page = page ≡ None
IsPageOf (Some view) page = IsSomeAnd page (IsNetPage view)

-- a page of its release of this number; nothing where there is none
abbrev pub IsReleasePageOf : Option View → ℕ → Option (List ℕ) → Type 0
IsReleasePageOf None number page = page ≡ None
IsReleasePageOf (Some view) number page = IsReleasePage view number page

-- a page of the network with the book, or of its release of this number, if it is there
abbrev pub IsPageOfNet : Option Net → SpnBook → Option (List ℕ) → Type 0
IsPageOfNet net book page = IsPageOf (whole_view net book) page

abbrev pub IsPageOfRelease : Option Net → SpnBook → ℕ → Option (List ℕ) → Type 0
IsPageOfRelease net book number page = IsReleasePageOf (whole_view net book) number page

-- the live messages are read whole, and all releases
abbrev pub reads_whole : Reads
reads_whole = record { messages = Whole; releases = All }

-- ---- what is remembered: the name of a network, and what is seen of it

abbrev pub Known : Type 0
Known = Option (List ℕ × View)

-- what is remembered is so in the tables: it is all of the network, as they have it
abbrev pub IsTrueOf : Known → Tables → Type 0
IsTrueOf None t = ⊤
IsTrueOf (Some known) t = OnNetAndBook known.0 (λ net book found. found ≡ whole_view net book) (Some known.1) t

-- the text is that of a look at a network, or of a page, on these tables
abbrev pub IsTextOn : Look → Option (List ℕ) → Tables → Type 0
IsTextOn (look.Net name l form) text t =
    OnNetAndBook name (λ net book found. found ≡ net_shown form net book l) text t
IsTextOn (look.Page name) text t = OnNetAndBook name IsPageOfNet text t
IsTextOn (look.ReleasePage name number) text t =
    OnNetAndBook name (λ net book found. IsPageOfRelease net book number found) text t
IsTextOn l text t = ⊥

-- what may be remembered after this was seen of a network: what was, or nothing, or that, if it is the whole network
abbrev pub MayRemember : List ℕ → Bool → Option View → (old new : Known) → Type 0
MayRemember name is_whole seen old new = (new ≡ old) ⊎ ((new ≡ None)
    ⊎ (IsTrue is_whole × ((view : View) × (seen ≡ Some view) × (new ≡ Some (name, view)))))
