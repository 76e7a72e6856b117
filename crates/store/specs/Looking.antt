-- What is shown of an office.
use Rattle.std.specs.Prelude.{◌≡◌, ℕ, List, Option, Some, Vec}
use Rattle.std.specs.Option.{option_map}
use Rattle.std.specs.declared.alloc.Global.{Global}
use Rattle.office_views.specs.NetList.{nets_text}
use Rattle.office_types.specs.declared.state.Office.{Office}
use Rattle.office_rules.specs.Step.{net_named}
use Rattle.store_net.specs.Texts.{IsTextOf, live_chart, live_table, live_text, release_at, release_text}
use Rattle.office_types.specs.declared.look.Look.{Look}
use Rattle.office_types.specs.declared.look.Look.TheVariants as look
use Rattle.office_types.specs.declared.look.Look.TheVariants.{Chart, Live, Nets, Page, Release, ReleasePage}
use Rattle.office_types.specs.declared.look.Look.TheVariants.{Requests, Table}
use Rattle.office_history.specs.History.{Answered}
use Rattle.office_looks.specs.Looks.{net_shown}
use Rattle.office_looks.specs.Requests.{IsRequestsText}
use Rattle.store_looks.specs.Seen.{IsPageOfNet, IsPageOfRelease}

-- After a history that left this office: the list of networks; of a network, the table and the canonical text of its
-- live sheet; of a release, the canonical text of it, which reads as it and as no other sheet; of a live message, its
-- chart; what else is looked up of a network, in the form; a page of a network, or of a release; and the requests of a
-- team in the history, in the form. Nothing exactly where there is no such network, release or message, or nothing that is looked up,
-- or where what is looked up as JSON is no list.
abbrev pub IsShown : List Answered → Office → Look → Option (List ℕ) → Type 0
IsShown h office Nets text = text ≡ Some (nets_text office.nets)
IsShown h office (Table net) text = text ≡ live_table (net_named office net)
IsShown h office (Live net) text = text ≡ live_text (net_named office net)
IsShown h office (Release net number) text =
    (text ≡ release_text (net_named office net) number) × IsTextOf (release_at (net_named office net) number) text
IsShown h office (Chart net message) text = text ≡ live_chart (net_named office net) message
IsShown h office (look.Net net l form) text = text ≡ net_shown form (net_named office net) office.book l
IsShown h office (Page net) text = IsPageOfNet (net_named office net) office.book text
IsShown h office (ReleasePage net number) text = IsPageOfRelease (net_named office net) office.book number text
IsShown h office (Requests team form) text = (shown : List ℕ) × (text ≡ Some shown) × IsRequestsText team h form shown

-- the bytes of the text, if there is one
abbrev pub bytes_of : Option (Vec ℕ Global) → Option (List ℕ)
bytes_of text = option_map (λ bytes. bytes.items) text
