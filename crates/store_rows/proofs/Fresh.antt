-- Tables with no row have no network, and an empty book.
use Rattle.store_rows.proofs.Common.{ℕ, List, [], None, refl, no_rows}
use Rattle.office_rules.specs.Step.{opening}
use Rattle.store_rows.specs.Live.{AreLiveRows, live_rows}
use Rattle.store_rows.specs.NetIn.{IsNetAt}
use Rattle.store_rows.specs.Rows.{IsBookIn}
use Rattle.store_rows.proofs.Listing.{none_listed}

no_live : (name : List ℕ) → AreLiveRows name (live_rows name no_rows) []
no_live name = record {
  messages = none_listed;
  numbered = record { sigs = tt; receivers = tt; values = tt };
  signals = λ number. record {
    placed = [];
    are = refl;
    sigs = none_listed;
    receivers = none_listed;
    values =
        none_listed;
  };
}

pub no_net : (name : List ℕ) → IsNetAt name no_rows None
no_net name = record { rest = refl; live = no_live name }

pub no_book : IsBookIn no_rows opening.book
no_book = record { blocks = none_listed; used = none_listed }
