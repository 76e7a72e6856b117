-- Tables that follow what becomes of a network and of the book.
use Rattle.std.specs.Prelude.{◌≡◌, ℕ, List, [], ◌∷◌, false}
use Rattle.std.specs.Str.{bytes_eq}
use Rattle.office_types.specs.declared.change.Change.{Change}
use Rattle.office_rules.specs.Change.{NetAndBook, applied}
use Rattle.store_tables.specs.Tables.{Tables}
use Rattle.store_rows.specs.Live.{live_rows}
use Rattle.store_rows.specs.NetIn.{IsNetAt, rest_of}
use Rattle.store_rows.specs.Rows.{IsBookIn}
use Rattle.store_rows.specs.Written.{IsWritten}

-- the rows of the name's network are the same
pub record HasSame (name : List ℕ) (t t2 : Tables) : Type 0 where
  pub rest : rest_of name t2 ≡ rest_of name t
  pub live : live_rows name t2 ≡ live_rows name t

-- From the tables t to t2 the network of this name and the book come from `before` to `after`. Rows of other networks,
-- kept replies with their parts, the profile and the table of bodies stay.
pub record Follows (name : List ℕ) (t t2 : Tables) (before after : NetAndBook) : Type 0 where
  pub here : IsNetAt name t before.net → IsNetAt name t2 after.net
  pub book : IsBookIn t before.book → IsBookIn t2 after.book
  pub others : (other : List ℕ) → bytes_eq name other ≡ false → HasSame other t t2
  pub replies : t2.reply ≡ t.reply
  pub parts : t2.part ≡ t.part
  pub profile : t2.profile ≡ t.profile
  pub bodies : t2.message ≡ t.message

-- the changes were written, one after the other
abbrev pub AreWritten : List ℕ → List Change → NetAndBook → Tables → Tables → Type 0
AreWritten name [] e t t2 = t2 ≡ t
AreWritten name (c ∷ cs) e t t2 = (mid : Tables) × IsWritten name c e.net t mid
    × AreWritten name cs (applied name c e) mid t2
