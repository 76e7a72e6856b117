-- The arguments of `chart`: a length, and signals `name=start|size@order` and then nothing, `,M` or `,mN`.
use Rattle.std.specs.Prelude.{ℕ, nat_le, ◌&&◌, List, Option, Some, None, if◌then◌else◌}
use Rattle.std.specs.Option.{option_and_then, option_map}
use Rattle.base.specs.Split.{split_once}
use Rattle.base.specs.WholeNumber.{whole_of}
use Rattle.bitlayout.specs.declared.layout.Order.{Order}
use Rattle.bitlayout.specs.declared.place.Mux.{Mux}
use Rattle.bitlayout.specs.declared.place.Mux.TheVariants.{Always}
use Rattle.bitlayout.specs.Order.{order_numbered}
use Rattle.bitlayout.specs.declared.place.Place.{Place}
use Rattle.dbc_words.specs.Indicator.{mux_of_indicator}
use Rattle.dbc_words.specs.Limits.{length_limit, size_limit, start_limit}
use Rattle.dbc_words.specs.Name.{is_name}
use Rattle.office_views.specs.declared.signal.ChartSignal.{ChartSignal}

infixl 10 ◌>>=◌
abbrev pub ◌>>=◌ : {A B : Type 0} → Option A → (A → Option B) → Option B
o >>= f = option_and_then f o

-- the separators `,`, `|`, `@` and `=`
abbrev comma : ℕ
comma = 44

abbrev bar : ℕ
bar = 124

abbrev at_sign : ℕ
at_sign = 64

abbrev equals : ℕ
equals = 61

-- a number from a least to a greatest one, inclusive
abbrev pub between : ℕ → ℕ → ℕ → Option ℕ
between least most n = if nat_le least n && nat_le n most then Some n else None

-- LENGTH: 0 to length_limit bytes
abbrev pub length_of : List ℕ → Option ℕ
length_of bytes = whole_of bytes >>= between 0 length_limit

-- 0 or 1
abbrev pub order_of : List ℕ → Option Order
order_of bytes = whole_of bytes >>= order_numbered

-- the order and the indicator, which comes after a comma or is absent
abbrev pub order_and_mark_of : List ℕ → Option (Order × Mux)
order_and_mark_of bytes = elim (split_once comma bytes) [
  | None ↦ option_map (λ order. (order, Always)) (order_of bytes)
  | Some parts ↦ order_of parts.0 >>= λ order. option_map (λ mux. (order, mux)) (mux_of_indicator parts.1)
]

-- start|size@order and the indicator
abbrev pub place_of : List ℕ → Option Place
place_of bytes = do
  at ← split_once bar bytes
  sized ← split_once at_sign at.1
  start ← whole_of at.0 >>= between 0 start_limit
  size ← whole_of sized.0 >>= between 1 size_limit
  rest ← order_and_mark_of sized.1
  Some (record { layout = record { start = start; size = size; order = rest.0 }; mux = rest.1 })

-- the name, = and the place
abbrev pub signal_of : List ℕ → Option ChartSignal
signal_of word = do
  named ← split_once equals word
  place ← place_of named.1
  if is_name named.0 then Some (record { name = named.0; place = place }) else None
