-- Worked examples of identifiers within ranges and in blocks, computed from the definitions.
use Rattle.store_net.proofs.Common.{◌≡◌, List, [], ◌∷◌, None, refl, Standard, Extended, Ident, LiveMessage}
use Rattle.std.specs.Prelude.{codes}
use Rattle.can_id.specs.declared.ident.Ident.TheVariants as id
use Rattle.store_net.specs.Numbers.{dbc_of, idents_between, idents_inside, live_idents}

abbrev live_at : Ident → LiveMessage
live_at i = record {
  message = record { ident = i; name = codes "E"; length = 8; transmitter = None; comment = []; signals = [] };
  owner = codes "engine";
}

abbrev live : List LiveMessage
live = live_at (id.Std 256) ∷ live_at (id.Std 258) ∷ live_at (id.Ext 256) ∷ []

standard : dbc_of Standard 256 ≡ 256
standard = refl

extended : dbc_of Extended 256 ≡ 2147483904
extended = refl

-- 2^31 is no number of 29 bits; its own would have 33
too_great : dbc_of Extended 2147483648 ≡ 4294967295
too_great = refl

within : idents_between 257 258 (live_idents live) ≡ id.Std 258 ∷ []
within = refl

-- the number 256 of 11 bits isn't the one of 29 bits
of_11_bits : idents_inside Standard (record { first = 250; last = 256 } ∷ record { first = 258; last = 258 } ∷ [])
    (live_idents live) ≡ id.Std 256 ∷ id.Std 258 ∷ []
of_11_bits = refl

of_29_bits : idents_inside Extended (record { first = 0; last = 300 } ∷ []) (live_idents live) ≡ id.Ext 256 ∷ []
of_29_bits = refl

no_block : idents_inside Standard [] (live_idents live) ≡ []
no_block = refl
