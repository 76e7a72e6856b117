-- The book of suspect parameter numbers (SAE J1939).
use Rattle.std.specs.Prelude.{ℕ, Bool, ◌&&◌, nat_le, List, IsTrue}
use Rattle.std.specs.List.{list_all}
use Rattle.std.specs.List.Sorted.{IsStrictlyIncreasing}
use Rattle.std.specs.Ordering.{on, nat_cmp, then_cmp}
use Rattle.std.specs.declared.cmp.Ordering.{Ordering}
use Rattle.base.specs.Keyed.{text_cmp}
use Rattle.dbc_words.specs.Limits.{spn_limit}
use Rattle.office_types.specs.declared.book.SpnBlock.{SpnBlock}

-- the key by which the blocks are in order
abbrev pub by_net : SpnBlock → SpnBlock → Ordering
by_net = then_cmp (on (λ b. b.net) text_cmp) (on (λ b. b.first) nat_cmp)

-- a number that a signal may have: 0 says that it has none
abbrev pub is_spn_number : ℕ → Bool
is_spn_number n = nat_le 1 n && nat_le n spn_limit

abbrev pub are_spns : List ℕ → Bool
are_spns numbers = list_all is_spn_number numbers

-- each number once, ascending
pub record AreUsed (numbers : List ℕ) : Type 0 where
  pub rising : IsStrictlyIncreasing numbers
  pub numbers_are : IsTrue (are_spns numbers)
