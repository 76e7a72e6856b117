-- What the book keeps, and that it has the suspect parameter numbers of live and released signals.
use Rattle.office_law.proofs.Common.{◌≡◌, ◌≤◌, ◌⊎◌, ◌∙◌, ℕ, true, false, List, [], ◌∷◌, Contains, inl, inr, sym, subst}
use Rattle.office_law.proofs.Common.{arith, All, nat_cmp, Equal, nat_tests, nat_cmp_total, nat_list_cmp_total, on_total}
use Rattle.office_law.proofs.Common.{ranked, then_total, All-contains, All-head, All-tail, All-weaker, put, All-put}
use Rattle.office_law.proofs.Common.{AllPairs-put, IsStrictlySortedBy-put, spn_limit, Message, have_common-comm}
use Rattle.office_law.proofs.Common.{IsRange, have_common, by_net, IsPlainName, SpnBlock, SpnBook, spn_range}
use Rattle.office_law.proofs.Common.{AreEntered, IsBook, put_all}
use Rattle.office_types.proofs.Used.{AreUsed-put, each_true}
use Rattle.office_types.specs.Book.{AreUsed, is_spn_number}
use Rattle.office_law.proofs.Lists.{All-from_none, Contains-cases, Contains-none, Contains-put, Contains-put_other}
use Rattle.office_law.proofs.ChangesByTests.{CanGrantSpns, IsSpn}

-- Used numbers.

pub stays_used : (n m : ℕ) (used : List ℕ) → Contains used m → Contains (put nat_cmp n used) m
stays_used n m used c = elim (Contains-put_other nat_cmp n m used c) [
  | inl there ↦ there
  | inr equal ↦ (let same : n ≡ m = ranked n m Equal (sym equal) in
      subst (Contains (put nat_cmp n used)) same (Contains-put nat_cmp n used))
]

-- a number that was used still is
pub still_used : (ns used : List ℕ) (m : ℕ) → Contains used m → Contains (put_all nat_cmp ns used) m
still_used [] used m c = c
still_used (n ∷ ns) used m c = still_used ns (put nat_cmp n used) m (stays_used n m used c)

-- what is entered is used
pub now_used : (ns used : List ℕ) (m : ℕ) → Contains ns m → Contains (put_all nat_cmp ns used) m
now_used [] used m c = absurd (Contains-none m c)
now_used (n ∷ ns) used m c = elim (Contains-cases n m ns c) [
  | inl same ↦ still_used ns (put nat_cmp n used) m
      (subst (Contains (put nat_cmp n used)) (sym same) (Contains-put nat_cmp n used))
  | inr later ↦ now_used ns (put nat_cmp n used) m later
]

is_number : (n : ℕ) → IsSpn n → is_spn_number n ≡ true
is_number n h = let low = h.0 in let high = h.1 in grind (arith, nat_tests)

pub used_put : (n : ℕ) (used : List ℕ) → IsSpn n → AreUsed used → AreUsed (put nat_cmp n used)
used_put n used h k = AreUsed-put n used (is_number n h) k

pub used_all : (ns used : List ℕ) → All IsSpn ns → AreUsed used → AreUsed (put_all nat_cmp ns used)
used_all [] used h k = k
used_all (n ∷ ns) used h k =
    used_all ns (put nat_cmp n used) (All-tail IsSpn n ns h) (used_put n used (All-head IsSpn n ns h) k)

-- a number of the book is one that a signal may have
pub IsSpn-used : (used : List ℕ) (n : ℕ) → AreUsed used → Contains used n → IsSpn n
IsSpn-used used n h c =
    let t = All-contains (λ m. is_spn_number m ≡ true) used n (each_true is_spn_number used h.numbers_are) c in
    let low : 1 ≤ n = grind (arith, nat_tests) in
    let high : n ≤ spn_limit = grind (arith, nat_tests) in
    (low, high)

-- Blocks.

pub IsBook-granted : (book : SpnBook) (b : SpnBlock) → IsBook book → CanGrantSpns book b
    → IsBook (record book { blocks = put by_net b book.blocks })
IsBook-granted book b h can = record {
  ranges = All-put (λ o. IsRange (spn_range o) × IsPlainName o.net × IsPlainName o.team) by_net b book.blocks
      (can.range, can.net, can.team) h.ranges;
  rising = IsStrictlySortedBy-put by_net
      (then_total (on_total (λ (o : SpnBlock). o.net) nat_list_cmp_total)
      (on_total (λ (o : SpnBlock). o.first) nat_cmp_total)) b book.blocks h.rising;
  apart = AllPairs-put (λ a o. have_common (spn_range a) (spn_range o) ≡ false)
      (λ a o e. have_common-comm (spn_range o) (spn_range a) ∙ e) by_net b book.blocks
      (All-weaker (λ o. have_common (spn_range o) (spn_range b) ≡ false)
      (λ o. have_common (spn_range b) (spn_range o) ≡ false)
      (λ o e. have_common-comm (spn_range b) (spn_range o) ∙ e)
      book.blocks (All-from_none (λ o. have_common (spn_range o) (spn_range b)) book.blocks can.free))
      h.apart;
  used = h.used;
}

pub IsBook-used : (book : SpnBook) (ns : List ℕ) → IsBook book → All IsSpn ns
    → IsBook (record book { used = put_all nat_cmp ns book.used })
IsBook-used book ns h numbers =
    record { ranges = h.ranges; rising = h.rising; apart = h.apart; used = used_all ns book.used numbers h.used }

-- Numbers of messages.

-- what is entered stays so when the book gets more
pub entered_more : (used more : List ℕ) (ms : List Message) → ((n : ℕ) → Contains used n → Contains more n)
    → AreEntered used ms → AreEntered more ms
entered_more used more ms grows h =
    All-weaker (λ m. All (λ s. (s.spn ≡ 0) ⊎ Contains used s.spn) m.signals)
    (λ m. All (λ s. (s.spn ≡ 0) ⊎ Contains more s.spn) m.signals)
    (λ m k. All-weaker (λ s. (s.spn ≡ 0) ⊎ Contains used s.spn) (λ s. (s.spn ≡ 0) ⊎ Contains more s.spn)
    (λ s w. elim w [ inl none ↦ inl none | inr there ↦ inr (grows s.spn there) ]) m.signals k) ms h
