-- What a command that is carried out leaves of its network and of the book.
use Rattle.office_law.proofs.Common.{◌≡◌, ◌∙◌, ℕ, List, [], ◌∷◌, sym, subst, All, nat_cmp, All-cons, All-nil, Signal}
use Rattle.office_law.proofs.Common.{by_net, IsPlainName, live_messages, SpnBlock, SpnBook, LiveMessage, Net}
use Rattle.office_law.proofs.Common.{AreEntered, IsBook, IsEntered, IsNet, put_all, with_message, Entries, no_entries}
use Rattle.office_law.proofs.Common.{entered, Outcome, with_signals}
use Rattle.office_law.proofs.KeptBook.{IsBook-granted, IsBook-used}
use Rattle.office_law.proofs.KeptEntered.{IsEntered-changed, IsEntered-silent}
use Rattle.office_law.proofs.KeptMessages.{IsNet-changed, IsNet-joined}
use Rattle.office_law.proofs.NoTestHolds.{Leaves}
use Rattle.office_law.proofs.ChangesByTests.{CanAdd, CanChange, CanGrantSpns}

-- What a command leaves of its network and of the book.
pub record IsWellLeft (name : List ℕ) (book : SpnBook) (n : Net) (e : Entries) : Type 0 where
  pub net : IsNet n
  pub named : n.name ≡ name
  pub book_is : IsBook (entered book e)
  pub numbers : IsEntered (entered book e).used n
  pub home : All (λ b. b.net ≡ name) e.blocks

-- the same of an equal network and equal entries
left_at : (name : List ℕ) (book : SpnBook) (n m : Net) (e f : Entries) → n ≡ m → e ≡ f → IsWellLeft name book m f
    → IsWellLeft name book n e
left_at name book n m e f same entries h =
    subst (λ v. IsWellLeft name book v e) (sym same) (subst (λ v. IsWellLeft name book m v) (sym entries) h)

-- nothing enters the book
pub quiet : (name : List ℕ) (book : SpnBook) (n : Net) → IsNet n → n.name ≡ name → IsBook book → IsEntered book.used n
    → IsWellLeft name book n no_entries
quiet name book n h named b numbers =
    record { net = h; named = named; book_is = b; numbers = numbers; home = All-nil (λ b. b.net ≡ name) }

same_numbers : (used : List ℕ) (net n : Net) → net.live ≡ n.live → net.releases ≡ n.releases → IsEntered used net
    → IsEntered used n
same_numbers used net n live releases h = record {
  live = subst (λ l. AreEntered used (live_messages l)) live h.live;
  released = subst (λ r. All (λ s. AreEntered used s.messages) r) releases h.released;
}

-- the office is as every office is, the command finds this network in it, and the command's fields are in range
pub record Allowed (team name : List ℕ) (book : SpnBook) (net : Net) (inside : Type 0) : Type 0 where
  pub net_is : IsNet net
  pub named : net.name ≡ name
  pub numbers : IsEntered book.used net
  pub book_is : IsBook book
  pub team_is : IsPlainName team
  pub name_is : IsPlainName name
  pub fields : inside

-- where that is so, what the command leaves is so too
abbrev pub Goes : (team name : List ℕ) → SpnBook → Net → Type 0 → Outcome → Type 0
Goes team name book net inside = Leaves (λ r n e. Allowed team name book net inside → IsWellLeft name book n e)

-- Ways in which a command changes its network.

module _ (team name : List ℕ) (book : SpnBook) (net : Net) (inside : Type 0) where
  abbrev Ok : Type 0
  Ok = Allowed team name book net inside

  pub grants_spns : (b : SpnBlock) → (Ok → CanGrantSpns book b) → b.net ≡ name → Ok
      → IsWellLeft name book net (record no_entries { blocks = b ∷ [] })
  grants_spns b can home ok = record {
    net = ok.net_is;
    named = ok.named;
    book_is = IsBook-granted book b ok.book_is (can ok);
    numbers = ok.numbers;
    home = All-cons (λ o. o.net ≡ name) b [] home (All-nil (λ o. o.net ≡ name));
  }

  -- the live messages and the releases stay as they are
  pub keeps_live : (n : Net) → (Ok → IsNet n) → n.name ≡ net.name → net.live ≡ n.live → net.releases ≡ n.releases → Ok
      → IsWellLeft name book n no_entries
  keeps_live n is same live releases ok =
      quiet name book n (is ok) (same ∙ ok.named) ok.book_is (same_numbers book.used net n live releases ok.numbers)

  pub adds : (m : LiveMessage) → (Ok → CanAdd net m) → Ok → IsWellLeft name book (with_message net m) no_entries
  adds m can ok =
      quiet name book (with_message net m) (IsNet-joined net m ok.net_is (can ok).joins (can ok).few) ok.named
      ok.book_is (IsEntered-silent book.used net m ok.numbers (can ok).silent)

  pub changes : (e : Entries) (m : LiveMessage) (signals : List Signal) → (Ok → CanChange net e m signals)
      → e.blocks ≡ [] → Ok → IsWellLeft name book (with_message net (with_signals m signals)) e
  changes e m signals can none ok = record {
    net = IsNet-changed net e m signals ok.net_is (can ok);
    named = ok.named;
    book_is = subst (λ bs. IsBook
        (record { blocks = put_all by_net bs book.blocks; used = put_all nat_cmp e.numbers book.used })) (sym none)
        (IsBook-used book e.numbers ok.book_is (can ok).numbers);
    numbers = IsEntered-changed book.used net e m signals ok.numbers (can ok);
    home = subst (All (λ b. b.net ≡ name)) (sym none) (All-nil (λ b. b.net ≡ name));
  }
