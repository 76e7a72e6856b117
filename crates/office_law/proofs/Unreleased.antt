-- Only `release` and a bundle with it have a release among their changes.
use Rattle.office_law.proofs.Common.{◌≡◌, ◌∙◌, ◌+◌, ℕ, false, List, [], ◌∷◌, length, Option, Some, None, refl, sym, ap}
use Rattle.office_law.proofs.Common.{arith, list_any, Sheet, SpnBook, Change, AddSignal, RemoveSignal, SetSpn}
use Rattle.office_law.proofs.Common.{SetValues, AddRelease, LiveMessage, Net, NetAndBook, all_applied, applied}
use Rattle.office_law.proofs.Common.{at_message, changed_book, is_release, net_changed, live_named, with_message}
use Rattle.std.proofs.Common.{length-append}

-- how many releases are among changes
abbrev released : List Change → ℕ
released [] = 0
released (AddRelease s ∷ cs) = released cs + 1
released (c ∷ cs) = released cs

none_released : (cs : List Change) → released cs ≡ 0 → list_any is_release cs ≡ false
none_released [] none = refl
none_released (AddRelease s ∷ cs) none = absurd (omega (arith, none))
none_released (c ∷ cs) none = none_released cs none

-- the network with what becomes of the message that is found
abbrev pub with_found : (LiveMessage → LiveMessage) → Net → Option LiveMessage → Net
with_found f net found = elim found [ None ↦ net | Some m ↦ with_message net (f m) ]

found_keeps : (f : LiveMessage → LiveMessage) (net : Net) (found : Option LiveMessage)
    → (with_found f net found).releases ≡ net.releases
found_keeps f net None = refl
found_keeps f net (Some m) = refl

message_keeps : (message : List ℕ) (f : LiveMessage → LiveMessage) (net : Net)
    → (at_message message f net).releases ≡ net.releases
message_keeps message f net = found_keeps f net (live_named net.live message)

-- a network that is there stays there, with as many releases more
record IsAfter (name : List ℕ) (cs : List Change) (net : Net) (book : SpnBook) : Type 0 where
  after : Net
  is : (all_applied name cs (record { net = Some net; book = book })).net ≡ Some after
  more : length after.releases ≡ length net.releases + released cs

later : (name : List ℕ) (c : Change) (cs : List Change) (net : Net) (book : SpnBook)
    → (net_changed c net).releases ≡ net.releases → released (c ∷ cs) ≡ released cs
    → applied name c (record { net = Some net; book = book })
    ≡ record { net = Some (net_changed c net); book = changed_book c book }
    → IsAfter name cs (net_changed c net) (changed_book c book) → IsAfter name (c ∷ cs) net book
later name c cs net book kept none step rest = record {
  after = rest.after;
  is = ap (λ (e : NetAndBook). (all_applied name cs e).net) step ∙ rest.is;
  more = rest.more ∙ ap (λ (l : List Sheet). length l + released cs) kept
      ∙ ap (λ n. length net.releases + n) (sym none);
}

releases_after : (name : List ℕ) (cs : List Change) (net : Net) (book : SpnBook) → IsAfter name cs net book
releases_after name [] net book = record { after = net; is = refl; more = omega arith }
releases_after name (AddSignal message s ∷ cs) net book =
    later name (AddSignal message s) cs net book (message_keeps message _ net) refl refl
    (releases_after name cs (net_changed (AddSignal message s) net) book)
releases_after name (RemoveSignal path ∷ cs) net book =
    later name (RemoveSignal path) cs net book (message_keeps path.message _ net) refl refl
    (releases_after name cs (net_changed (RemoveSignal path) net) book)
releases_after name (SetSpn path n ∷ cs) net book =
    later name (SetSpn path n) cs net book (message_keeps path.message _ net) refl refl
    (releases_after name cs (net_changed (SetSpn path n) net) book)
releases_after name (SetValues path values ∷ cs) net book =
    later name (SetValues path values) cs net book (message_keeps path.message _ net) refl refl
    (releases_after name cs (net_changed (SetValues path values) net) book)
releases_after name (AddRelease s ∷ cs) net book =
    let rest = releases_after name cs (net_changed (AddRelease s) net) book in
    let one = length-append net.releases (s ∷ []) in
    let all = rest.more in
    record { after = rest.after; is = rest.is; more = omega (arith, one, all) }
releases_after name (c ∷ cs) net book =
    later name c cs net book refl refl refl (releases_after name cs (net_changed c net) (changed_book c book))

one_some : (a b : Net) → ◌≡◌ {A = Option Net} (Some a) (Some b) → a ≡ b
one_some a b e = cc

-- a decision after which the network has the releases that it had
module _ (name : List ℕ) (net : Net) (book : SpnBook) (cs : List Change) where
  pub kept_unreleased : (after : NetAndBook) (n : Net) → all_applied name cs (record { net = Some net; book = book })
      ≡ after → after.net ≡ Some n → length n.releases ≡ length net.releases
      → list_any is_release cs ≡ false
  kept_unreleased after n is there same =
      let found = releases_after name cs net book in
      let one : found.after ≡ n = one_some found.after n (sym found.is ∙ ap (λ (e : NetAndBook). e.net) is ∙ there) in
      let more = found.more in
      let alike : length found.after.releases ≡ length n.releases = ap (λ (m : Net). length m.releases) one in
      none_released cs (omega (arith, more, alike, same))
