-- What is proved of each action.
use Rattle.office_law.proofs.Common.{◌≡◌, ℕ, Bool, true, false, List, Option, Some, None, first_refusal, IsAction}
use Rattle.office_law.proofs.Common.{SpnBook, Action, Act, Refusal, Net, acted, action_tests, releases_read, Refusing}
use Rattle.office_types.specs.declared.command.Action.TheVariants as act
use Rattle.office_law.specs.Deciding.{IsDecidedBy}
use Rattle.office_law.proofs.OutcomesAlike.{Depends}
use Rattle.office_law.proofs.NameAndReleasesStay.{left}
use Rattle.office_law.proofs.NoTestHolds.{Leaves}
use Rattle.office_law.proofs.Singles.{AreSingle}
use Rattle.office_law.proofs.WhatCommandsLeave.{Goes}

-- the action opens its network
abbrev pub opens : Action → Bool
opens (act.OpenNet c) = true
opens a = false

pub record ActionLaws (team name : List ℕ) (a : Action) : Type 0 where
  -- where there is no network it is refused, whatever the book, unless it opens one
  pub nowhere : opens a ≡ false → (r : Refusal) × ((book : SpnBook) → acted team name None book a ≡ Refusing r)
  -- its tests decide, and none of them is a bundle's
  pub decided : (book : SpnBook) (net : Option Net)
      → IsDecidedBy (first_refusal (action_tests team name net book a)) (acted team name net book a)
  pub single : (book : SpnBook) (net : Option Net) → AreSingle (action_tests team name net book a)
  -- it leaves the name and the releases of its network so
  pub left : (book : SpnBook) (net : Option Net) → Leaves (left name (Act a) net) (acted team name net book a)
  -- in an office as every office is it leaves its network and the book as they have to be
  pub kept : (book : SpnBook) (net : Net) → Goes team name book net (IsAction a) (acted team name (Some net) book a)
  -- it depends on no more of the releases than is said
  pub releases : (book : SpnBook) → Depends (releases_read a) (λ net. acted team name (Some net) book a)
