-- The layouts of a message that has one for each value of its multiplexor.
use Rattle.page_messages.proofs.Common.{◌≡◌, ◌==◌, ℕ, Bool, false, List, [], ◌∷◌, Option, Some, find, length, sym}
use Rattle.page_messages.proofs.Common.{subst, MatchBool, Message, Writing}
use Rattle.page_messages.specs.Layouts.{Adds, AreDrawn, AreLayouts, AreLayoutsBy, AreValueLayouts, AreValues}
use Rattle.page_messages.specs.Layouts.{is_multiplexor}
use Rattle.page_messages.specs.declared.shown.Shown.{Shown}

module _ (m : Message) (shown : List Shown) where
  by_values : (s : Shown) (values drawing : List ℕ) → (length values == 0) ≡ false
      → AreValueLayouts m shown s.signal.now.name values drawing → AreLayoutsBy m shown values (Some s) drawing
  by_values s [] drawing some are = absurd cc
  by_values s (v ∷ values) drawing some are = are

  pub drawn_by_values : (s : Shown) (values : List ℕ) (page new : Writing) → (m.length == 0) ≡ false
      → AreValues shown values → find is_multiplexor shown ≡ Some s → (length values == 0) ≡ false
      → Adds (AreValueLayouts m shown s.signal.now.name values) new page → Adds (AreLayouts m shown) new page
  drawn_by_values s values page new e are found some all =
      let by : AreLayoutsBy m shown values (find is_multiplexor shown) all.0 =
      subst (λ (f : Option Shown). AreLayoutsBy m shown values f all.0) (sym found) (by_values s values all.0 some all.1) in
      let is : AreDrawn m shown all.0 = record { values = values; are_values = are; are_layouts = by } in
      (all.0, subst (λ (b : Bool). MatchBool b (all.0 ≡ []) (AreDrawn m shown all.0)) (sym e) is, all.2)
