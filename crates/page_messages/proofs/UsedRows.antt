-- The positions that signals have, one signal more.
use Rattle.page_messages.proofs.Common.{ℕ, ◌+◌, ◌<◌, ◌↔◌, ◌⊎◌, ◌∙◌, inl, inr, List, length, take, get_or, sym, IsTrue}
use Rattle.page_messages.proofs.Common.{list_any, is_bit, mask_end, Has, is_bit_decides, Signal}
use Rattle.std.proofs.lemmas.Bool.{or_cases, or_left, or_right}
use Rattle.std.proofs.lemmas.List.Folds.{list_any_more}
use Rattle.bitlayout.specs.Bits.{IsBit}
use Rattle.bitlayout.specs.declared.mask.Mask.{Mask}
use Rattle.page_messages.specs.Used.{has_position}

pub position_more : (old new : Mask) (signals : List Signal) (i q : ℕ) (d : Signal) → i < length signals → q < mask_end
    → Has new q ↔ (Has old q ⊎ ((q < mask_end) × IsBit (get_or signals i d).layout q))
    → Has old q ↔ IsTrue (has_position (take i signals) q)
    → Has new q ↔ IsTrue (has_position (take (i + 1) signals) q)
position_more old new signals i q d below within each before =
    let test = λ (s : Signal). is_bit s.layout q in
    let last = get_or signals i d in
    let decides = is_bit_decides last.layout q in
    let more = list_any_more test signals i d below in
    let first = list_any test (take i signals) in (
      λ has. elim (each.0 has) [
        | inl there ↦ more ∙ or_left first (test last) (before.0 there)
        | inr (_, bit) ↦ more ∙ or_right first (test last) (decides.1 bit)
      ],
      λ some. elim (or_cases first (test last) (sym more ∙ some)) [
        | inl there ↦ each.1 (inl (before.1 there))
        | inr bit ↦ each.1 (inr (within, decides.0 bit))
      ],
    )
