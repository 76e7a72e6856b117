-- Lines, counted on.
use Rattle.dbc_keep.proofs.Common.{◌≡◌, ◌==◌, ◌≤◌, ℕ, ◌+◌, ◌-◌, List, ◌++◌, take, slice_range, ap, ◌∙◌, arith, take-add}
use Rattle.std.proofs.Common.{cond}
use Rattle.std.proofs.lemmas.List.Sums.{sum_by-append}
use Rattle.std.specs.List.{count_by}
use Rattle.dbc_advice.specs.Lines.{line_feed}
use Rattle.dbc_keep.specs.LeftOut.{line_at}

abbrev feeds : List ℕ → ℕ
feeds bytes = count_by (λ b. b == line_feed) bytes

parted : (text : List ℕ) (from at : ℕ) → from ≤ at → take at text ≡ take from text ++ slice_range text from at
parted text from at h =
    let whole : at ≡ from + (at - from) = omega (arith, h) in
    ap (λ n. take n text) whole ∙ take-add from (at - from) text

pub line_more : (text : List ℕ) (from at : ℕ) → from ≤ at
    → line_at text from + feeds (slice_range text from at) ≡ line_at text at
line_more text from at h =
    let all : feeds (take at text) ≡ feeds (take from text) + feeds (slice_range text from at) =
    ap feeds (parted text from at h)
    ∙ sum_by-append (λ b. cond (b == line_feed) 1 0) (take from text) (slice_range text from at) in
    omega (arith, all)
