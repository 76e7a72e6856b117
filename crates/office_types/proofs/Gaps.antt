-- The least free number of a block, found from one number of the form to the next.
use Rattle.std.proofs.Common.{◌≡◌, ℕ, ◌+◌, ◌<◌, ◌≤◌, inl, inr, Bool, true, false, ◌&&◌, ◌||◌, List, [], ◌∷◌, length}
use Rattle.std.proofs.Common.{get_or, Option, Some, refl, sym, ap, subst, ◌∙◌, arith}
use Rattle.std.specs.Prelude.{nat_le}
use Rattle.std.specs.List.Sorted.{IsStrictlyIncreasing}
use Rattle.std.proofs.lemmas.Bool.{cases_lt, cases_order, false≢true, not-true}
use Rattle.office_types.specs.declared.free.NumberForm.{NumberForm}
use Rattle.office_types.specs.declared.block.Block.{Block}
use Rattle.office_types.specs.Free.{has_form, is_taken, is_free, IsLeastFree, SplitsAt}
use Rattle.office_types.specs.Least.{IsLeastOf}
use Rattle.office_types.proofs.Least.{both_true, in_limits, from_limits}
use Rattle.office_types.proofs.Split.{weakly, is_taken-there, is_taken-nowhere}

-- the answer of a search from a number up to the end of a block
abbrev pub IsNextUntil : NumberForm → ℕ → ℕ → Option ℕ → Type 0
IsNextUntil form from last = IsLeastOf (λ n. (nat_le from n && nat_le n last) && has_form form n)

-- the number is in the block and has the form
pub record IsWanted (block : Block) (form : NumberForm) (n : ℕ) : Type 0 where
  pub above : block.first ≤ n
  pub below : n ≤ block.last
  pub formed : has_form form n ≡ true

or_nothing : (a : Bool) → (a || false) ≡ a
or_nothing true = refl
or_nothing false = refl

pub free_parts : (taken : List ℕ) (block : Block) (form : NumberForm) (n : ℕ) → is_free taken (block ∷ []) form n ≡ true
    → IsWanted block form n × (is_taken n taken ≡ false)
free_parts taken block form n t =
    let (there, rest) = both_true _ _ t in
    let (above, below) = in_limits block.first block.last n (sym (or_nothing _) ∙ there) in
    let (formed, free) = both_true _ _ rest in
    (record { above = above; below = below; formed = formed }, not-true _ free)

pub free_from_parts : (taken : List ℕ) (block : Block) (form : NumberForm) (n : ℕ) → IsWanted block form n
    → is_taken n taken ≡ false → is_free taken (block ∷ []) form n ≡ true
free_from_parts taken block form n wanted free =
    rw (from_limits block.first block.last n wanted.above wanted.below, wanted.formed, free) refl

wanted_next : (block : Block) (form : NumberForm) (from n : ℕ) → block.first ≤ from
    → ((nat_le from n && nat_le n block.last) && has_form form n) ≡ true → IsWanted block form n × (from ≤ n)
wanted_next block form from n later t =
    let (limits, formed) = both_true _ _ t in
    let (above, below) = in_limits from block.last n limits in
    (record { above = omega arith; below = below; formed = formed }, above)

next_wanted : (block : Block) (form : NumberForm) (from n : ℕ) → from ≤ n → IsWanted block form n
    → ((nat_le from n && nat_le n block.last) && has_form form n) ≡ true
next_wanted block form from n above wanted = rw (from_limits from block.last n above wanted.below, wanted.formed) refl

-- the next number to be compared with the taken ones, of which the first `index` are below it
pub record IsCandidate (taken : List ℕ) (block : Block) (form : NumberForm) (index number : ℕ) : Type 0 where
  pub wanted : IsWanted block form number
  pub none : (m : ℕ) → m < number → is_free taken (block ∷ []) form m ≡ true → ⊥
  pub lower : (k : ℕ) → k < index → get_or taken k 0 < number

-- the number is free where the next taken one is above it, or there is none
pub found_candidate : (taken : List ℕ) (block : Block) (form : NumberForm) (index number : ℕ)
    → IsStrictlyIncreasing taken → index ≤ length taken → (index < length taken → number < get_or taken index 0)
    → IsCandidate taken block form index number → IsLeastFree taken (block ∷ []) form (Some number)
found_candidate taken block form index number rising within next candidate =
    let split : SplitsAt taken index number = record {
      within = within;
      lower = candidate.lower;
      upper = λ k later below.
          let first : index < length taken = omega arith in
          let above = next first in
          let rest = weakly taken rising index k later below in
          omega arith;
    } in
    let free = is_taken-nowhere taken index number rising split (λ first same. let above = next first in omega arith) in (
      free_from_parts taken block form number candidate.wanted free,
      λ m t. elim (cases_lt m number) [ inl before ↦ absurd (candidate.none m before t) | inr after ↦ after ],
    )

-- past a taken number that is below it
pub skip_taken : (taken : List ℕ) (block : Block) (form : NumberForm) (index number : ℕ) → get_or taken index 0 < number
    → IsCandidate taken block form index number → IsCandidate taken block form (index + 1) number
skip_taken taken block form index number less candidate = record {
  wanted = candidate.wanted;
  none = candidate.none;
  lower = λ k below. elim (cases_lt k index) [
    | inl before ↦ candidate.lower k before
    | inr last ↦ let same : index ≡ k =
        omega arith in subst (λ j. get_or taken j 0 < number) same less
  ];
}

none_before_next : (taken : List ℕ) (block : Block) (form : NumberForm) (index number m : ℕ) → index < length taken
    → get_or taken index 0 ≡ number → IsCandidate taken block form index number
    → is_free taken (block ∷ []) form m ≡ true → ((nat_le (number + 1) m && nat_le m block.last) && has_form form m)
    ≡ true
none_before_next taken block form index number m within at candidate free = elim (cases_order m number) [
  | inl same ↦
      let (_, untaken) = free_parts taken block form m free in
      absurd (false≢true (sym untaken ∙ is_taken-there taken index m within (at ∙ sym same)))
  | inr (inl before) ↦ absurd (candidate.none m before free)
  | inr (inr after) ↦ let (wanted, _) = free_parts taken block form m free in
      next_wanted block form (number + 1) m (omega arith) wanted
]

pub next_candidate : (taken : List ℕ) (block : Block) (form : NumberForm) (index number next : ℕ) → index < length taken
    → get_or taken index 0 ≡ number → IsCandidate taken block form index number
    → IsNextUntil form (number + 1) block.last (Some next) → IsCandidate taken block form (index + 1) next
next_candidate taken block form index number next within at candidate (is, least) =
    let first = candidate.wanted.above in
    let (wanted, above) = wanted_next block form (number + 1) next (omega arith) is in
    record {
      wanted = wanted;
      none = λ m before free. let after =
          least m (none_before_next taken block form index number m within at candidate free) in omega arith;
      lower = λ k below. elim (cases_lt k index) [
        | inl earlier ↦ let less = candidate.lower k earlier in omega arith
        | inr last ↦ let same : index ≡ k = omega arith in let here = ap (λ j. get_or taken j 0) same in omega arith
      ];
    }
