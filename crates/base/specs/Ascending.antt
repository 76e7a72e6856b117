-- Indices in a list that is in ascending order of a number.
use Rattle.std.specs.Prelude.{◌≡◌, ◌≢◌, ◌<◌, ◌≤◌, ℕ, List, length, slice_index_or}

module _ {A : Type 0} (key : A → ℕ) where
  -- the thing at index i has the number k, and no other has
  pub record IsAt (xs : List A) (k i : ℕ) : Type 0 where
    pub within : i < length xs
    pub here : (d : A) → key (slice_index_or xs i d) ≡ k
    pub others : (j : ℕ) (d : A) → j < length xs → j ≢ i → key (slice_index_or xs j d) ≢ k

  -- the number k would be inserted at index i: smaller ones are before it, and greater ones from it on
  pub record IsGap (xs : List A) (k i : ℕ) : Type 0 where
    pub within : i ≤ length xs
    pub below : (j : ℕ) (d : A) → j < i → key (slice_index_or xs j d) < k
    pub above : (j : ℕ) (d : A) → i ≤ j → j < length xs → k < key (slice_index_or xs j d)
