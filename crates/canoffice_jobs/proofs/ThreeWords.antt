-- The words of `help --help`, as they are found.
use Rattle.canoffice_jobs.proofs.Common.{◌≡◌, length, map, List, [], ◌∷◌, Some, None, ℕ, refl, Bor}
use Rattle.std.proofs.Common.{◌≢◌, slice_index_or}
use Rattle.std.specs.Prelude.{if◌then◌else◌}
use Rattle.canoffice_jobs.specs.Meant.{is_help_of_help, name_before_help}

abbrev pub word_at : List (Bor (List ℕ)) → ℕ → List ℕ
word_at words i = (slice_index_or words i record { ref_ptr = (0, 0); now = [] }).now

-- other words than three have no name before `help --help`
pub none_of_others : (words : List (Bor (List ℕ))) → length words ≢ 3
    → name_before_help (map (λ s. s.now) words) ≡ None
unfolding name_before_help
none_of_others (a ∷ b ∷ c ∷ []) other = absurd (other refl)
none_of_others it other = refl

-- of three words the last two decide
pub by_three : (words : List (Bor (List ℕ))) → length words ≡ 3 → name_before_help (map (λ s. s.now) words)
    ≡ if is_help_of_help (word_at words 1) (word_at words 2) then Some (word_at words 0) else None
unfolding name_before_help
by_three (a ∷ b ∷ c ∷ []) three = refl
by_three it three = cc
