-- What is stated of each key if there is one entry for each, and empty ones are left out.
use Rattle.dbc_grammar.proofs.Common.{◌≡◌, ◌∙◌, Bool, true, false, cond, List, [], ◌∷◌, map, Option, None, Some, refl}
use Rattle.dbc_grammar.proofs.Common.{sym, ap, AllByRecursion}
use Rattle.std.proofs.Common.{filter, unwrap_or, if◌then◌else◌}
use Rattle.std.specs.List.{IsDistinct}
use Rattle.dbc_grammar.specs.Saying.{last_at}

-- An entry is a key and its value.
abbrev pub keys : {K V : Type 0} → List (K × V) → List K
keys {K} {V} entries = map (λ (e : K × V). e.0) entries

-- the entries whose values are kept
abbrev pub kept_entries : {K V : Type 0} → (V → Bool) → List (K × V) → List (K × V)
kept_entries {K} {V} keep entries = filter (λ (e : K × V). keep e.1) entries

-- what the last entry with the key k says, or else d
abbrev pub last_value : {K V : Type 0} → (K → K → Bool) → V → K → List (K × V) → V
last_value same d k entries = unwrap_or (last_at same k None entries) d

-- The test `keep` fails at the empty value d alone, which is what entries say that say nothing.
module _ {K V : Type 0} (same : K → K → Bool) (itself : (k : K) → same k k ≡ true)
    (flips : (j k : K) → same j k ≡ same k j)
    (keep : V → Bool) (d : V) (empty : (v : V) → keep v ≡ false → v ≡ d) where
  -- entries of other keys say nothing of k
  none_stated : (k : K) (o : Option V) (es : List (K × V)) → AllByRecursion (λ j. same k j ≡ false) (keys es)
      → last_at same k o (kept_entries keep es) ≡ o
  none_stated k o [] other = refl
  none_stated k o (e ∷ es) other = by (keep e.1) (none_stated k o es other.1)
    where
      by : (b : Bool) → last_at same k o (kept_entries keep es) ≡ o
          → last_at same k o (cond b (e ∷ kept_entries keep es) (kept_entries keep es)) ≡ o
      by false rest = rest
      by true rest = ap (λ t. last_at same k (if t then Some e.1 else o) (kept_entries keep es)) (flips e.0 k ∙ other.0)
          ∙ rest

  -- the first entry says its value of its key
  head_stated : (e : K × V) (es : List (K × V)) → AllByRecursion (λ k. same e.0 k ≡ false) (keys es)
      → last_value same d e.0 (kept_entries keep (e ∷ es)) ≡ e.1
  head_stated e es other = by (keep e.1) refl
    where
      by : (b : Bool) → keep e.1 ≡ b → last_value same d e.0 (cond b (e ∷ kept_entries keep es) (kept_entries keep es))
          ≡ e.1
      by true h =
          ap (λ t. unwrap_or (last_at same e.0 (if t then Some e.1 else None) (kept_entries keep es)) d) (itself e.0)
          ∙ ap (λ o. unwrap_or o d) (none_stated e.0 (Some e.1) es other)
      by false h = ap (λ o. unwrap_or o d) (none_stated e.0 None es other) ∙ sym (empty e.1 h)

  -- and nothing of other keys
  tail_stated : (e : K × V) (rest es : List (K × V)) → AllByRecursion (λ k. same e.0 k ≡ false) (keys es)
      → AllByRecursion (λ x. last_value same d x.0 (kept_entries keep rest) ≡ x.1) es
      → AllByRecursion (λ x. last_value same d x.0 (kept_entries keep (e ∷ rest)) ≡ x.1) es
  tail_stated e rest [] other all = tt
  tail_stated e rest (x ∷ es) other all = (by (keep e.1), tail_stated e rest es other.1 all.1)
    where
      by : (b : Bool) → last_value same d x.0 (cond b (e ∷ kept_entries keep rest) (kept_entries keep rest)) ≡ x.1
      by false = all.0
      by true = ap (λ t. unwrap_or (last_at same x.0 (if t then Some e.1 else None) (kept_entries keep rest)) d) other.0
          ∙ all.0

  -- the value of each entry is stated of its key
  pub each_stated : (entries : List (K × V)) → IsDistinct same (keys entries)
      → AllByRecursion (λ e. last_value same d e.0 (kept_entries keep entries) ≡ e.1) entries
  unfolding IsDistinct
  each_stated [] apart = tt
  each_stated (e ∷ es) apart = (head_stated e es apart.0, tail_stated e es es apart.0 (each_stated es apart.1))
