-- How a target matches a route, part by part.
use Rattle.std.proofs.Common.{◌≡◌, ◌-◌, ℕ, zero, suc, List, [], ◌∷◌, ◌++◌, length, drop, Option, Some, None, Bool, true}
use Rattle.std.proofs.Common.{false, ◌==◌, ◌||◌, ◌&&◌, refl, ap, arith, length-append, cond, ltb, nat_eq}
use Rattle.std.specs.Option.{option_map}
use Rattle.std.specs.List.{list_all}
use Rattle.std.proofs.Math.Seq.{drop-append_seam}
use Rattle.std.proofs.lemmas.List.{drop_all}
use Rattle.std.specs.Cmp.Lexicographic.{pointwise}
use Rattle.std.proofs.lemmas.Bool.{and_parts}
use Rattle.std.proofs.lemmas.Bool.Decides.{nat_tests}
use Rattle.matchit.specs.Rows.{RowsOf, param_token}
use Rattle.matchit.specs.Seek.{cuts, first, has_slash, longest_from, or_else, own, param_step, seek}
use Rattle.matchit.specs.Seek.{segment, step, with_suffix}
use Rattle.desk_head.proofs.TargetParts.{is_part_byte}

-- ---- a part and the slash after it

-- visible bytes other than a slash
abbrev AreOfPart : List ℕ → Type 0
AreOfPart bytes = list_all is_part_byte bytes ≡ true

no_slash : (b : ℕ) → is_part_byte b ≡ true → (b == 47) ≡ false
no_slash b h = grind (arith, nat_tests, h)

segment_before : (bytes rest : List ℕ) → AreOfPart bytes → segment (bytes ++ (47 ∷ rest)) ≡ bytes ++ (47 ∷ [])
segment_before [] rest h = refl
segment_before (b ∷ bytes) rest h =
    let parts = and_parts (is_part_byte b) (list_all is_part_byte bytes) h in
    rw (no_slash b parts.0) (ap (λ l. b ∷ l) (segment_before bytes rest parts.1))

segment_alone : (bytes : List ℕ) → AreOfPart bytes → segment bytes ≡ bytes
segment_alone [] h = refl
segment_alone (b ∷ bytes) h =
    let parts = and_parts (is_part_byte b) (list_all is_part_byte bytes) h in
    rw (no_slash b parts.0) (ap (λ l. b ∷ l) (segment_alone bytes parts.1))

has_none : (bytes : List ℕ) → AreOfPart bytes → has_slash bytes ≡ false
has_none [] h = refl
has_none (b ∷ bytes) h =
    let parts = and_parts (is_part_byte b) (list_all is_part_byte bytes) h in
    rw (no_slash b parts.0) (has_none bytes parts.1)

one_less : (n : ℕ) → suc n - 1 ≡ n
one_less n = omega arith

-- a part ends with the slash after it
cut_off : (b : ℕ) (bytes : List ℕ) → cuts (b ∷ (bytes ++ (47 ∷ []))) (47 ∷ []) ≡ true
cut_off b bytes =
    let size : length (b ∷ (bytes ++ (47 ∷ []))) ≡ suc (suc (length bytes)) =
    omega (arith, length-append bytes (47 ∷ [])) in
    let there : drop (length bytes) (bytes ++ (47 ∷ [])) ≡ 47 ∷ [] = drop-append_seam bytes (47 ∷ []) in
    let long : ltb 1 (suc (suc (length bytes))) ≡ true = grind (arith, nat_tests) in
    rw (size, long, one_less (suc (length bytes)), there) refl

unlike : (b : ℕ) → is_part_byte b ≡ true → nat_eq 47 b ≡ false
unlike b h = grind (arith, nat_tests, h)

ends_otherwise : (n : ℕ) (bytes : List ℕ) → AreOfPart bytes → pointwise nat_eq (47 ∷ []) (drop n bytes) ≡ false
ends_otherwise zero [] h = refl
ends_otherwise (suc n) [] h = refl
ends_otherwise zero (b ∷ bytes) h =
    rw (unlike b (and_parts (is_part_byte b) (list_all is_part_byte bytes) h).0) refl
ends_otherwise (suc n) (b ∷ bytes) h =
    ends_otherwise n bytes (and_parts (is_part_byte b) (list_all is_part_byte bytes) h).1

and_false : (a : Bool) → (a && false) ≡ false
and_false true = refl
and_false false = refl

not_cut : (bytes : List ℕ) → AreOfPart bytes → cuts bytes (47 ∷ []) ≡ false
not_cut bytes h = rw (ends_otherwise (length bytes - 1) bytes h) (and_false (ltb 1 (length bytes)))

-- ---- rows

-- nothing or a slash
abbrev is_end : List ℕ → Bool
is_end [] = true
is_end (b ∷ rest) = b == 47

abbrev is_slash : List ℕ → Bool
is_slash [] = false
is_slash (b ∷ rest) = b == 47

-- nothing or a parameter
abbrev is_parameter : List ℕ → Bool
is_parameter [] = true
is_parameter (b ∷ rest) = b == param_token

is_slash_byte : (x : ℕ) → (x == 47) ≡ true → x ≡ 47
is_slash_byte x h = grind (arith, nat_tests, h)

module _ {K : Type 0} where
  -- the rows that go on with these bytes, with the bytes gone
  abbrev pub steps : List ℕ → RowsOf K → RowsOf K
  steps [] rs = rs
  steps (b ∷ bytes) rs = steps bytes (step b rs)

  -- a part is over in each row, and in some a slash follows
  abbrev pub all_end : RowsOf K → Bool
  all_end [] = true
  all_end ((t, key) ∷ rs) = is_end t && all_end rs

  abbrev pub some_slash : RowsOf K → Bool
  some_slash [] = false
  some_slash ((t, key) ∷ rs) = is_slash t || some_slash rs

  abbrev pub all_parameters : RowsOf K → Bool
  all_parameters [] = true
  all_parameters ((t, key) ∷ rs) = is_parameter t && all_parameters rs

  no_byte : (b : ℕ) → is_part_byte b ≡ true → (rs : RowsOf K) → all_parameters rs ≡ true → step b rs ≡ []
  no_byte b h [] all = refl
  no_byte b h (([], key) ∷ rs) all = no_byte b h rs all
  no_byte b h ((x ∷ t, key) ∷ rs) all =
      let parts = and_parts (x == param_token) (all_parameters rs) all in
      let other : (x == b) ≡ false = grind (arith, nat_tests, h, parts.0) in
      rw other (no_byte b h rs parts.1)

  longest_slash : (seg : List ℕ) (rs : RowsOf K) → all_end rs ≡ true → longest_from seg (47 ∷ []) rs ≡ 47 ∷ []
  longest_slash seg [] all = refl
  longest_slash seg (([], key) ∷ rs) all = longest_slash seg rs all
  longest_slash seg ((x ∷ t, key) ∷ rs) all =
      let parts = and_parts (x == 47) (all_end rs) all in
      rw parts.0 (longest_slash seg rs parts.1)

  longest_before : (seg : List ℕ) (rs : RowsOf K) → cuts seg (47 ∷ []) ≡ true → all_end rs ≡ true
      → some_slash rs ≡ true → longest_from seg [] rs ≡ 47 ∷ []
  longest_before seg [] cut all some = cc
  longest_before seg (([], key) ∷ rs) cut all some = longest_before seg rs cut all some
  longest_before seg ((x ∷ t, key) ∷ rs) cut all some =
      let parts = and_parts (x == 47) (all_end rs) all in
      rw (parts.0, is_slash_byte x parts.0, cut) (longest_slash seg rs parts.1)

  longest_alone : (seg : List ℕ) (rs : RowsOf K) → cuts seg (47 ∷ []) ≡ false → all_end rs ≡ true
      → longest_from seg [] rs ≡ []
  longest_alone seg [] cut all = refl
  longest_alone seg (([], key) ∷ rs) cut all = longest_alone seg rs cut all
  longest_alone seg ((x ∷ t, key) ∷ rs) cut all =
      let parts = and_parts (x == 47) (all_end rs) all in
      rw (parts.0, is_slash_byte x parts.0, cut) (longest_alone seg rs cut parts.1)

  -- how far a parameter goes that a slash follows
  step_before : (b : ℕ) (bytes rest : List ℕ) (rs : RowsOf K) → AreOfPart (b ∷ bytes) → all_end rs ≡ true
      → some_slash rs ≡ true
      → param_step rs (b ∷ (bytes ++ (47 ∷ rest))) ≡ (suc (length bytes), with_suffix (47 ∷ []) rs)
  unfolding param_step
  step_before b bytes rest rs h all some =
      let longest = longest_before (b ∷ (bytes ++ (47 ∷ []))) rs (cut_off b bytes) all some in
      let size : length (bytes ++ (47 ∷ [])) ≡ suc (length bytes) = omega (arith, length-append bytes (47 ∷ [])) in
      rw (segment_before (b ∷ bytes) rest h, longest, size, one_less (suc (length bytes))) refl

  -- and one that is the end of the target
  step_alone : (bytes : List ℕ) (rs : RowsOf K) → AreOfPart bytes → all_end rs ≡ true
      → param_step rs bytes ≡ (length bytes, rs)
  unfolding param_step
  step_alone bytes rs h all =
      rw (segment_alone bytes h, longest_alone bytes rs (not_cut bytes h) all, has_none bytes h) refl

  -- ---- the route of a target

  step_nothing : (path : List ℕ) → (param_step {K = K} [] path).1 ≡ []
  unfolding param_step
  step_nothing path =
      elim (has_slash path) as (λ v. (cond {A = ℕ × RowsOf K} v (0, []) (length path, [])).1 ≡ []) [
        | true ↦ refl
        | false ↦ refl
      ]

  seek_nothing : (k : ℕ) (path : List ℕ) → seek {K = K} k [] path ≡ None
  unfolding seek
  seek_nothing k [] = refl
  seek_nothing (suc k) (b ∷ path) = seek_nothing k path
  seek_nothing zero (b ∷ path) =
      simp (
        seek_nothing 0 path,
        step_nothing (b ∷ path),
        seek_nothing (((param_step {K = K} [] (b ∷ path)).0) - 1) path,
      )

  seek_after : (k : ℕ) (rs : RowsOf K) (path : List ℕ) → seek k rs path ≡ seek 0 rs (drop k path)
  unfolding seek
  seek_after zero rs path = refl
  seek_after (suc k) rs [] = refl
  seek_after (suc k) rs (b ∷ path) = seek_after k rs path

  module _ {V : Type 0} (f : K → V) (v : V) where
    -- the path matches a route of the rows that has this value
    abbrev pub Finds : RowsOf K → List ℕ → Type 0
    Finds rs path = option_map f (first rs path) ≡ Some v

    the_first : (o p : Option K) → option_map f o ≡ Some v → option_map f (or_else o p) ≡ Some v
    the_first None p h = cc
    the_first (Some k) p h = h

    -- bytes as the routes have them, and then more
    pub past_bytes : (bytes path : List ℕ) (rs : RowsOf K) → Finds (steps bytes rs) path → Finds rs (bytes ++ path)
    unfolding seek
    past_bytes [] path rs h = h
    past_bytes (b ∷ bytes) path rs h =
        the_first (seek 0 (step b rs) (bytes ++ path)) _ (past_bytes bytes path (step b rs) h)

    -- and then the end
    pub at_bytes : (bytes : List ℕ) (rs : RowsOf K) → option_map f (own (steps bytes rs)) ≡ Some v → Finds rs bytes
    unfolding seek
    at_bytes [] rs h = h
    at_bytes (b ∷ bytes) rs h = the_first (seek 0 (step b rs) bytes) _ (at_bytes bytes (step b rs) h)

    -- a parameter, and the slash after it
    pub past_part : (b : ℕ) (bytes rest : List ℕ) (rs : RowsOf K) → AreOfPart (b ∷ bytes)
        → all_parameters rs ≡ true → all_end (step param_token rs) ≡ true → some_slash (step param_token rs) ≡ true
        → Finds (with_suffix (47 ∷ []) (step param_token rs)) (47 ∷ rest) → Finds rs (b ∷ (bytes ++ (47 ∷ rest)))
    unfolding seek
    past_part b bytes rest rs h all ends some found =
        let path = bytes ++ (47 ∷ rest) in
        let after = with_suffix (47 ∷ []) (step param_token rs) in
        let left : drop (length bytes) path ≡ 47 ∷ rest = drop-append_seam bytes (47 ∷ rest) in
        let there : option_map f (seek (length bytes) after path) ≡ Some v =
        rw (seek_after (length bytes) after path, left) found in
        rw (
          no_byte b (and_parts (is_part_byte b) (list_all is_part_byte bytes) h).0 rs all,
          seek_nothing 0 path,
          step_before b bytes rest (step param_token rs) h ends some,
          one_less (length bytes),
        )
        (the_first (seek (length bytes) after path) _ there)

    -- a parameter, and the end
    pub at_part : (b : ℕ) (bytes : List ℕ) (rs : RowsOf K) → AreOfPart (b ∷ bytes)
        → all_parameters rs ≡ true → all_end (step param_token rs) ≡ true
        → option_map f (own (step param_token rs)) ≡ Some v → Finds rs (b ∷ bytes)
    unfolding seek
    at_part b bytes rs h all ends found =
        let after = step param_token rs in
        let left : drop (length bytes) bytes ≡ [] = drop_all (length bytes) bytes (omega arith) in
        let there : option_map f (seek (length bytes) after bytes) ≡ Some v =
        rw (seek_after (length bytes) after bytes, left) found in
        rw (
          no_byte b (and_parts (is_part_byte b) (list_all is_part_byte bytes) h).0 rs all,
          seek_nothing 0 bytes,
          step_alone (b ∷ bytes) after h ends,
          one_less (length bytes),
        )
        (the_first (seek (length bytes) after bytes) _ there)
