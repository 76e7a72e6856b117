-- If a use of an argument reports no fault, the rows after it have the values that the argument requires.
use Rattle.canoffice_jobs.proofs.Common.{◌≡◌, ◌∙◌, ◌<◌, ◌+◌, ◌&&◌, ◌||◌, ℕ, Bool, cond, true, false, not, refl, sym}
use Rattle.canoffice_jobs.proofs.Common.{subst, arith, List, [], ◌∷◌, ◌++◌, length, drop, Option, Some, None, is_some}
use Rattle.canoffice_jobs.proofs.Common.{slice_get, list_all, list_any, option_map_or, bytes_eq, bytes_eq-Decides}
use Rattle.canoffice_jobs.proofs.Common.{Kinds, or_else, settle_fault, Held, Outcome, Row, Rule, Text, arg_by_id, done}
use Rattle.canoffice_jobs.proofs.Common.{long_met, reading_by, settled, with_values, TooManyValues, Reading}
use Rattle.std.proofs.Common.{zero, suc, min, ltb-true, lt-ltb, length-append}
use Rattle.std.specs.Prelude.{nat_lt, encode_utf8}
use Rattle.std.specs.Str.{chars}
use Rattle.std.proofs.lemmas.List.Folds.{list_all-append}
use Rattle.clap.specs.Facts.{parser_of_value, unwrap_or_range}
use Rattle.clap.specs.Matches.{count_text}
use Rattle.clap.specs.Values.{refused_kind}
use Rattle.clap.specs.Kinds.{range_kinds, value_kinds}
use Rattle.clap.specs.Faults.{action_fault, bundle_step_fault, count_fault, flags_fault, long_fault, option_fault}
use Rattle.clap.specs.Faults.{react_fault, short_fault, use_fault, values_fault}
use Rattle.clap.specs.Takes.{value_passes}
use Rattle.clap.specs.Walk.{action_of, arg_by_short, at_row, attached_value, bundle_met, bundle_step, count_of, counted}
use Rattle.clap.specs.Walk.{flag_met, has_short, more_values, new_count, most_values, option_met, reacted, settled_rows}
use Rattle.clap.specs.Walk.{short_met, takes_values, used, used_as, used_by_id, values_or_missing, with_count, without}
use Rattle.clap.specs.declared.builder.action.ArgAction.{ArgAction}
use Rattle.clap.specs.declared.builder.action.ArgAction.TheVariants as action
use Rattle.clap.specs.declared.parser.matches.ValueSource.{ValueSource}
use Rattle.clap.specs.declared.parser.matches.ValueSource.TheVariants.{CommandLine}
use Rattle.canoffice_jobs.proofs.NoFault.{both_true, none_first, none_next, Among, found_among, all_among, any_among}

-- ---- what the values of an argument are

abbrev pub least : Rule → ℕ
least a = (unwrap_or_range a.range).start_inclusive

-- each argument of this id takes a value at least
abbrev pub wants_values : List Rule → Text → Bool
wants_values c id = list_all (λ a. not (bytes_eq a.id id) || nat_lt 0 (least a)) c

-- an argument of this id takes the value
abbrev pub is_taken : List Rule → Text → Text → Bool
is_taken c id v = list_any (λ a. bytes_eq a.id id && value_passes a v) c

-- there is a value, where one is wanted, and each passes
abbrev pub Fills : List Rule → Text → List Text → Type 0
Fills c id vs = (wants_values c id ≡ true → 0 < length vs) × (list_all (is_taken c id) vs ≡ true)

-- the typed getters read the values as an argument of this id says
abbrev pub IsReadBy : List Rule → Text → Reading → Type 0
IsReadBy c id how = (a : Rule) × Among a c × (a.id ≡ id) × (how ≡ reading_by a)

abbrev pub RowsFill : List Rule → List Row → Type 0
RowsFill c [] = Unit {0}
RowsFill c (r ∷ rs) = Fills c r.id r.values × IsReadBy c r.id r.reading × RowsFill c rs

fills_more : (c : List Rule) (id : Text) (xs ys : List Text) → Fills c id xs → Fills c id ys → Fills c id (xs ++ ys)
fills_more c id xs ys x y = (
  (λ wants. omega (arith, length-append xs ys, x.0 wants)),
  list_all-append (is_taken c id) xs ys ∙ both_true _ _ x.1 y.1,
)

rows_append : (c : List Rule) (xs ys : List Row) → RowsFill c xs → RowsFill c ys → RowsFill c (xs ++ ys)
rows_append c [] ys x y = y
rows_append c (r ∷ rs) ys x y = (x.0, x.1, rows_append c rs ys x.2 y)

at_row_fills : (c : List Rule) (id : Text) (change : Row → List Row) (missing rows : List Row)
    → ((r : Row) → bytes_eq r.id id ≡ true → Fills c r.id r.values → IsReadBy c r.id r.reading → RowsFill c (change r))
    → RowsFill c missing → RowsFill c rows
    → RowsFill c (at_row id change missing rows)
at_row_fills c id change missing [] step none h = none
at_row_fills c id change missing (r ∷ rs) step none h =
    go (bytes_eq r.id id) refl (at_row_fills c id change missing rs step none h.2)
  where
    go : (b : Bool) → bytes_eq r.id id ≡ b → RowsFill c (at_row id change missing rs)
        → RowsFill c (cond b (change r ++ rs) (r ∷ at_row id change missing rs))
    go true t rest = rows_append c (change r) rs (step r t h.0 h.1) h.2
    go false t rest = (h.0, h.1, rest)

without_fills : (c : List Rule) (id : Text) (rows : List Row) → RowsFill c rows → RowsFill c (without id rows)
without_fills c id rows h = at_row_fills c id (λ _. []) [] rows (λ r t old read. tt) tt h

module _ (c : List Rule) (id : Text) where
  joined : (r : Row) (vs : List Text) → Fills c id vs → bytes_eq r.id id ≡ true → Fills c r.id r.values
      → Fills c r.id (r.values ++ vs)
  joined r vs new t old = fills_more c r.id r.values vs old
      (subst (λ i. Fills c i vs) (sym ((bytes_eq-Decides r.id id).0 t)) new)

  pub with_values_fills : (how : Reading) (source : ValueSource) (vs : List Text) (rows : List Row) → IsReadBy c id how
      → Fills c id vs → RowsFill c rows
      → RowsFill c (with_values id how source vs rows)
  with_values_fills how source vs rows read new h =
      at_row_fills c id (more_values source vs)
      (record { id = id; values = vs; count = None; source = Some source; reading = how } ∷ []) rows
      (λ r t old same. (joined r vs new t old, same, tt)) (new, read, tt) h

  with_count_fills : (how : Reading) (source : ValueSource) (n : ℕ) (rows : List Row) → IsReadBy c id how
      → Fills c id (count_text n ∷ []) → RowsFill c rows
      → RowsFill c (with_count id how source n rows)
  with_count_fills how source n rows read new h =
      at_row_fills c id (new_count source n)
      (record { id = id; values = count_text n ∷ []; count = Some n; source = Some source; reading = how } ∷ [])
      rows
      (λ r t old same. (joined r (count_text n ∷ []) new t old, same, tt)) (new, read, tt) h

-- ---- one use of an argument

in_range : (low high n : ℕ) → range_kinds low high n ≡ [] → 0 < low → 0 < n
in_range low high zero e lt =
    let positive : nat_lt 0 low ≡ true = lt-ltb 0 low lt in
    let bad = rw positive at e in
    cc
in_range low high (suc n) e lt = omega arith

value_taken : (a : Rule) (v : Text) → value_kinds a.ignore_case (parser_of_value a.parser) v ≡ []
    → value_passes a v ≡ true
value_taken a v e = go (value_passes a v) refl e
  where
    go : (b : Bool) → value_passes a v ≡ b → cond b [] (refused_kind (parser_of_value a.parser) ∷ []) ≡ []
        → value_passes a v ≡ true
    go true t e = t
    go false t e = cc

pub same_id : (id : Text) → bytes_eq id id ≡ true
same_id id = (bytes_eq-Decides id id).1 refl

taken_of : (c : List Rule) (a : Rule) (v : Text) → Among a c → value_passes a v ≡ true → is_taken c a.id v ≡ true
taken_of c a v of passes =
    any_among (λ x. bytes_eq x.id a.id && value_passes x v) c a of (both_true _ _ (same_id a.id) passes)

pub values_taken : (c : List Rule) (a : Rule) (vs : List Text) → Among a c → values_fault a vs ≡ []
    → list_all (is_taken c a.id) vs ≡ true
values_taken c a [] of e = refl
values_taken c a (v ∷ vs) of e =
    both_true _ _ (taken_of c a v of (value_taken a v (none_first _ _ e))) (values_taken c a vs of (none_next _ _ e))

some_wanted : (c : List Rule) (a : Rule) → Among a c → wants_values c a.id ≡ true → 0 < least a
some_wanted c a of wants =
    let own : (not (bytes_eq a.id a.id) || nat_lt 0 (least a)) ≡ true =
    all_among (λ x. not (bytes_eq x.id a.id) || nat_lt 0 (least x)) c a wants of in
    let same : bytes_eq a.id a.id ≡ true = same_id a.id in
    ltb-true 0 (least a) (rw same at own)

use_fills : (c : List Rule) (a : Rule) (values : List Text) → Among a c
    → range_kinds (least a) (most_values a) (length values) ≡ []
    → values_fault a (values_or_missing a values) ≡ [] → Fills c a.id (values_or_missing a values)
use_fills c a values of range passes =
    ((λ wants. kept values (in_range _ _ _ range (some_wanted c a of wants))), values_taken c a _ of passes)
  where
    kept : (vs : List Text) → 0 < length vs → 0 < length (values_or_missing a vs)
    kept [] lt = absurd (omega arith)
    kept (v ∷ vs) lt = lt

counted_fills : (c : List Rule) (a : Rule) (how : Reading) (raw : List Text) (rows : List Row) → Among a c
    → IsReadBy c a.id how → count_fault a raw rows ≡ [] → RowsFill c rows
    → RowsFill c (counted a.id how raw rows)
counted_fills c a how [] rows of read e h =
    with_count_fills c a.id how CommandLine (min (count_of a.id rows + 1) 255) (without a.id rows) read
    ((λ w. omega arith), both_true _ _ (taken_of c a _ of (value_taken a _ e)) refl) (without_fills c a.id rows h)
counted_fills c a how (v ∷ vs) rows of read e h =
    with_values_fills c a.id how CommandLine (v ∷ vs) (without a.id rows) read
    ((λ w. omega arith), values_taken c a (v ∷ vs) of e) (without_fills c a.id rows h)

module _ (c : List Rule) (again : Bool) where
  used_as_fills : (x : ArgAction) (a : Rule) (how : Reading) (raw : List Text) (rows : List Row) → Among a c
      → IsReadBy c a.id how → (values_fault a raw ≡ [] → Fills c a.id raw)
      → action_fault x again a raw rows ≡ [] → RowsFill c rows → RowsFill c (used_as x a.id how raw rows)
  used_as_fills action.Set a how raw rows of read fills e h =
      with_values_fills c a.id how CommandLine raw (without a.id rows) read (fills (none_next _ _ e))
      (without_fills c a.id rows h)
  used_as_fills action.SetTrue a how raw rows of read fills e h =
      with_values_fills c a.id how CommandLine raw (without a.id rows) read (fills (none_next _ _ e))
      (without_fills c a.id rows h)
  used_as_fills action.SetFalse a how raw rows of read fills e h =
      with_values_fills c a.id how CommandLine raw (without a.id rows) read (fills (none_next _ _ e))
      (without_fills c a.id rows h)
  used_as_fills action.Append a how raw rows of read fills e h =
      with_values_fills c a.id how CommandLine raw rows read (fills e) h
  used_as_fills action.Count a how raw rows of read fills e h = counted_fills c a how raw rows of read e h
  used_as_fills it a how raw rows of read fills e h = h

  used_fills : (a : Rule) (values : List Text) (rows : List Row) → Among a c → use_fault again a values rows ≡ []
      → RowsFill c rows → RowsFill c (used a values rows)
  used_fills a values rows of e h =
      used_as_fills (action_of a) a (reading_by a) (values_or_missing a values) rows of (a, of, refl, refl)
      (use_fills c a values of (none_first _ _ e)) (none_next _ _ e) h

  -- ---- what is held

  abbrev IsOne : Option Rule → Type 0
  IsOne o = (a : Rule) → o ≡ Some a → Among a c

  used_by_id_fills : (o : Option Rule) (vs : List Text) (rows : List Row) → IsOne o
      → option_map_or (λ a. use_fault again a vs rows) o [] ≡ [] → RowsFill c rows → RowsFill c (used_by_id o vs rows)
  used_by_id_fills None vs rows one e h = h
  used_by_id_fills (Some a) vs rows one e h = used_fills a vs rows (one a refl) e h

  settled_rows_fill : (p : Option (Text × List Text)) (rows : List Row)
      → option_map_or (λ q. option_map_or (λ a. use_fault again a q.1 rows) (arg_by_id c q.0) []) p [] ≡ []
      → RowsFill c rows → RowsFill c (settled_rows c p rows)
  settled_rows_fill None rows e h = h
  settled_rows_fill (Some p) rows e h =
      used_by_id_fills (arg_by_id c p.0) p.1 rows (found_among (λ a. bytes_eq a.id p.0) c) e h

  pub settled_fills : (h : Held) → settle_fault c again h ≡ [] → RowsFill c h.rows → RowsFill c (settled c h).rows
  settled_fills h e ok = settled_rows_fill h.pending h.rows e ok

  reacted_fills : (a : Rule) (vs : List Text) (h : Held) → Among a c → react_fault c again a vs h ≡ []
      → RowsFill c h.rows → RowsFill c (reacted c a vs h).rows
  reacted_fills a vs h of e ok =
      used_fills a vs (settled c h).rows of (none_next _ _ e) (settled_fills h (none_first _ _ e) ok)

  option_met_fills : (a : Rule) (v : Option Text) (h : Held) → Among a c → option_fault c again a v h ≡ []
      → RowsFill c h.rows → RowsFill c (option_met c a v h).0.rows
  option_met_fills a (Some v) h of e ok = reacted_fills a (v ∷ []) h of e ok
  option_met_fills a None h of e ok = settled_fills h e ok

  flag_met_fills : (a : Rule) (v : Option Text) (h : Held) → Among a c
      → cond (is_some v) (TooManyValues ∷ []) (react_fault c again a [] h) ≡ [] → RowsFill c h.rows
      → RowsFill c (flag_met c a v h).0.rows
  flag_met_fills a (Some v) h of e ok = ok
  flag_met_fills a None h of e ok = reacted_fills a [] h of e ok

  pub long_met_fills : (o : Option Rule) (v : Option Text) (h : Held) → IsOne o → long_fault c again o v h ≡ []
      → RowsFill c h.rows → RowsFill c (long_met c o v h).0.rows
  long_met_fills None v h one e ok = ok
  long_met_fills (Some a) v h one e ok = go (takes_values a) e
    where
      go : (b : Bool) → cond b (option_fault c again a v h)
          (cond (is_some v) (TooManyValues ∷ []) (react_fault c again a [] h)) ≡ []
          → RowsFill c (cond b (option_met c a v h) (flag_met c a v h)).0.rows
      go true e = option_met_fills a v h (one a refl) e ok
      go false e = flag_met_fills a v h (one a refl) e ok

  short_met_fills : (o : Option Rule) (rest : Text) (h : Held) (fault : Held → Kinds) (met : Held → Held × Outcome)
      → IsOne o
      → ((g : Held) → fault g ≡ [] → RowsFill c g.rows → RowsFill c (met g).0.rows)
      → short_fault c again o rest h fault ≡ [] → RowsFill c h.rows → RowsFill c (short_met c o rest h met).0.rows
  short_met_fills None rest h fault met one more e ok = ok
  short_met_fills (Some a) rest h fault met one more e ok = go (takes_values a) e
    where
      go : (b : Bool) → cond b (option_fault c again a (attached_value rest) h)
          (or_else (react_fault c again a [] h) (fault (reacted c a [] h))) ≡ []
          → RowsFill c (cond b (option_met c a (attached_value rest) h) (met (reacted c a [] h))).0.rows
      go true e = option_met_fills a (attached_value rest) h (one a refl) e ok
      go false e = more (reacted c a [] h) (none_next _ _ e) (reacted_fills a [] h (one a refl) (none_first _ _ e) ok)

  bundle_step_fills : (o : Option ℕ) (flags : Text) (skip : ℕ) (so_far : Outcome) (h : Held)
      (fault : Text → ℕ → Held → Kinds) (met : Text → ℕ → Outcome → Held → Held × Outcome)
      → ((t : Text) (n : ℕ) (x : Outcome) (g : Held) → fault t n g ≡ [] → RowsFill c g.rows
      → RowsFill c (met t n x g).0.rows)
      → bundle_step_fault c again o flags skip h fault ≡ [] → RowsFill c h.rows
      → RowsFill c (bundle_step c o flags skip so_far h met).0.rows
  bundle_step_fills None flags skip so_far h fault met more e ok = ok
  bundle_step_fills (Some x) flags zero so_far h fault met more e ok =
      let rest = drop (length (encode_utf8 x)) flags in
      short_met_fills (arg_by_short c x) rest h (fault rest 0) (met rest 0 done)
      (found_among (λ a. not (is_some a.index) && has_short a x) c) (more rest 0 done) e ok
  bundle_step_fills (Some x) flags (suc skip) so_far h fault met more e ok =
      more (drop (length (encode_utf8 x)) flags) skip so_far h e ok

  pub bundle_fills : (k : ℕ) (flags : Text) (skip : ℕ) (so_far : Outcome) (h : Held)
      → flags_fault c again k flags skip h ≡ [] → RowsFill c h.rows
      → RowsFill c (bundle_met c k flags skip so_far h).0.rows
  unfolding flags_fault bundle_met
  bundle_fills zero flags skip so_far h e ok = ok
  bundle_fills (suc k) flags skip so_far h e ok =
      bundle_step_fills (slice_get (chars flags) 0) flags skip so_far h (flags_fault c again k) (bundle_met c k)
      (bundle_fills k) e ok
