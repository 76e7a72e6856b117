-- If clap reports no fault, each required argument has its values, and they pass its parser.
use Rattle.canoffice_jobs.proofs.Common.{◌≡◌, ◌∙◌, ◌<◌, ◌&&◌, ◌||◌, Bool, cond, true, false, not, refl, sym, ap, subst}
use Rattle.canoffice_jobs.proofs.Common.{arith, List, [], ◌∷◌, length, Option, Some, None, true≢false, find, unwrap_or}
use Rattle.canoffice_jobs.proofs.Common.{slice_get, list_all, list_any, option_map_or, bytes_eq, bytes_eq-Decides}
use Rattle.canoffice_jobs.proofs.Common.{Kinds, level_fault, Names, Row, Rule, Text, nothing_held, rows_after, settled}
use Rattle.canoffice_jobs.proofs.Common.{walk, Shape, Reading, both}
use Rattle.std.specs.Prelude.{option_map, option_and_then}
use Rattle.clap.specs.Facts.{explicit_source}
use Rattle.clap.specs.Values.{read_as}
use Rattle.clap.specs.Kinds.{check_kinds}
use Rattle.clap.specs.Faults.{check_fault, walk_fault}
use Rattle.clap.specs.Takes.{is_given}
use Rattle.clap.specs.Walk.{all_of, first_of, one_of, row_text, walk_from}
use Rattle.canoffice_jobs.proofs.NoFault.{none_first, none_next}
use Rattle.canoffice_jobs.proofs.FilledRows.{wants_values, is_taken, Fills, IsReadBy, RowsFill, settled_fills}
use Rattle.canoffice_jobs.proofs.FilledWalk.{IsNoHelp, StopKeeps, walk_keeps, defaults_fill}

-- ---- one level of a parse that reports no fault

check_parts : (help sub argument : Bool) → check_kinds help sub argument ≡ [] → (sub ≡ false) × (argument ≡ false)
check_parts true sub argument e = cc
check_parts false true argument e = cc
check_parts false false true e = cc
check_parts false false false e = (refl, refl)

-- the subcommand at which the walk stopped is not the one that answers with help
pub stop_is_no_help : (s : Shape) (names : Names) (words : List Text) (has : Bool) (below : Kinds)
    (p : Text × List Text) → level_fault s names nothing_held words has below ≡ []
    → (walk s.rules names nothing_held words).stopped ≡ Some p → IsNoHelp s p.0
stop_is_no_help s names words has below p e stops =
    subst (StopKeeps s) stops (walk_keeps s names (walk_from nothing_held) words (none_first _ _ e) (tt, tt)).1

-- the last checks find nothing missing
pub checks_pass : (s : Shape) (names : Names) (words : List Text) (has : Bool) (below : Kinds)
    → level_fault s names nothing_held words has below ≡ []
    → check_fault s (rows_after s.rules names words) has ≡ []
checks_pass s names words has below e =
    none_next _ _ (none_next _ _
    (none_next below _ (none_next (walk_fault s names (walk_from nothing_held) words) _ e)))

pub below_passes : (s : Shape) (names : Names) (words : List Text) (has : Bool) (below : Kinds)
    → level_fault s names nothing_held words has below ≡ [] → below ≡ []
below_passes s names words has below e =
    none_first below _ (none_next (walk_fault s names (walk_from nothing_held) words) _ e)

pub has_subcommand : (s : Shape) (names : Names) (words : List Text) (has : Bool) (below : Kinds)
    → level_fault s names nothing_held words has below ≡ [] → s.subcommand_required ≡ true → has ≡ true
has_subcommand s names words has below e required =
    go has (check_parts _ _ _ (checks_pass s names words has below e)).0
  where
    go : (b : Bool) → (not b && s.subcommand_required) ≡ false → b ≡ true
    go true f = refl
    go false f = absurd (true≢false (sym required ∙ f))

pub rows_fill : (s : Shape) (names : Names) (words : List Text) (has : Bool) (below : Kinds)
    → level_fault s names nothing_held words has below ≡ [] → RowsFill s.rules (rows_after s.rules names words)
rows_fill s names words has below e =
    let end = (walk s.rules names nothing_held words).held in
    let walked_well = walk_keeps s names (walk_from nothing_held) words (none_first _ _ e) (tt, tt) in
    let last = none_next below _ (none_next (walk_fault s names (walk_from nothing_held) words) _ e) in
    let settled_well = settled_fills s.rules s.args_override_self end (none_first _ _ last) walked_well.0 in
    defaults_fill s.rules s.rules (settled s.rules end).rows (λ x of. of) (none_first _ _ (none_next _ _ last))
    settled_well

-- ---- the values of one argument

-- the argument of this id has a value, which `get_str` gives; each of its values passes the parser of an argument of
-- the id, and is read as such a parser says
pub record IsFilled (c : List Rule) (id : Text) (rows : List Row) : Type 0 where
  pub value : Text
  pub more : List Text
  pub how : Reading
  pub first : first_of id rows ≡ Some value
  pub all : all_of id rows ≡ Some (value ∷ more)
  pub read : one_of id rows ≡ Some (read_as how value)
  pub passes : list_all (is_taken c id) (value ∷ more) ≡ true
  pub read_by : IsReadBy c id how

found_fills : (c : List Rule) (id : Text) (rows : List Row) (row : Row) → RowsFill c rows
    → find (λ r. bytes_eq r.id id) rows ≡ Some row → Fills c id row.values × IsReadBy c id row.reading
found_fills c id [] row h e = cc
found_fills c id (r ∷ rs) row h e = go (bytes_eq r.id id) refl e (found_fills c id rs row h.2)
  where
    go : (b : Bool) → bytes_eq r.id id ≡ b → cond b (Some r) (find (λ x. bytes_eq x.id id) rs) ≡ Some row
        → (find (λ x. bytes_eq x.id id) rs ≡ Some row → Fills c id row.values × IsReadBy c id row.reading)
        → Fills c id row.values × IsReadBy c id row.reading
    go true t e rest =
        let same : r ≡ row = ap (λ o. unwrap_or o r) e in
        subst (λ (x : Row). Fills c id x.values × IsReadBy c id x.reading) same
        (subst (λ i. Fills c i r.values × IsReadBy c i r.reading) ((bytes_eq-Decides r.id id).0 t) (h.0, h.1))
    go false t e rest = rest e

row_is_filled : (c : List Rule) (id : Text) (rows : List Row) (row : Row) → find (λ r. bytes_eq r.id id) rows ≡ Some row
    → wants_values c id ≡ true
    → Fills c id row.values × IsReadBy c id row.reading → IsFilled c id rows
row_is_filled c id rows row e wants fills = go row.values refl (fills.0.0 wants) fills.0.1
  where
    go : (xs : List Text) → row.values ≡ xs → 0 < length xs → list_all (is_taken c id) xs ≡ true → IsFilled c id rows
    go [] same lt passes = absurd (omega arith)
    go (v ∷ vs) same lt passes = record {
      value = v;
      more = vs;
      how = row.reading;
      first = ap (option_and_then (λ (r : Row). slice_get r.values 0)) e ∙ ap (λ xs. slice_get xs 0) same;
      all = ap (option_map (λ (r : Row). r.values)) e ∙ ap Some same;
      read = ap (option_and_then row_text) e ∙ ap (λ xs. option_map (read_as row.reading) (slice_get xs 0)) same;
      passes = passes;
      read_by = fills.1;
    }

-- an argument of the id has to be there, and each that has the id takes a value at least
abbrev pub needs_value : List Rule → Text → Bool
needs_value c id = list_any (λ a. bytes_eq a.id id && a.required) c && wants_values c id

given_row : (id : Text) (rows : List Row) → is_given id rows ≡ true → (row : Row)
    × (find (λ r. bytes_eq r.id id) rows ≡ Some row)
given_row id rows e = go (find (λ r. bytes_eq r.id id) rows) refl e
  where
    go : (o : Option Row) → find (λ r. bytes_eq r.id id) rows ≡ o
        → option_map_or (λ r. explicit_source r.source) o false ≡ true → (row : Row)
        × (find (λ r. bytes_eq r.id id) rows ≡ Some row)
    go None same e = absurd (true≢false (sym e))
    go (Some row) same e = (row, same)

required_is_given : (id : Text) (c : List Rule) (rows : List Row) → list_any (λ a. bytes_eq a.id id && a.required) c
    ≡ true → list_any (λ a. a.required && not (is_given a.id rows)) c ≡ false → is_given id rows ≡ true
required_is_given id [] rows some none = absurd (true≢false (sym some))
required_is_given id (a ∷ rest) rows some none =
    go (bytes_eq a.id id && a.required) refl some none (required_is_given id rest rows)
  where
    go : (b : Bool) → (bytes_eq a.id id && a.required) ≡ b → (b || list_any (λ x. bytes_eq x.id id && x.required) rest)
        ≡ true
        → ((a.required && not (is_given a.id rows)) || list_any (λ x. x.required && not (is_given x.id rows)) rest)
        ≡ false
        → (list_any (λ x. bytes_eq x.id id && x.required) rest ≡ true
        → list_any (λ x. x.required && not (is_given x.id rows)) rest ≡ false → is_given id rows ≡ true)
        → is_given id rows ≡ true
    go true t some none more =
        let parts = both _ _ t in
        subst (λ i. is_given i rows ≡ true) ((bytes_eq-Decides a.id id).0 parts.0)
        (given a.required (is_given a.id rows) _ parts.1 none)
      where
        given : (r g rest : Bool) → r ≡ true → ((r && not g) || rest) ≡ false → g ≡ true
        given true true rest required e = refl
        given true false rest required e = absurd (true≢false e)
        given false g rest required e = absurd (true≢false (sym required))
    go false t some none more = more some (right_false (a.required && not (is_given a.id rows)) _ none)
      where
        right_false : (x y : Bool) → (x || y) ≡ false → y ≡ false
        right_false true y e = absurd (true≢false e)
        right_false false y e = e

-- a required argument has a value
pub required_is_filled : (s : Shape) (names : Names) (words : List Text) (has : Bool) (below : Kinds) (id : Text)
    → level_fault s names nothing_held words has below ≡ []
    → (s.subcommand_negates_reqs && has) ≡ false → needs_value s.rules id ≡ true
    → IsFilled s.rules id (rows_after s.rules names words)
required_is_filled s names words has below id e negates needs =
    let rows = rows_after s.rules names words in
    let parts = both _ _ needs in
    let missing : (not (s.subcommand_negates_reqs && has) && list_any (λ a. a.required && not (is_given a.id rows))
    s.rules) ≡ false =
    (check_parts _ _ _ (checks_pass s names words has below e)).1 in
    let row = given_row id rows (required_is_given id s.rules rows parts.0 (rw negates at missing)) in
    row_is_filled s.rules id rows row.0 row.1 parts.1
    (found_fills s.rules id rows row.0 (rows_fill s names words has below e) row.1)

-- ---- an argument with default values

-- ---- an argument whose id no other has

-- no two arguments have the id
abbrev pub is_only : List Rule → Text → Bool
is_only [] id = true
is_only (x ∷ xs) id = cond (bytes_eq x.id id) (not (list_any (λ a. bytes_eq a.id id) xs)) (is_only xs id)

-- ---- a command with no subcommand

-- clap finds no fault in the words after the name of a command with no subcommand
abbrev pub Passes : Shape → List Text → Type 0
Passes s words = level_fault s [] nothing_held words false [] ≡ []

and_false : (b : Bool) → (b && false) ≡ false
and_false true = refl
and_false false = refl

module _ (s : Shape) (words : List Text) (id : Text) (passes : Passes s words) where
  pub leaf_required : needs_value s.rules id ≡ true → IsFilled s.rules id (rows_after s.rules [] words)
  leaf_required needs = required_is_filled s [] words false [] id passes (and_false s.subcommand_negates_reqs) needs
