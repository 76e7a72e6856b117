-- If the walk over the words reports no fault, the rows after it have the values that their arguments require.
use Rattle.canoffice_jobs.proofs.Common.{◌≡◌, ◌&&◌, ◌||◌, ℕ, Bool, cond, true, false, not, refl, arith, inl, inr, List}
use Rattle.canoffice_jobs.proofs.Common.{[], ◌∷◌, length, Option, Some, None, is_some, codes, fold, option_map_or}
use Rattle.canoffice_jobs.proofs.Common.{bytes_eq, or_else, settle_fault, Held, Names, Outcome, Row, Rule, Text}
use Rattle.canoffice_jobs.proofs.Common.{arg_by_id, done, is_empty, long_met, reading_by, settled, with_values, Shape}
use Rattle.canoffice_jobs.proofs.Common.{DisplayHelp, InvalidSubcommand, is_nil}
use Rattle.clap.specs.Lexer.{long_of, short_of}
use Rattle.clap.specs.Faults.{default_fault, defaults_fault, given_default_fault, stray_fault, bundle_fault}
use Rattle.clap.specs.Faults.{flag_word_fault, other_fault, positional_fault, step_fault, walk_fault, word_fault}
use Rattle.clap.specs.Walk.{Step, Waiting, Walk, after_flag, after_step, arg_by_index, arg_by_long, bundle}
use Rattle.clap.specs.Walk.{default_rows, has_long, has_row, option_word, idle, is_pending, long_or_other, next, option}
use Rattle.clap.specs.Walk.{plain, plain_word, positional, refused, short_or_plain, subcommand, subcommand_met}
use Rattle.clap.specs.Walk.{subcommand_or_other, takes_several, to_positional, trailing, value, waits, walked}
use Rattle.clap.specs.Walk.{walked_from, with_default, word_met}
use Rattle.clap.specs.declared.parser.matches.ValueSource.TheVariants.{DefaultValue}
use Rattle.canoffice_jobs.proofs.NoFault.{none_first, none_next, Among, found_among}
use Rattle.canoffice_jobs.proofs.FilledRows.{RowsFill, with_values_fills, values_taken, settled_fills, long_met_fills}
use Rattle.canoffice_jobs.proofs.FilledRows.{bundle_fills}

-- ---- one word

-- the name is not that of the subcommand that answers with help
abbrev pub IsNoHelp : Shape → Text → Type 0
IsNoHelp s name = (bytes_eq name (codes "help") && not s.disable_help_subcommand) ≡ false

abbrev StepKeeps : Shape → Step → Type 0
StepKeeps s (subcommand name) = IsNoHelp s name
StepKeeps s _ = Unit {0}

abbrev MetWell : Shape → Held × Step → Type 0
MetWell s met = RowsFill s.rules met.0.rows × StepKeeps s met.1

plain_word_well : (s : Shape) (waiting : Waiting) (word : Text) (h : Held) → RowsFill s.rules h.rows
    → MetWell s (plain_word s.rules waiting word h)
plain_word_well s idle word h ok = (ok, tt)
plain_word_well s positional word h ok = (ok, tt)
plain_word_well s (option id) word h ok = (go (arg_by_id s.rules id), tt)
  where
    go : (o : Option Rule) → RowsFill s.rules (option_word o id word h).0.rows
    go None = ok
    go (Some a) = ok

after_flag_well : (s : Shape) (waiting : Waiting) (word : Text) (h : Held) (outcome : Outcome) → RowsFill s.rules h.rows
    → MetWell s (after_flag s.rules waiting word h outcome)
after_flag_well s waiting word h done ok = (ok, tt)
after_flag_well s waiting word h (waits id) ok = (ok, tt)
after_flag_well s waiting word h plain ok = plain_word_well s waiting word h ok
after_flag_well s waiting word h refused ok = plain_word_well s waiting word h ok

long_or_other_well : (s : Shape) (again : Bool) (waiting : Waiting) (word : Text) (o : Option (Text × Option Text))
    (h : Held) → flag_word_fault s.rules again o word h ≡ []
    → RowsFill s.rules h.rows → MetWell s (long_or_other s.rules waiting word o h)
long_or_other_well s again waiting word (Some p) h e ok =
    after_flag_well s waiting word (long_met s.rules (arg_by_long s.rules p.0) p.1 h).0
    (long_met s.rules (arg_by_long s.rules p.0) p.1 h).1
    (long_met_fills s.rules again (arg_by_long s.rules p.0) p.1 h
    (found_among (λ a. not (is_some a.index) && has_long a p.0) s.rules) e ok)
long_or_other_well s again waiting word None h e ok = go (short_of word) e
  where
    go : (o : Option Text) → option_map_or (λ flags. bundle_fault s.rules again flags h) o [] ≡ []
        → MetWell s (short_or_plain s.rules waiting word o h)
    go (Some flags) e =
        after_flag_well s waiting word (bundle s.rules flags h).0 (bundle s.rules flags h).1
        (bundle_fills s.rules again (length flags) flags h.skip plain (record h { skip = 0 }) e ok)
    go None e = plain_word_well s waiting word h ok

other_well : (s : Shape) (o : Option Text) (waiting : Waiting) (position : ℕ) (word : Text) (h : Held)
    → other_fault s o word h ≡ [] → RowsFill s.rules h.rows
    → MetWell s (subcommand_or_other s.rules o waiting position word h)
other_well s (Some name) waiting position word h e ok =
    (ok, go (bytes_eq name (codes "help") && not s.disable_help_subcommand) e)
  where
    go : (b : Bool) → cond b (DisplayHelp ∷ InvalidSubcommand ∷ []) [] ≡ [] → b ≡ false
    go true e = cc
    go false e = refl
other_well s None waiting position word h e ok = go (bytes_eq word (45 ∷ 45 ∷ [])) e
  where
    go : (b : Bool) → cond b [] (flag_word_fault s.rules s.args_override_self (long_of word) word h) ≡ []
        → MetWell s (cond b (h, trailing position) (long_or_other s.rules waiting word (long_of word) h))
    go true e = (ok, tt)
    go false e = long_or_other_well s s.args_override_self waiting word (long_of word) h e ok

word_well : (s : Shape) (names : Names) (is_trailing : Bool) (waiting : Waiting) (position : ℕ) (word : Text) (h : Held)
    → word_fault s names is_trailing waiting word h ≡ []
    → RowsFill s.rules h.rows → MetWell s (word_met s.rules names is_trailing waiting position word h)
word_well s names true waiting position word h e ok = (ok, tt)
word_well s names false waiting position word h e ok =
    other_well s (subcommand_met names waiting word) waiting position word h e ok

-- ---- the walk

abbrev pub StopKeeps : Shape → Option (Text × List Text) → Type 0
StopKeeps s None = Unit {0}
StopKeeps s (Some p) = IsNoHelp s p.0

abbrev WalkKeeps : Shape → Walk → Type 0
WalkKeeps s w = RowsFill s.rules w.held.rows × StopKeeps s w.stopped

to_positional_keeps : (s : Shape) (o : Option Rule) (word : Text) (w : Walk) (h : Held)
    → option_map_or (λ a. positional_fault s.rules s.args_override_self a h) o (stray_fault s) ≡ []
    → RowsFill s.rules h.rows → StopKeeps s w.stopped → WalkKeeps s (to_positional s.rules o word w h)
to_positional_keeps s None word w h e ok stop = (ok, stop)
to_positional_keeps s (Some a) word w h e ok stop = (go (is_pending a h.pending && takes_several a) e, tt)
  where
    go : (b : Bool) → cond b [] (settle_fault s.rules s.args_override_self h) ≡ []
        → RowsFill s.rules (cond b h (settled s.rules h)).rows
    go true e = ok
    go false e = settled_fills s.rules s.args_override_self h e ok

after_step_keeps : (s : Shape) (word : Text) (w : Walk) (h : Held) (step : Step) → step_fault s w.position h step ≡ []
    → MetWell s (h, step) → StopKeeps s w.stopped
    → WalkKeeps s (after_step s.rules word w h step)
after_step_keeps s word w h (next waiting) e met stop = (met.0, stop)
after_step_keeps s word w h (trailing position) e met stop = (met.0, stop)
after_step_keeps s word w h (subcommand name) e met stop = (met.0, met.1)
after_step_keeps s word w h value e met stop = to_positional_keeps s (arg_by_index s.rules w.position) word w h e met.0
    stop

turn_keeps : (s : Shape) (names : Names) (w : Walk) (word : Text) (o : Option (Text × List Text))
    → cond (is_some o) [] (or_else (word_fault s names w.is_trailing w.waiting word w.held)
    (step_fault s w.position (word_met s.rules names w.is_trailing w.waiting w.position word w.held).0
    (word_met s.rules names w.is_trailing w.waiting w.position word w.held).1)) ≡ []
    → StopKeeps s o → WalkKeeps s w → WalkKeeps s (walked_from s.rules names o w word)
turn_keeps s names w word (Some p) e stop ok = (ok.0, stop)
turn_keeps s names w word None e stop ok =
    after_step_keeps s word w _ _ (none_next _ _ e)
    (word_well s names w.is_trailing w.waiting w.position word w.held (none_first _ _ e) ok.0) ok.1

pub walk_keeps : (s : Shape) (names : Names) (w : Walk) (words : List Text) → walk_fault s names w words ≡ []
    → WalkKeeps s w → WalkKeeps s (fold (walked s.rules names) w words)
unfolding walk_fault walked
walk_keeps s names w [] e ok = ok
walk_keeps s names w (word ∷ rest) e ok =
    walk_keeps s names (walked s.rules names w word) rest (none_next _ _ e)
    (turn_keeps s names w word w.stopped (none_first _ _ e) ok.1 ok)

-- ---- after the walk

default_rows_fill : (c : List Rule) (a : Rule) (values : List Text) (rows : List Row) → Among a c
    → cond (is_empty values) [] (given_default_fault a values) ≡ []
    → RowsFill c rows → RowsFill c (default_rows a.id (reading_by a) values rows)
default_rows_fill c a [] rows of e h = h
default_rows_fill c a (v ∷ vs) rows of e h = go (is_empty (v ∷ vs)) refl e
  where
    go : (b : Bool) → is_empty (v ∷ vs) ≡ b → cond b [] (given_default_fault a (v ∷ vs)) ≡ []
        → RowsFill c (with_values a.id (reading_by a) DefaultValue (v ∷ vs) rows)
    go true t e = let bad : v ∷ vs ≡ [] = is_nil (v ∷ vs) t in cc
    go false t e = with_values_fills c a.id (reading_by a) DefaultValue (v ∷ vs) rows (a, of, refl, refl)
        ((λ w. omega arith), values_taken c a (v ∷ vs) of (none_next _ _ e)) h

with_default_fills : (c : List Rule) (a : Rule) (rows : List Row) → Among a c → default_fault rows a ≡ []
    → RowsFill c rows → RowsFill c (with_default rows a)
with_default_fills c a rows of e h = go (has_row a.id rows) e
  where
    go : (b : Bool) → cond (b || is_empty a.defaults) [] (given_default_fault a a.defaults) ≡ []
        → RowsFill c (cond b rows (default_rows a.id (reading_by a) a.defaults rows))
    go true e = h
    go false e = default_rows_fill c a a.defaults rows of e h

pub defaults_fill : (c rest : List Rule) (rows : List Row) → ((a : Rule) → Among a rest → Among a c)
    → defaults_fault rows rest ≡ [] → RowsFill c rows → RowsFill c (fold with_default rows rest)
unfolding defaults_fault
defaults_fill c [] rows of e h = h
defaults_fill c (a ∷ rest) rows of e h =
    defaults_fill c rest (with_default rows a) (λ x within. of x (inr within)) (none_next _ _ e)
    (with_default_fills c a rows (of a (inl refl)) (none_first _ _ e) h)
