-- If clap reports no fault of a command that requires a subcommand, one of its own was entered, and it has no fault
-- either.
use Rattle.canoffice_jobs.proofs.Common.{◌≡◌, ◌∙◌, true, false, sym, ap, refl, true≢false, List, [], Option, Some, None}
use Rattle.canoffice_jobs.proofs.Common.{is_some, find, option_map_or, fault_of, level_fault, Text, answers_to}
use Rattle.canoffice_jobs.proofs.Common.{nothing_held, rows_after, walk, Shape, built, label_of, subcommand_of}
use Rattle.std.specs.Prelude.{option_map}
use Rattle.clap.specs.Faults.{entered_fault}
use Rattle.clap.specs.Simple.{App, argument_words, entered, names_of, rows_at}
use Rattle.canoffice_jobs.proofs.NoFault.{Among, found_among, found_passes}
use Rattle.canoffice_jobs.proofs.FilledWalk.{IsNoHelp}
use Rattle.canoffice_jobs.proofs.GivenValues.{Passes, below_passes, has_subcommand, stop_is_no_help}

-- the subcommand that the words entered, by which name, and the words after it
pub record Entered (a : App) (words : List Text) : Type 0 where
  pub shape : Shape
  pub called : Text
  pub rest : List Text
  pub own : Among shape (built a).subs
  pub answers : answers_to called (label_of shape) ≡ true
  pub no_help : IsNoHelp (built a).top called
  pub rows : subcommand_of a words ≡ Some (shape.name, rows_after shape.rules [] rest)
  pub passes : Passes shape rest

pub subcommand_entered : (a : App) (words : List Text) → fault_of a words ≡ []
    → (built a).top.subcommand_required ≡ true → Entered a words
subcommand_entered a words e required =
    let b = built a in
    let stop = (walk b.top.rules (names_of b) nothing_held (argument_words a words)).stopped in
    at_stop stop refl (has_subcommand b.top (names_of b) (argument_words a words) (is_some (entered b stop))
    (entered_fault b stop) e required)
    (below_passes b.top (names_of b) (argument_words a words) (is_some (entered b stop)) (entered_fault b stop) e)
  where
    at_shape : (p : Text × List Text)
        → (walk (built a).top.rules (names_of (built a)) nothing_held (argument_words a words)).stopped ≡ Some p
        → (o : Option Shape) → find (λ s. answers_to p.0 (label_of s)) (built a).subs ≡ o
        → is_some (option_map (λ s. rows_at s p.1) o) ≡ true
        → option_map_or (λ s. level_fault s [] nothing_held p.1 false []) o [] ≡ [] → Entered a words
    at_shape p stops None found has passes = absurd (true≢false (sym has))
    at_shape p stops (Some s) found has passes = record {
      shape = s;
      called = p.0;
      rest = p.1;
      own = found_among (λ x. answers_to p.0 (label_of x)) (built a).subs s found;
      answers = found_passes (λ x. answers_to p.0 (label_of x)) (built a).subs s found;
      no_help = stop_is_no_help (built a).top (names_of (built a)) (argument_words a words) _ _ p e stops;
      rows = ap (entered (built a)) stops ∙ ap (option_map (λ x. rows_at x p.1)) found;
      passes = passes;
    }

    at_stop : (o : Option (Text × List Text))
        → (walk (built a).top.rules (names_of (built a)) nothing_held (argument_words a words)).stopped ≡ o
        → is_some (entered (built a) o) ≡ true → entered_fault (built a) o ≡ [] → Entered a words
    at_stop None stops has passes = absurd (true≢false (sym has))
    at_stop (Some p) stops has passes = at_shape p stops (find (λ s. answers_to p.0 (label_of s)) (built a).subs) refl
        has passes
