use Rattle.std.proofs.Common.{◌≡◌, ◌||◌, ℕ, List, take}
use Rattle.std.specs.List.{list_any}
use Rattle.std.specs.Str.{bytes_eq}
use Rattle.dbc_words.specs.Named.{holds_name}
use Rattle.office_views.specs.Tally.{CountsEach}
use Rattle.office_views.proofs.tally.Tally.add_names.Given as goal

abbrev pub invariant-loop-name : goal.invariant-loop-name
invariant-loop-name l = record {
  seen : (n : List ℕ) → holds_name l.seen n
      ≡ (list_any (λ r. bytes_eq r n) (take l.name-index l.names) || holds_name l.initial.seen n);
  times : CountsEach l.initial.seen l.seen l.initial.self l.self;
}
