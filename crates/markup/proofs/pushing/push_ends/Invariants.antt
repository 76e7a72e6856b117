use Rattle.std.proofs.Common.{◌≡◌, ◌++◌, reverse, vec_len}
use Rattle.std.specs.List.{flat_map}
use Rattle.markup.specs.Html.{end_tag}
use Rattle.markup.proofs.pushing.push_ends.Given as goal

abbrev pub invariant-loop-tag : goal.invariant-loop-tag
invariant-loop-tag l =
    l.text.items ++ flat_map end_tag (reverse l.open.items)
    ≡ l.initial.text.items ++ flat_map end_tag (reverse l.initial.open.items)

abbrev pub decreases-loop-tag : goal.decreases-loop-tag
decreases-loop-tag l = vec_len l.open
