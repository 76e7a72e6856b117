use Rattle.std.proofs.Common.{◌≡◌, ◌++◌, take}
use Rattle.std.specs.List.{flat_map}
use Rattle.markup.specs.Html.{style_part}
use Rattle.markup.proofs.pushing.push_style_parts.Given as goal

abbrev pub invariant-loop-part : goal.invariant-loop-part
invariant-loop-part l =
    l.text.items ≡ l.initial.text.items ++ flat_map (λ part. style_part part.now) (take l.part-index l.parts)
