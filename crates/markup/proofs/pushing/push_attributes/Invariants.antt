use Rattle.std.proofs.Common.{◌≡◌, ◌++◌, take}
use Rattle.markup.specs.Html.{attributes_html}
use Rattle.markup.proofs.pushing.push_attributes.Given as goal

abbrev pub invariant-loop-attribute : goal.invariant-loop-attribute
invariant-loop-attribute l =
    l.text.items ≡ l.initial.text.items ++ attributes_html (take l.attribute-index l.attributes)
