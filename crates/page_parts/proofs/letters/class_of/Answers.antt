use Rattle.std.proofs.Common.{◌%◌, ◌∙◌, sym, ap}
use Rattle.page_parts.specs.Colours.{class}
use Rattle.page_parts.proofs.Classes.{at_index, coloured, grey}
use Rattle.page_parts.proofs.letters.class_of.Goals as goal

pub returns-in-Some : goal.returns-in-Some
returns-in-Some c =
    at_index c.classes_of-classes.result.now c.args.shade (c.in-Some.index % 8) _ c.classes_of-classes.ensures
    ∙ coloured c.args.shade c.in-Some.index ∙ sym (ap (class c.args.shade) c.in-Some.is)

pub returns-in-None : goal.returns-in-None
returns-in-None c =
    at_index c.classes_of-classes.result.now c.args.shade 8 _ c.classes_of-classes.ensures
    ∙ grey c.args.shade ∙ sym (ap (class c.args.shade) c.in-None.is)
