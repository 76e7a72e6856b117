use Rattle.dbc_keep.proofs.Common.{◌≡◌, true, false, sym, ◌∙◌, line_text, has_spn, none}
use Rattle.dbc_keep.proofs.kept.definition_if_needed.Goals as goal

pub returns-then-not-has_spn : goal.returns-then-not-has_spn
returns-then-not-has_spn c =
    let no : has_spn c.args.sheet.now ≡ false = sym c.has_spn.ensures ∙ c.if-not-has_spn.true in
    rw no (none line_text c.args.text.now.items)

pub returns-then-is_defined : goal.returns-then-is_defined
returns-then-is_defined c =
    let some : has_spn c.args.sheet.now ≡ true = sym c.has_spn.ensures ∙ c.if-not-has_spn.false in
    rw (some, sym c.is_defined.ensures ∙ c.if-is_defined.true) (none line_text c.args.text.now.items)

pub returns : goal.returns
returns c =
    let some : has_spn c.args.sheet.now ≡ true = sym c.has_spn.ensures ∙ c.if-not-has_spn.false in
    rw (some, sym c.is_defined.ensures ∙ c.if-is_defined.false) c.spn_definition.ensures
