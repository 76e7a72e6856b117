use Rattle.dbc_read.proofs.Common.{◌∙◌, ap, refl, sym}
use Rattle.dbc_read.specs.Gathering.{IsGathered}
use Rattle.dbc_read.specs.declared.attaching.Attachment.TheVariants as what
use Rattle.dbc_read.proofs.Settled.{attached_parts, other_parts}
use Rattle.dbc_statements.specs.declared.statement.Content.TheVariants as content
use Rattle.dbc_read.proofs.settling.settle.Goals as goal

pub returns-in_ok-attach-in-SignalComment-clause-settles : goal.returns-in_ok-attach-in-SignalComment-clause-settles
returns-in_ok-attach-in-SignalComment-clause-settles c = λ yes.
    let here = c.in-SignalComment in
    attached_parts c.args.finders.now c.args.statement c.into_parts-at.result here._cited (what.Comment here.text)
    c.indices_cited-indices.result c.args.lines.now c.attach.new.lines c.args.gathered.now c.attach.new.passed
    c.requires.none c.into_parts-at.ensures here.is c.indices_cited-indices.ensures
    c.in_ok-attach-in-SignalComment.ensures.attached

pub returns-in_ok-attach-in-Some-clause-settles : goal.returns-in_ok-attach-in-Some-clause-settles
returns-in_ok-attach-in-Some-clause-settles c = λ yes.
    let here = c.in-ValueTexts in
    let texts = c.in-Some.texts in
    attached_parts c.args.finders.now c.args.statement c.into_parts-at.result here._cited (what.Values texts)
    c.indices_cited-indices.result c.args.lines.now c.attach-in-Some.new.lines c.args.gathered.now
    c.attach-in-Some.new.passed
    c.requires.none c.into_parts-at.ensures (here.is ∙ ap (content.ValueTexts here._cited) (sym c.in-Some.ensures.1))
    c.indices_cited-indices.ensures c.in_ok-attach-in-Some.ensures.attached

pub returns-in_ok-attach-in-ValueType-clause-settles : goal.returns-in_ok-attach-in-ValueType-clause-settles
returns-in_ok-attach-in-ValueType-clause-settles c = λ yes.
    let here = c.in-ValueType in
    attached_parts c.args.finders.now c.args.statement c.into_parts-at.result here._cited (what.Type here.value_type)
    c.indices_cited-indices.result c.args.lines.now c.attach-in-ValueType.new.lines c.args.gathered.now
    c.attach-in-ValueType.new.passed
    c.requires.none c.into_parts-at.ensures here.is c.indices_cited-indices.ensures
    c.in_ok-attach-in-ValueType.ensures.attached

pub returns-in_ok-attach-in-Spn-clause-settles : goal.returns-in_ok-attach-in-Spn-clause-settles
returns-in_ok-attach-in-Spn-clause-settles c = λ yes.
    let here = c.in-Spn in
    attached_parts c.args.finders.now c.args.statement c.into_parts-at.result here._cited (what.Spn here.spn)
    c.indices_cited-indices.result c.args.lines.now c.attach-in-Spn.new.lines c.args.gathered.now
    c.attach-in-Spn.new.passed
    c.requires.none c.into_parts-at.ensures here.is c.indices_cited-indices.ensures
    c.in_ok-attach-in-Spn.ensures.attached

pub returns-in_ok-settle_other-in_default : goal.returns-in_ok-settle_other-in_default
returns-in_ok-settle_other-in_default c =
    let parts = c.into_parts-at.result in
    let gathered : IsGathered c.args.finders.now (record { at = parts.0; keyword = parts.1 }) parts.2
    c.args.gathered.now c.settle_other.new.gathered = c.in_ok-settle_other-in_default.ensures in
    record {
      messages = refl;
      settles = λ yes. other_parts c.args.finders.now c.args.statement parts gathered.index c.args.lines.now
          c.args.gathered.now c.settle_other.new.gathered
          c.requires.none c.into_parts-at.ensures gathered.none (gathered.is c.args.lines.now) gathered.gathered;
    }
