use Rattle.std.proofs.Common.{◌&&◌, ◌∙◌}
use Rattle.std.specs.Str.{bytes_eq}
use Rattle.office_types.specs.Block.{same_form}
use Rattle.office_types.specs.declared.state.GrantedBlock.{GrantedBlock}
use Rattle.office_rules.specs.Facts.{numbers_of}
use Rattle.office_facts.proofs.Owning.{list_any-some}
use Rattle.office_facts.proofs.blocks.has_block.Goals as goal

pub returns : goal.returns
returns c =
    c.some_block.ensures
    ∙ list_any-some (λ (g : GrantedBlock). numbers_of g.block)
    (λ g. same_form g.block.form c.args.form && bytes_eq g.team c.args.team.now) c.args.blocks.now
