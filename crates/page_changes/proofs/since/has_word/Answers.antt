use Rattle.page_changes.proofs.Common.{◌∙◌, sym, bytes_eq}
use Rattle.page_parts.proofs.Once.{any_mapped}
use Rattle.page_changes.specs.Names.{text_of}
use Rattle.page_changes.proofs.since.has_word.Goals as goal

pub returns : goal.returns
returns c =
    c.contains.ensures.value ∙ sym (any_mapped (λ w. bytes_eq w c.args.word.now) text_of c.args.words.now)
