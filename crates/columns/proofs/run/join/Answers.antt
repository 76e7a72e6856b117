use Rattle.std.proofs.Common.{◌≡◌, ◌+◌, ◌-◌, ◌<◌, length, arith, ap, ◌∙◌, sym}
use Rattle.std.proofs.lemmas.List.{get_or_default}
use Rattle.columns.specs.declared.run.Run.{Run}
use Rattle.columns.proofs.Joining.{joins_last}
use Rattle.columns.proofs.run.join.Goals as goal

pub returns-then-from : goal.returns-then-from
returns-then-from c =
    let runs = c.args.runs.now.items in
    let last : (c.len-count.result - 1) + 1 ≡ length runs = omega arith in
    let below : c.len-count.result - 1 < length runs = omega arith in
    let same : c.index_mut.result.now ≡ c.index.result.now =
    c.index_mut.ensures.value
    ∙ get_or_default runs (c.len-count.result - 1) c.index_mut.result.now c.index.result.now below
    ∙ sym c.index.ensures in
    let above : c.index_mut.result.now.first ≡ c.args.number + c.args.step =
    ap (λ (r : Run). r.first) same ∙ sym c.from.ensures ∙ omega arith in
    joins_last runs (c.len-count.result - 1) c.args.step c.args.number c.index_mut.result.now last
    c.index_mut.ensures.value above
