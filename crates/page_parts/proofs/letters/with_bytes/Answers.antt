use Rattle.std.proofs.Common.{◌∙◌, ap, map, rules, List, ℕ, Bor}
use Rattle.std.proofs.lemmas.List.Elements.{filter_from_retain}
use Rattle.page_parts.specs.Letters.{has_bytes}
use Rattle.page_parts.proofs.Once.{filter_mapped}
use Rattle.page_parts.proofs.letters.with_bytes.Goals as goal

pub returns : goal.returns
returns c =
    ap (map (λ (one : Bor (List ℕ)). one.now))
    (filter_from_retain _ (λ (one : Bor (List ℕ)). has_bytes one.now) (λ f x b g called. search rules) _ _ _
    c.retain.ensures.filtered)
    ∙ filter_mapped has_bytes (λ (one : Bor (List ℕ)). one.now) c.args.names.items
