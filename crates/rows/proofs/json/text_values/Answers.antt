use Rattle.rows.proofs.Common.{◌≤◌, ◌∙◌, ℕ, List, Bor, length, map, ap, sym, take_all}
use Rattle.rows.specs.Json.{text_data}
use Rattle.rows.proofs.Pushing.{map_twice}
use Rattle.rows.proofs.json.text_values.Goals as goal

pub returns : goal.returns
returns c =
    let texts = c.args.texts.now in
    let ended : length texts ≤ c.loop-text.text-index = c.loop-text-test.false in
    c.loop-text.invariant
    ∙ ap (map (λ (text : Bor (List ℕ)). text_data text.now)) (take_all c.loop-text.text-index texts ended)
    ∙ sym (map_twice text_data (λ (text : Bor (List ℕ)). text.now) texts)
