use Rattle.rows.proofs.Common.{◌≤◌, ◌++◌, ◌∙◌, ℕ, List, Bor, codes, length, ap, sym, flat_map, take_all, flat_map-map}
use Rattle.rows.proofs.Common.{word}
use Rattle.rows.proofs.lines.more_words.Goals as goal

pub returns : goal.returns
returns c =
    let texts = c.args.texts.now in
    let ended : length texts ≤ c.loop-bytes.bytes-index = c.loop-bytes-test.false in
    c.loop-bytes.invariant
    ∙ ap (flat_map (λ (t : Bor (List ℕ)). codes "," ++ word t.now)) (take_all c.loop-bytes.bytes-index texts ended)
    ∙ sym (flat_map-map (λ (t : List ℕ). codes "," ++ word t) (λ (t : Bor (List ℕ)). t.now) texts)
