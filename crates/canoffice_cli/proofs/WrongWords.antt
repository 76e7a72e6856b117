-- The first word that is no signal.
use Rattle.canoffice_cli.proofs.Common.{◌≡◌, ◌<◌, ℕ, List, length, map, take, Some, None, sym, ap, subst, ◌∙◌, arith}
use Rattle.canoffice_cli.proofs.Common.{Bor, length-map}
use Rattle.std.proofs.Common.{get_or}
use Rattle.std.specs.Prelude.{slice_get}
use Rattle.std.proofs.lemmas.Option.{slice_get-get_or}
use Rattle.std.proofs.lemmas.List.{get_or-map, take-map}
use Rattle.office_views.specs.declared.signal.ChartSignal.{ChartSignal}
use Rattle.office_views.specs.Word.{signal_of}
use Rattle.canoffice_cli.specs.Jobs.Charted.{AreSignals, IsFirstWrongWord}

abbrev texts : List (Bor (List ℕ)) → List (List ℕ)
texts words = map (λ s. s.now) words

pub wrong_at : (words : List (Bor (List ℕ))) (k : ℕ) (word : Bor (List ℕ)) (signals : List ChartSignal)
    → k < length words
    → signal_of (get_or words k word).now ≡ None → AreSignals (texts (take k words)) signals
    → IsFirstWrongWord (texts words) (get_or words k word).now
wrong_at words k word signals below none before =
    let within : k < length (texts words) = omega (arith, length-map words (λ (s : Bor (List ℕ)). s.now)) in
    let there : slice_get (texts words) k ≡ Some (get_or words k word).now =
    slice_get-get_or (texts words) k word.now within
    ∙ ap Some (get_or-map (λ (s : Bor (List ℕ)). s.now) words k word word.now below) in (
      k,
      signals,
      there,
      none,
      subst (λ ws. AreSignals ws signals) (sym (take-map (λ (s : Bor (List ℕ)). s.now) k words))
          before,
    )
