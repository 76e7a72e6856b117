-- Writing a text piece by piece.
use Rattle.canoffice_cli.proofs.Common.{◌+◌, ℕ, List, Option, take, drop, subst, sym, Appends}
use Rattle.std.proofs.lemmas.List.{take-append-drop}
use Rattle.std.proofs.Math.Seq.{take-add}
use Rattle.std.proofs.KnownBytes.{Appends-trans, Appends-kept}
use Rattle.std.specs.Io.KnownBytes.{Keeps}
use Rattle.canoffice_cli.specs.Delivery.{IsCut}

module _ (old mid new : Option (List ℕ)) (text : List ℕ) (at : ℕ) (before : Appends old mid (take at text)) where
  -- after the prefix, the next bytes of the text
  pub written_on : (count : ℕ) → Appends mid new (take count (drop at text)) → Appends old new (take (at + count) text)
  written_on count more = subst (Appends old new) (sym (take-add at count text))
      (Appends-trans old mid new _ _ before more)

  pub cut_on : (count : ℕ) → Appends mid new (take count (drop at text)) → IsCut (old, new) text
  cut_on count more = (
    take (at + count) text,
    drop (at + count) text,
    sym (take-append-drop (at + count) text),
    written_on count more,
  )

  -- after the prefix, nothing more
  pub cut_here : Keeps mid new → IsCut (old, new) text
  cut_here kept = (take at text, drop at text, sym (take-append-drop at text), Appends-kept old mid new _ before kept)
