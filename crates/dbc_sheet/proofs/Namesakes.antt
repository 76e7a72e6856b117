-- The message of a name, among messages whose names are apart.
use Rattle.dbc_sheet.proofs.Common.{◌≡◌, ◌∙◌, true, false, Bool, List, [], ◌∷◌, Some, sym, ap, bytes_eq}
use Rattle.dbc_sheet.proofs.Common.{AreNamedApart}
use Rattle.std.specs.Prelude.{find, cond}
use Rattle.std.specs.List.{IsDistinct}
use Rattle.std.proofs.lemmas.Bool.{cond-true, cond-false}
use Rattle.std.proofs.lemmas.Slice.Eq.{bytes_eq-Decides}
use Rattle.dbc_words.proofs.NamedThings.{some_none, some_same, found_is}
use Rattle.dbc_words.specs.Named.{thing_named}
use Rattle.dbc_sheet.specs.Messages.{message_name}
use Rattle.dbc_sheet.specs.declared.message.Message.{Message}

-- whichever is found is the one of its name
pub namesake : (p : Message → Bool) (xs : List Message) → AreNamedApart message_name xs → (m : Message)
    → find p xs ≡ Some m → thing_named message_name xs m.name ≡ Some m
unfolding IsDistinct
namesake p [] apart m e = absurd (some_none m (sym e))
namesake p (x ∷ xs) apart m e = by_test (p x) e (namesake p xs apart.1 m)
  where
    by_test : (b : Bool) → cond b (Some x) (find p xs) ≡ Some m
        → (find p xs ≡ Some m → thing_named message_name xs m.name ≡ Some m)
        → thing_named message_name (x ∷ xs) m.name ≡ Some m
    by_test true same later =
        cond-true (bytes_eq x.name m.name) (Some x) (thing_named message_name xs m.name)
        ((bytes_eq-Decides x.name m.name).1 (ap message_name (some_same x m same)))
        ∙ same
    by_test false same later =
        cond-false (bytes_eq x.name m.name) (Some x) (thing_named message_name xs m.name)
        (found_is (λ y. bytes_eq x.name y.name ≡ false) p xs m same apart.0)
        ∙ later same
