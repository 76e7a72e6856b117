-- Worked examples of lines, words, values and fields, computed from the definitions.
use Rattle.std.proofs.Common.{◌≡◌, ℕ, List, [], ◌∷◌, map, Some, None, true, false, codes, refl}
use Rattle.office_fields.specs.Given.{NamedValue}
use Rattle.office_script.specs.Escapes.{unescaped}
use Rattle.office_script.specs.Fields.{fields_of}
use Rattle.office_script.specs.Lines.{lines_of, says_nothing}
use Rattle.office_script.specs.Words.{words_of}

lines : map lines_of ([] ∷ codes "\n" ∷ codes "a" ∷ codes "a\n" ∷ codes "a\nb" ∷ codes "a\n\nb\n\n" ∷ codes "a\r\nb"
    ∷ [])
    ≡ []
    ∷ ([] ∷ [])
    ∷ (codes "a" ∷ [])
    ∷ (codes "a" ∷ [])
    ∷ (codes "a" ∷ codes "b" ∷ [])
    ∷ (codes "a" ∷ [] ∷ codes "b" ∷ [] ∷ [])
    ∷ (codes "a\r" ∷ codes "b" ∷ [])
    ∷ []
lines = refl

remarks : map says_nothing ([] ∷ codes "#" ∷ codes "# office" ∷ codes " " ∷ codes " #" ∷ codes "\r" ∷ [])
    ≡ true ∷ true ∷ true ∷ false ∷ false ∷ false ∷ []
remarks = refl

words : map words_of ([] ∷ codes "- office open_net" ∷ codes "a  b" ∷ codes " a" ∷ codes "a " ∷ codes "a\tb\r" ∷ [])
    ≡ ([] ∷ [])
    ∷ (codes "-" ∷ codes "office" ∷ codes "open_net" ∷ [])
    ∷ (codes "a" ∷ [] ∷ codes "b" ∷ [])
    ∷ ([] ∷ codes "a" ∷ [])
    ∷ (codes "a" ∷ [] ∷ [])
    ∷ (codes "a\tb\r" ∷ [])
    ∷ []
words = refl

values : map unescaped ([] ∷ codes "Dash" ∷ codes "%3A" ∷ codes "%3a" ∷ codes "0%3AOff" ∷ codes "%25" ∷ codes "%2541"
    ∷ codes "a%20b%0A" ∷ codes "%fF%00" ∷ [])
    ≡ Some []
    ∷ Some (codes "Dash")
    ∷ Some (codes ":")
    ∷ Some (codes ":")
    ∷ Some (codes "0:Off")
    ∷ Some (codes "%")
    ∷ Some (codes "%41")
    ∷ Some (codes "a b\n")
    ∷ Some (255 ∷ 0 ∷ [])
    ∷ []
values = refl

no_values : map unescaped
    (codes "%" ∷ codes "%4" ∷ codes "%zz" ∷ codes "a%" ∷ codes "%%41" ∷ codes "%g0" ∷ codes "%0g" ∷ [])
    ≡ None ∷ None ∷ None ∷ None ∷ None ∷ None ∷ None ∷ []
no_values = refl

abbrev named : List ℕ → List ℕ → NamedValue
named name value = record { name = name; value = value }

fields : map (λ line. fields_of (words_of line))
    (codes "net=truck kind=can" ∷ codes "value=0:Off value=1%3aOn" ∷ codes "comment=a=b" ∷ codes "comment=" ∷ codes "=x"
    ∷ codes "%41=%41" ∷ [])
    ≡ Some (named (codes "net") (codes "truck") ∷ named (codes "kind") (codes "can") ∷ [])
    ∷ Some (named (codes "value") (codes "0:Off") ∷ named (codes "value") (codes "1:On") ∷ [])
    ∷ Some (named (codes "comment") (codes "a=b") ∷ [])
    ∷ Some (named (codes "comment") [] ∷ [])
    ∷ Some (named [] (codes "x") ∷ [])
    ∷ Some (named (codes "%41") (codes "A") ∷ [])
    ∷ []
fields = refl

no_fields : map (λ line. fields_of (words_of line))
    (codes "net" ∷ [] ∷ codes "net=truck  kind=can" ∷ codes "net=truck kind=%" ∷ [])
    ≡ None ∷ None ∷ None ∷ None ∷ []
no_fields = refl
