-- Worked examples of the definitions.
use Rattle.std.proofs.Common.{◌≡◌, ℕ, List, [], ◌∷◌, Option, Some, None, map, codes, inr, refl}
use Rattle.std.specs.Fmt.{digits}
use Rattle.dbc_words.specs.Name.{is_name}
use Rattle.office_fields.specs.declared.field.Field.TheVariants as field
use Rattle.office_fields.specs.declared.field.FieldKind.TheVariants as kind
use Rattle.office_fields.specs.declared.kind.ActionKind.TheVariants as act
use Rattle.office_fields.specs.declared.kind.CommandKind.TheVariants.{Act}
use Rattle.office_script.specs.Files.{Files, absent}
use Rattle.office_script.specs.Lines.{lines_of}
use Rattle.office_script.specs.Requests.{requested_by}
use Rattle.office_script.specs.Words.{words_of}
use Rattle.office_script.specs.declared.keys.Dash.TheVariants as dash
use Rattle.office_advice.specs.Cause.{part_wrong, wrong_at, wrong_of}
use Rattle.office_advice.specs.Explained.{IsStatedOf, wrong_parts}
use Rattle.office_advice.specs.Phrase.{phrase_of}
use Rattle.office_advice.specs.Words.{offset_of, word_of}
use Rattle.office_advice.specs.Sentence.{sentence_of}
use Rattle.office_advice.specs.declared.cause.Cause.TheVariants.{Short, Key, Team, Command, PartCommand, NoField}
use Rattle.office_advice.specs.declared.cause.Cause.TheVariants.{Escape, Unknown, Doubled, WrongValue, Missing, Apart}
use Rattle.office_advice.specs.declared.cause.LineCommand.TheVariants.{Part, Whole}
use Rattle.office_advice.specs.declared.cause.Wrong.{Wrong}

-- ---- offsets

offsets : map (offset_of (words_of (codes "k1  engine submit"))) (0 ∷ 1 ∷ 2 ∷ 3 ∷ []) ≡ 0 ∷ 3 ∷ 4 ∷ 11 ∷ []
offsets = refl

words : map (word_of (words_of (codes "k1  engine"))) (0 ∷ 1 ∷ 2 ∷ 3 ∷ []) ≡ codes "k1" ∷ [] ∷ codes "engine" ∷ [] ∷ []
words = refl

-- ---- causes

-- of a script in memory
abbrev wrongs : List (List ℕ) → List (Option Wrong)
wrongs lines = map (wrong_of dash.LineNumber 7) lines

right : wrongs ([] ∷ codes "# k1" ∷ codes "- engine submit net=truck" ∷ codes "- engine retire message=E1 net=truck"
    ∷ [])
    ≡ None ∷ None ∷ None ∷ None ∷ []
unfolding digits is_name
right = refl

first_words : wrongs (codes "k1" ∷ codes "k1 engine" ∷ codes " engine submit net=truck"
    ∷ codes "k1 Engine submit net=truck" ∷ codes "k1 engine fly net=truck" ∷ [])
    ≡ Some (wrong_at 0 Short) ∷ Some (wrong_at 0 Short) ∷ Some (wrong_at 0 (Key dash.LineNumber))
    ∷ Some (wrong_at 1 Team) ∷ Some (wrong_at 2 Command) ∷ []
first_words = refl

dash_in_a_database : wrong_of dash.Wrong 7 (codes "- engine submit net=truck") ≡ Some (wrong_at 0 (Key dash.Wrong))
dash_in_a_database = refl

-- a word that is no field is reported before an unknown field that comes before it
forms : wrongs (codes "k1 engine submit" ∷ codes "k1 engine submit net" ∷ codes "k1 engine submit net=truck "
    ∷ codes "k1 engine submit nets=truck net=tru%c" ∷ [])
    ≡ Some (wrong_at 2 (Missing field.Net)) ∷ Some (wrong_at 3 NoField) ∷ Some (wrong_at 4 NoField)
    ∷ Some (wrong_at 4 Escape) ∷ []
forms = refl

unknown_field : wrongs (codes "k1 engine retire net=truck mesage=E1" ∷ codes "k1 engine submit Net=truck" ∷ [])
    ≡ Some (wrong_at 4 (Unknown (Whole (Act act.Retire)))) ∷ Some (wrong_at 3 (Unknown (Whole (Act act.Submit)))) ∷ []
unknown_field = refl

-- the second one is to blame, and a receiver may be given again
doubled_field : wrongs (codes "k1 engine retire net=truck message=E1 net=truck"
    ∷ codes "k1 engine take_bits receiver=Dash receiver=ECU net=truck net=car" ∷ [])
    ≡ Some (wrong_at 5 (Doubled field.Net)) ∷ Some (wrong_at 6 (Doubled field.Net)) ∷ []
unfolding is_name
doubled_field = refl

missing_field : wrongs (codes "k1 engine retire net=truck" ∷ codes "k1 engine retire message=E1" ∷ [])
    ≡ Some (wrong_at 2 (Missing field.Message)) ∷ Some (wrong_at 2 (Missing field.Net)) ∷ []
unfolding is_name
missing_field = refl

-- the value is reported, though a field is missing too
wrong_value : wrongs (codes "k1 office open_net net=truck kind=can reviews=10" ∷ codes "k1 engine retire net=Truck"
    ∷ [])
    ≡ Some (wrong_at 5 (WrongValue field.Reviews)) ∷ Some (wrong_at 3 (WrongValue field.Net)) ∷ []
wrong_value = refl

apart : wrongs (codes "k1 office grant net=truck team=engine last=8 form=std first=9"
    ∷ codes "k1 office grant net=truck team=engine form=std first=0 last=2048" ∷ [])
    ≡ Some (wrong_at 5 (Apart field.Last)) ∷ Some (wrong_at 7 (Apart field.Last)) ∷ []
apart = refl

-- ---- sentences

phrases : map phrase_of (kind.Length ∷ kind.Size ∷ kind.NetKind ∷ []) ≡ codes "a whole number from 0 to 1785"
    ∷ codes "a whole number from 1 to 64" ∷ codes "can or j1939" ∷ []
unfolding digits
phrases = refl

missing : sentence_of (Missing field.Length) (codes "take_ident")
    ≡ codes "found 'take_ident', but length is missing: length is a whole number from 0 to 1785"
unfolding digits
missing = refl

empty_word : sentence_of NoField []
    ≡ codes "found '', but a field is name=value; there is exactly one space between words, and none at the ends of a line"
empty_word = refl

-- `truck` and a carriage return
carriage_return : sentence_of (Doubled field.Net) (116 ∷ 114 ∷ 117 ∷ 99 ∷ 107 ∷ 13 ∷ [])
    ≡ codes "found 'truck?', but net is given before, and may be given once only; end lines with a line feed alone, without a carriage return"
carriage_return = refl

-- ---- bundles

parts : map part_wrong (codes "submit" ∷ codes "# submit" ∷ codes "retire message=E1" ∷ []) ≡ None ∷ None ∷ None ∷ []
unfolding is_name
parts = refl

wrong_part_words : map part_wrong
    (codes "submit net=truck" ∷ codes "import file=a.dbc" ∷ codes "k1 engine submit" ∷ codes "retire" ∷ [])
    ≡ Some (wrong_at 1 (Unknown (Part act.Submit))) ∷ Some (wrong_at 0 PartCommand) ∷ Some (wrong_at 0 PartCommand)
    ∷ Some (wrong_at 0 (Missing field.Message)) ∷ []
wrong_part_words = refl

-- ---- scripts

abbrev no_files : Files
no_files path = absent

first_wrong_line : IsStatedOf no_files (codes "a.txt") dash.LineNumber 1
    (lines_of (codes "- engine submit net=truck\n\n- engine retire mesage=E1\n- engine fly\n"))
    (codes "a.txt:3:17: bad line: found 'mesage=E1', but the fields of retire are net, message\n")
unfolding digits requested_by
first_wrong_line = inr (tt, inr (tt, refl))

no_wrong_line : IsStatedOf no_files (codes "a.txt") dash.LineNumber 1
    (lines_of (codes "# nothing\n- engine submit net=truck")) []
unfolding digits requested_by
no_wrong_line = inr (tt, inr (tt, refl))

-- of a bundle's file, and of one that has no command
wrong_part : wrong_parts (codes "a.txt") 1 (codes "- engine bundle net=truck file=b.txt") (codes "b.txt")
    (codes "# a message\nretire mesage=E1\n")
    ≡ codes "b.txt:2:8: bad line: found 'mesage=E1', but the fields of retire are message\n"
unfolding digits
wrong_part = refl

no_part : wrong_parts (codes "a.txt") 1 (codes "- engine bundle net=truck file=b.txt") (codes "b.txt")
    (codes "# a message\n")
    ≡ codes "a.txt:1:10: bad line: found 'bundle', but the file of a bundle has 1 to 64 commands\n"
unfolding digits
no_part = refl
