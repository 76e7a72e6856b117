-- A reader over tags.
use Rattle.std.proofs.Common.{◌≡◌, ◌==◌, ◌++◌, ◌∙◌, ◌⊎◌, ℕ, Bool, true, false, List, [], ◌∷◌, if◌then◌else◌, refl, sym, ap}
use Rattle.std.proofs.Common.{drop, inl, inr, subst}
use Rattle.std.specs.Prelude.{codes, decimal}
use Rattle.std.specs.List.{flat_map}
use Rattle.html.specs.Text.{escaped}
use Rattle.markup.specs.Html.{attribute_html, attributes_html, end_tag, start_tag, tag_html, tag_name, valued}
use Rattle.markup.specs.Html.{void_html, words}
use Rattle.markup.specs.Reader.{Place, Reader, at, begins, in_tag, is_letter, letters, number, read, step, tagged}
use Rattle.markup.specs.Reader.{value, within}
use Rattle.markup.specs.declared.attribute.Attribute.{Attribute}
use Rattle.markup.specs.declared.attribute.Attribute.TheVariants as with
use Rattle.markup.specs.declared.tag.Tag.{Tag}
use Rattle.markup.specs.declared.tag.Tag.TheVariants as tag
use Rattle.markup.specs.declared.tag.Void.{Void}
use Rattle.markup.specs.declared.tag.Void.TheVariants as void
use Rattle.markup.proofs.Texts.{both, decimal_read, escaped_read, number_read, value_text, words_read}

-- ---- attributes

valued_read : (before bytes : List ℕ) (place : Place) (opened : List (List ℕ))
    → read (at tagged opened) before ≡ at place opened → read (at place opened) bytes ≡ at place opened
    → step place opened 34 ≡ at tagged opened → read (at tagged opened) (valued before bytes) ≡ at tagged opened
valued_read before bytes place opened first second third =
    both (at tagged opened) (at place opened) (at tagged opened) before (bytes ++ codes "\"") first
    (both (at place opened) (at place opened) (at tagged opened) bytes (codes "\"") second third)

text_read : (before bytes : List ℕ) (opened : List (List ℕ))
    → read (at tagged opened) before ≡ at (value letters) opened
    → read (at tagged opened) (valued before (escaped bytes)) ≡ at tagged opened
text_read before bytes opened first =
    valued_read before (escaped bytes) (value letters) opened first (escaped_read value value_text opened bytes) refl

if_read : (t : Bool) (bytes : List ℕ) (opened : List (List ℕ)) → read (at tagged opened) bytes ≡ at tagged opened
    → read (at tagged opened) (if t then [] else bytes) ≡ at tagged opened
if_read true bytes opened h = refl
if_read false bytes opened h = h

attribute_read : (a : Attribute) (opened : List (List ℕ))
    → read (at tagged opened) (attribute_html a) ≡ at tagged opened
attribute_read (with.Class classes) opened = text_read (codes " class=\"") classes.now opened refl
attribute_read (with.Id pieces) opened =
    valued_read (codes " id=\"") (words pieces.now) (value letters) opened refl
    (words_read value value_text opened pieces.now) refl
attribute_read (with.ToPart pieces) opened =
    valued_read (codes " href=\"#") (words pieces.now) (value letters) opened refl
    (words_read value value_text opened pieces.now) refl
attribute_read (with.Title pieces) opened =
    valued_read (codes " title=\"") (words pieces.now) (value letters) opened refl
    (words_read value value_text opened pieces.now) refl
attribute_read (with.Label pieces) opened =
    valued_read (codes " aria-label=\"") (words pieces.now) (value letters) opened refl
    (words_read value value_text opened pieces.now) refl
attribute_read (with.Columns count) opened =
    if_read (count == 1) (valued (codes " colspan=\"") (decimal count)) opened
    (valued_read (codes " colspan=\"") (decimal count) (value letters) opened refl
    (decimal_read value value_text opened count) refl)
attribute_read (with.Flex share) opened =
    valued_read (codes " style=\"flex:") (decimal share) number opened refl (number_read share opened) refl
attribute_read (with.Name name) opened = text_read (codes " name=\"") name.now opened refl
attribute_read (with.Content bytes) opened = text_read (codes " content=\"") bytes.now opened refl
attribute_read w opened = refl

attributes_read : (more : List Attribute) (opened : List (List ℕ))
    → read (at tagged opened) (flat_map attribute_html more) ≡ at tagged opened
attributes_read [] opened = refl
attributes_read (a ∷ more) opened =
    let here = at tagged opened in
    both here here here (attribute_html a) (flat_map attribute_html more) (attribute_read a opened)
    (attributes_read more opened)

-- ---- an element's name ends where an attribute or the end of the tag begins

name_ends : (name : List ℕ) (opened : List (List ℕ)) (b : ℕ) (bs : List ℕ) → is_letter b ≡ false
    → read (at (begins name) opened) (b ∷ bs) ≡ read (at tagged (name ∷ opened)) (b ∷ bs)
name_ends name opened b bs h =
    ap (λ t. read (if t then at (begins (name ++ b ∷ [])) opened else in_tag (name ∷ opened) b) bs) h

-- nothing, or a space and what follows it
abbrev StartsWithSpace : List ℕ → Type 0
StartsWithSpace v = (v ≡ []) ⊎ (v ≡ 32 ∷ drop 1 v)

if_space : (t : Bool) (v : List ℕ) → StartsWithSpace v → StartsWithSpace (if t then [] else v)
if_space true v h = inl refl
if_space false v h = h

after_space : (a : Attribute) → StartsWithSpace (attribute_html a)
after_space (with.Columns count) = if_space (count == 1) (valued (codes " colspan=\"") (decimal count)) (inr refl)
after_space w = inr refl

-- the bytes are read after the name as after its tag's space
abbrev AreRead : List ℕ → List (List ℕ) → List ℕ → Type 0
AreRead name opened bytes =
    read (at (begins name) opened) bytes ≡ read (at tagged (name ∷ opened)) bytes

after_name : (name : List ℕ) (opened : List (List ℕ)) (more : List Attribute) (b : ℕ) (bs : List ℕ)
    → is_letter b ≡ false → AreRead name opened (flat_map attribute_html more ++ b ∷ bs)
after_name name opened [] b bs h = name_ends name opened b bs h
after_name name opened (a ∷ more) b bs h =
    let others = flat_map attribute_html more in
    let same : List ℕ → Type 0 = λ (v : List ℕ). AreRead name opened ((v ++ others) ++ b ∷ bs) in
    let starts = after_space a in
    elim starts [
      | inl e ↦ subst same (sym e) (after_name name opened more b bs h)
      | inr e ↦
          subst same (sym e) (name_ends name opened 32 ((drop 1 (attribute_html a) ++ others) ++ b ∷ bs) refl)
    ]

tag_read : (name : List ℕ) (more : List Attribute) (b : ℕ) (bs : List ℕ) (opened : List (List ℕ)) (r : Reader)
    → read (within opened) (60 ∷ name) ≡ at (begins name) opened → is_letter b ≡ false
    → read (at tagged (name ∷ opened)) (b ∷ bs) ≡ r
    → read (within opened) (tag_html name (attributes_html more) (b ∷ bs)) ≡ r
tag_read name more b bs opened r begun h last =
    both (within opened) (at (begins name) opened) r (60 ∷ name) (flat_map attribute_html more ++ b ∷ bs) begun
    (after_name name opened more b bs h
    ∙ both (at tagged (name ∷ opened)) (at tagged (name ∷ opened)) r (flat_map attribute_html more) (b ∷ bs)
    (attributes_read more (name ∷ opened)) last)

-- ---- tags

-- what is read of a tag's name, of the end of its start, and of its end
record IsRead (t : Tag) : Type 0 where
  name : (opened : List (List ℕ)) → read (within opened) (60 ∷ tag_name t) ≡ at (begins (tag_name t)) opened
  start : (opened : List (List ℕ)) → read (at tagged (tag_name t ∷ opened)) (codes ">") ≡ within (tag_name t ∷ opened)
  end : (opened : List (List ℕ)) → read (within (tag_name t ∷ opened)) (end_tag t) ≡ within opened

is_read : (t : Tag) → IsRead t
unfolding end_tag
is_read tag.Html = record { name = λ o. refl; start = λ o. refl; end = λ o. refl }
is_read t = record { name = λ o. refl; start = λ o. refl; end = λ o. refl }

pub start_read : (t : Tag) (more : List Attribute) (opened : List (List ℕ))
    → read (within opened) (start_tag t (attributes_html more)) ≡ within (tag_name t ∷ opened)
unfolding start_tag
start_read t more opened =
    tag_read (tag_name t) more 62 [] opened (within (tag_name t ∷ opened)) ((is_read t).name opened) refl
    ((is_read t).start opened)

pub end_read : (t : Tag) (opened : List (List ℕ)) → read (within (tag_name t ∷ opened)) (end_tag t) ≡ within opened
end_read t opened = (is_read t).end opened

pub void_read : (v : Void) (more : List Attribute) (opened : List (List ℕ))
    → read (within opened) (void_html v (attributes_html more)) ≡ within opened
void_read void.Meta more opened = tag_read (codes "meta") more 47 (codes ">\n") opened (within opened) refl refl refl
void_read void.Input more opened = tag_read (codes "input") more 47 (codes ">") opened (within opened) refl refl refl
