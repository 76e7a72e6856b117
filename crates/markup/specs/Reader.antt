-- A reader of HTML. It goes byte by byte, as a browser does (the HTML Standard, tokenization), keeps which elements are
-- open, and refuses what it doesn't know. It knows nothing of how HTML is written here.
use Rattle.std.specs.Prelude.{◌≡◌, ℕ, ◌==◌, ◌&&◌, ◌||◌, Bool, true, false, List, [], ◌∷◌, ◌++◌, codes, if◌then◌else◌}
use Rattle.std.specs.List.{list_all}
use Rattle.html.specs.Characters.{is_between}
use Rattle.html.specs.Reading.{is_digit}
use Rattle.html.specs.Text.{is_plain}

-- ---- names

abbrev pub same : List ℕ → List ℕ → Bool
same [] [] = true
same (a ∷ more) (b ∷ bs) = a == b && same more bs
same _ _ = false

abbrev pub is_one_of : List (List ℕ) → List ℕ → Bool
is_one_of [] name = false
is_one_of (n ∷ names) name = same n name || is_one_of names name

-- the elements that have an end: none of them runs a script, loads a file or embeds anything
abbrev pub elements : List (List ℕ)
elements = codes "html" ∷ codes "head" ∷ codes "title" ∷ codes "style" ∷ codes "body" ∷ codes "header" ∷ codes "nav"
    ∷ codes "main" ∷ codes "section" ∷ codes "h1" ∷ codes "h2" ∷ codes "h3" ∷ codes "p" ∷ codes "ul" ∷ codes "li"
    ∷ codes "table" ∷ codes "caption" ∷ codes "thead" ∷ codes "tbody" ∷ codes "tr" ∷ codes "th" ∷ codes "td"
    ∷ codes "a" ∷ codes "b" ∷ codes "em" ∷ codes "small" ∷ codes "span" ∷ codes "code" ∷ codes "bdi" ∷ codes "i"
    ∷ codes "div" ∷ codes "details" ∷ codes "summary" ∷ codes "form" ∷ codes "button" ∷ []

-- those that have none
abbrev pub voids : List (List ℕ)
voids = codes "meta" ∷ codes "input" ∷ []

-- the attributes that may have any value
abbrev pub attributes : List (List ℕ)
attributes = codes "class" ∷ codes "id" ∷ codes "title" ∷ codes "aria-label" ∷ codes "colspan" ∷ codes "role"
    ∷ codes "tabindex" ∷ codes "open" ∷ codes "lang" ∷ codes "charset" ∷ codes "name" ∷ codes "content" ∷ []

-- ---- where the reader is

-- In a text: between characters, after `&`, after `&#`, or after digits of a reference.
pub data Part : Type 0 where
  letters : Part
  ampersand : Part
  hash : Part
  digits : Part

-- Where it is: between tags; in a title; in a style; after `<`; in the name of an element that begins, or that ends;
-- after a name or a value in a tag; in an attribute's name; after its `=`; in a value; in a value that is a number;
-- after the `/` of an element without an end; or where just these bytes have to come, and then another place.
pub data Place : Type 0 where
  content : Part → Place
  titled : Part → Place
  styled : Place
  less : Place
  begins : List ℕ → Place
  ends : List ℕ → Place
  tagged : Place
  named : List ℕ → Place
  equals : List ℕ → Place
  value : Part → Place
  number : Place
  slash : Place
  due : List ℕ → Place → Place

-- the place, and the names of the elements that are open, the innermost first; or it has refused a byte
pub data Reader : Type 0 where
  at : Place → List (List ℕ) → Reader
  refused : Reader

-- go on only if this is so
abbrev pub only : Bool → Reader → Reader
only so reader = if so then reader else refused

-- ---- a byte of a text

abbrev pub part_after : Part → ℕ → Part
part_after letters b = if b == 38 then ampersand else letters
part_after ampersand b = hash
part_after hash b = digits
part_after digits b = if b == 59 then letters else digits

-- no `<`, `>`, `"` or `'`, and an `&` only where `#`, digits and `;` follow
abbrev pub may_be : Part → ℕ → Bool
may_be letters b = b == 38 || is_plain b
may_be ampersand b = b == 35
may_be hash b = is_digit b
may_be digits b = b == 59 || is_digit b

-- a text that ends with this byte, between characters
abbrev pub in_text : ℕ → Reader → (Part → Place) → Part → List (List ℕ) → ℕ → Reader
in_text end next place letters opened b =
    if b == end then next else only (may_be letters b) (at (place (part_after letters b)) opened)
in_text end next place part opened b = only (may_be part b) (at (place (part_after part b)) opened)

-- visible, a space, a tab or a line feed
abbrev pub is_ascii : ℕ → Bool
is_ascii b = is_between 32 126 b || (b == 9 || b == 10)

-- ---- a byte of a tag

-- of a name: a small letter, a digit or `-`
abbrev pub is_letter : ℕ → Bool
is_letter b = is_between 97 122 b || (is_digit b || b == 45)

-- what is in the element that began
abbrev pub inside : List ℕ → Place
inside name =
    if same (codes "title") name then titled letters
    else (if same (codes "style") name then styled else content letters)

-- its tag ends
abbrev pub began : List (List ℕ) → Reader
began [] = refused
began (name ∷ opened) = only (is_one_of elements name) (at (inside name) (name ∷ opened))

-- the tag of an element without an end ends
abbrev pub passed : List (List ℕ) → Reader
passed [] = refused
passed (name ∷ opened) = only (is_one_of voids name) (at (content letters) opened)

-- the last element that began, and no other, ends
abbrev pub ended : List ℕ → List (List ℕ) → Reader
ended name [] = refused
ended name (last ∷ opened) = only (same last name) (at (content letters) opened)

-- after a name or a value: a space, `>` or `/`
abbrev pub in_tag : List (List ℕ) → ℕ → Reader
in_tag opened b =
    if b == 32 then at (named []) opened
    else (if b == 62 then began opened else only (b == 47) (at slash opened))

-- What a value begins with: a link leads to a part of the page, a style is a share of a line, and what stands for a
-- header is the policy of what a page may load.
abbrev pub in_value : List ℕ → List (List ℕ) → Reader
in_value name opened =
    if same (codes "href") name then at (due (codes "#") (value letters)) opened
    else (if same (codes "style") name then at (due (codes "flex:") number) opened
    else (if same (codes "http-equiv") name then at (due (codes "Content-Security-Policy\"") tagged) opened
    else only (is_one_of attributes name) (at (value letters) opened)))

-- after the first of the bytes that have to come
abbrev pub when_due : List ℕ → Place → Place
when_due [] next = next
when_due bytes next = due bytes next

-- ---- any byte

abbrev pub step : Place → List (List ℕ) → ℕ → Reader
step (content part) opened b = in_text 60 (at less opened) content part opened b
step (titled part) opened b = in_text 60 (at (due (codes "/") (ends [])) opened) titled part opened b
step styled opened b =
    if b == 60 then at (due (codes "/") (ends [])) opened else only (is_ascii b) (at styled opened)
step less opened b =
    if b == 47 then at (ends []) opened
    else (if b == 33 then at (due (codes "DOCTYPE html>") (content letters)) opened
    else only (is_letter b) (at (begins (b ∷ [])) opened))
step (begins name) opened b =
    if is_letter b then at (begins (name ++ b ∷ [])) opened else in_tag (name ∷ opened) b
step (ends name) opened b =
    if b == 62 then ended name opened else only (is_letter b) (at (ends (name ++ b ∷ [])) opened)
step tagged opened b = in_tag opened b
step (named name) opened b =
    if b == 61 then at (equals name) opened else only (is_letter b) (at (named (name ++ b ∷ [])) opened)
step (equals name) opened b = only (b == 34) (in_value name opened)
step (value part) opened b = in_text 34 (at tagged opened) value part opened b
step number opened b = if b == 34 then at tagged opened else only (is_digit b) (at number opened)
step slash opened b = only (b == 62) (passed opened)
step (due [] next) opened b = refused
step (due (d ∷ bytes) next) opened b = only (is_ascii b && b == d) (at (when_due bytes next) opened)

abbrev pub after : Reader → ℕ → Reader
after (at place opened) b = step place opened b
after refused b = refused

abbrev pub read : Reader → List ℕ → Reader
read reader [] = reader
read reader (b ∷ bs) = read (after reader b) bs

-- ---- what is well-formed

-- between tags, where these elements are open
abbrev pub within : List (List ℕ) → Reader
within opened = at (content letters) opened

-- Read from the beginning to the end, the bytes bring the reader to where no element is open: none is refused, and each
-- element that began has ended, in its place. It doesn't say where HTML allows an element: a document type, or a row of
-- a table, may stand anywhere, and a browser ignores it where it doesn't belong. Nor that an attribute comes once.
abbrev pub IsWellFormed : List ℕ → Type 0
IsWellFormed bytes = read (within []) bytes ≡ within []

-- what is well-formed is ASCII
abbrev pub AreAscii : Type 0
AreAscii = (bytes : List ℕ) → IsWellFormed bytes → list_all is_ascii bytes ≡ true
