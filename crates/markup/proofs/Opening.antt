-- Which elements a piece of HTML leaves open, when something is added to it.
use Rattle.std.proofs.Common.{◌≡◌, ◌++◌, ◌∙◌, ◌==◌, ℕ, Bool, true, false, List, [], ◌∷◌, if◌then◌else◌, refl, sym, ap}
use Rattle.std.proofs.Common.{append-nil, append_assoc, map, not, reverse, subst, Ok, Err, is_err, is_ok, OnOk, Result}
use Rattle.std.specs.Prelude.{codes, decimal}
use Rattle.std.specs.List.{flat_map, list_all}
use Rattle.std.proofs.lemmas.Bool.{and_parts, false≢true}
use Rattle.std.proofs.lemmas.List.{reverse-append}
use Rattle.html.specs.Text.{escaped}
use Rattle.markup.specs.Html.{attributes_html, doctype, end_tag, is_style, start_tag, style_html, style_part, tag_name}
use Rattle.markup.specs.Html.{title_html, void_html, words}
use Rattle.markup.specs.Reader.{IsWellFormed, at, content, due, ends, is_ascii, letters, only, read, styled}
use Rattle.markup.specs.Reader.{titled, within}
use Rattle.markup.specs.Writing.{Opens}
use Rattle.markup.specs.declared.attribute.Attribute.{Attribute}
use Rattle.markup.specs.declared.attribute.Piece.{Piece}
use Rattle.markup.specs.declared.tag.Tag.{Tag}
use Rattle.markup.specs.declared.tag.Void.{Void}
use Rattle.markup.proofs.Tags.{end_read, start_read, void_read}
use Rattle.markup.proofs.Texts.{both, content_text, decimal_read, escaped_read, titled_text, words_read}

-- ---- whole pieces: they leave open what was open before them

pub of_nothing : Opens [] []
of_nothing = record { reads = λ beneath. refl }

pub of_text : (bytes : List ℕ) → Opens (escaped bytes) []
of_text bytes = record { reads = λ beneath. escaped_read content content_text beneath bytes }

pub of_number : (n : ℕ) → Opens (decimal n) []
of_number n = record { reads = λ beneath. decimal_read content content_text beneath n }

pub of_void : (v : Void) (more : List Attribute) → Opens (void_html v (attributes_html more)) []
of_void v more = record { reads = λ beneath. void_read v more beneath }

pub of_doctype : Opens doctype []
of_doctype = record { reads = λ beneath. refl }

pub of_title : (pieces : List Piece) → Opens (title_html pieces) []
of_title pieces = record {
  reads = λ beneath.
      let here = at (titled letters) (codes "title" ∷ beneath) in
      both (within beneath) here (within beneath) (codes "<title>") (words pieces ++ codes "</title>\n") refl
      (both here here (within beneath) (words pieces) (codes "</title>\n")
      (words_read titled titled_text (codes "title" ∷ beneath) pieces) refl);
}

-- ---- a style

styled_step : (opened : List (List ℕ)) (b : ℕ) → is_style b ≡ true
    → read (at styled opened) (b ∷ []) ≡ at styled opened
styled_step opened b h =
    let parts = and_parts (is_ascii b) (not (b == 60)) h in
    let off : (b == 60) ≡ false = not_true (b == 60) parts.1 in
    ap (λ t. if t then at (due (codes "/") (ends [])) opened else only (is_ascii b) (at styled opened)) off
    ∙ ap (λ t. only t (at styled opened)) parts.0
  where
    not_true : (t : Bool) → not t ≡ true → t ≡ false
    not_true true e = sym e
    not_true false e = refl

styled_read : (opened : List (List ℕ)) (bs : List ℕ) → list_all is_style bs ≡ true
    → read (at styled opened) bs ≡ at styled opened
styled_read opened [] h = refl
styled_read opened (b ∷ bs) h =
    let parts = and_parts (is_style b) (list_all is_style bs) h in
    ap (λ q. read q bs) (styled_step opened b parts.0) ∙ styled_read opened bs parts.1

part_read : (opened : List (List ℕ)) (bytes : List ℕ) (t : Bool) → list_all is_style bytes ≡ t
    → read (at styled opened) (if t then bytes else []) ≡ at styled opened
part_read opened bytes true h = styled_read opened bytes h
part_read opened bytes false h = refl

parts_read : {X : Type 0} (opened : List (List ℕ)) (bytes_of : X → List ℕ) (parts : List X)
    → read (at styled opened) (flat_map (λ part. style_part (bytes_of part)) parts) ≡ at styled opened
parts_read opened bytes_of [] = refl
parts_read opened bytes_of (p ∷ parts) =
    let here = at styled opened in
    both here here here (style_part (bytes_of p)) (flat_map (λ part. style_part (bytes_of part)) parts)
    (part_read opened (bytes_of p) (list_all is_style (bytes_of p)) refl) (parts_read opened bytes_of parts)

pub of_style : {X : Type 0} (bytes_of : X → List ℕ) (parts : List X)
    → Opens (style_html (flat_map (λ part. style_part (bytes_of part)) parts)) []
of_style bytes_of parts = record {
  reads = λ beneath.
      let here = at styled (codes "style" ∷ beneath) in
      let style = flat_map (λ part. style_part (bytes_of part)) parts in
      both (within beneath) here (within beneath) (codes "<style>") (style ++ codes "</style>\n") refl
      (both here here (within beneath) style (codes "</style>\n")
      (parts_read (codes "style" ∷ beneath) bytes_of parts) refl);
}

-- ---- one after the other

pub with_piece : {text piece : List ℕ} {opened : List Tag} → Opens text opened → Opens piece []
    → Opens (text ++ piece) opened
with_piece {text = text} {piece = piece} {opened = opened} before piece_opens = record {
  reads = λ beneath.
      let here = within (map tag_name opened ++ beneath) in
      both (within beneath) here here text piece (before.reads beneath)
      (piece_opens.reads (map tag_name opened ++ beneath));
}

pub with_start : {text : List ℕ} {opened : List Tag} (t : Tag) (more : List Attribute) → Opens text opened
    → Opens (text ++ start_tag t (attributes_html more)) (t ∷ opened)
with_start {text = text} {opened = opened} t more before = record {
  reads = λ beneath.
      let here = map tag_name opened ++ beneath in
      both (within beneath) (within here) (within (tag_name t ∷ here)) text (start_tag t (attributes_html more))
      (before.reads beneath) (start_read t more here);
}

pub with_end : {text : List ℕ} {opened : List Tag} (t : Tag) → Opens text (t ∷ opened)
    → Opens (text ++ end_tag t) opened
with_end {text = text} {opened = opened} t before = record {
  reads = λ beneath.
      let here = map tag_name opened ++ beneath in
      both (within beneath) (within (tag_name t ∷ here)) (within here) text (end_tag t) (before.reads beneath)
      (end_read t here);
}

pub with_ends : (text : List ℕ) (opened : List Tag) → Opens text opened → Opens (text ++ flat_map end_tag opened) []
with_ends text [] before = subst (λ (v : List ℕ). Opens v []) (sym (append-nil text)) before
with_ends text (t ∷ opened) before =
    subst (λ (v : List ℕ). Opens v []) (append_assoc text (end_tag t) (flat_map end_tag opened))
    (with_ends (text ++ end_tag t) opened (with_end t before))

-- ---- all of it

pub well_formed : (bytes : List ℕ) → Opens bytes [] → IsWellFormed bytes
well_formed bytes h = h.reads []

-- ---- after an attempt to add something

lost : {P : Type 0} (failed : Bool) → failed ≡ true → failed ≡ false → P
lost failed is h = absurd (false≢true (sym h ∙ is))

pub if_ok : {T E : Type 0} (r : Result T E) {new : List ℕ} (with_it without : List ℕ)
    → new ≡ (if is_ok r then with_it else without) → OnOk r (new ≡ with_it)
if_ok (Ok x) with_it without h = h
if_ok (Err x) with_it without h = tt

-- a piece was added, or memory ran out
pub kept : {T E : Type 0} (r : Result T E) {old new piece : List ℕ} {opened : List Tag} (failed : Bool)
    → Opens old opened → Opens piece [] → OnOk r (new ≡ old ++ piece) → failed ≡ is_err r → failed ≡ false
    → Opens new opened
kept (Ok x) {opened = opened} failed before piece_opens is f h =
    subst (λ (v : List ℕ). Opens v opened) (sym is) (with_piece before piece_opens)
kept (Err x) failed before piece_opens is f h = lost failed f h

-- the same of the start of an element, and of its end
pub begun : {T E : Type 0} (r : Result T E) {old new : List ℕ} (open_old open_new : List Tag) (failed : Bool) (t : Tag)
    (more : List Attribute) → Opens old (reverse open_old)
    → OnOk r (new ≡ old ++ start_tag t (attributes_html more)) → OnOk r (open_new ≡ open_old ++ t ∷ [])
    → failed ≡ is_err r → failed ≡ false → Opens new (reverse open_new)
begun (Ok x) {old = old} open_old open_new failed t more before is now f h =
    subst (λ (v : List ℕ). Opens v (reverse open_new)) (sym is)
    (subst (λ (v : List Tag). Opens (old ++ start_tag t (attributes_html more)) v)
    (sym (reverse-append open_old (t ∷ [])) ∙ sym (ap reverse now)) (with_start t more before))
begun (Err x) open_old open_new failed t more before is now f h = lost failed f h

pub finished : {T E : Type 0} (r : Result T E) {old new : List ℕ} (open_old open_new : List Tag) (failed : Bool)
    (t : Tag) → Opens old (reverse open_old) → open_old ≡ open_new ++ t ∷ [] → OnOk r (new ≡ old ++ end_tag t)
    → failed ≡ is_err r → failed ≡ false → Opens new (reverse open_new)
finished (Ok x) {old = old} open_old open_new failed t before was is f h =
    let opens : Opens old (t ∷ reverse open_new) =
    subst (λ (v : List Tag). Opens old v) (ap reverse was ∙ reverse-append open_new (t ∷ [])) before in
    subst (λ (v : List ℕ). Opens v (reverse open_new)) (sym is) (with_end t opens)
finished (Err x) open_old open_new failed t before was is f h = lost failed f h
