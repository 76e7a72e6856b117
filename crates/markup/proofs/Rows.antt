-- Pages read, and pieces written.
use Rattle.std.proofs.Common.{◌≡◌, ◌++◌, [], ◌∷◌, codes, map, refl}
use Rattle.std.specs.Fmt.{digits as number_digits}
use Rattle.markup.specs.Html.{attributes_html, element_html, end_tag, start_tag, style_html, style_part, void_html}
use Rattle.markup.specs.Reader.{IsWellFormed, at, content, digits, read, refused, value, letters, within}
use Rattle.markup.specs.declared.attribute.Attribute.TheVariants as with
use Rattle.markup.specs.declared.tag.Tag.TheVariants as tag
use Rattle.markup.specs.declared.tag.Void.TheVariants as void

-- a small page
page : IsWellFormed (codes "<!DOCTYPE html>\n<html lang=\"en\"><head><meta charset=\"utf-8\"/>\n"
    ++ (codes "<meta http-equiv=\"Content-Security-Policy\" content=\"default-src &#39;none&#39;\"/>\n"
    ++ (codes "<title>A &#38; B</title>\n<style>tr>:first-child{content:\"&\"}</style>\n</head>\n"
    ++ (codes "<body class=\"\"><h2 id=\"one\">5 &#60; 6</h2>\n<a href=\"#one\">back</a><i style=\"flex:12\"></i>"
    ++ codes "<input name=\"q\"/></body>\n</html>"))))
page = refl

-- an element in a title, and in a style; a title that doesn't end; a byte beyond ASCII
texts_refused : map (read (within []))
    (codes "<title><b>" ∷ codes "<style></b>" ∷ codes "<title>A</b>" ∷ (60 ∷ 98 ∷ 62 ∷ 176 ∷ []) ∷ [])
    ≡ refused ∷ refused ∷ refused ∷ refused ∷ []
texts_refused = refl

-- a `<`, a quote and an `&` by themselves, and a reference by name
marks_refused : map (read (within [])) (codes "a < b" ∷ codes "a\"" ∷ codes "a & b" ∷ codes "&lt;" ∷ [])
    ≡ refused ∷ refused ∷ refused ∷ refused ∷ []
marks_refused = refl

-- an element that there is not; an end out of place, and without a start; an element without an end, and an end of none
tags_refused : map (read (within []))
    (codes "<script>" ∷ codes "<b><i></b>" ∷ codes "</b>" ∷ codes "<b/>" ∷ codes "<meta>" ∷ codes "</meta>" ∷ [])
    ≡ refused ∷ refused ∷ refused ∷ refused ∷ refused ∷ refused ∷ []
tags_refused = refl

-- an attribute that there is not; values without a quote; a link that leads away; another style; another header
attributes_refused : map (read (within []))
    (codes "<b onclick=\"a\">" ∷ codes "<b class=a>" ∷ codes "<b class=\"a>b\">" ∷ codes "<a href=\"http://a\">"
    ∷ codes "<b style=\"color:red\">" ∷ codes "<meta http-equiv=\"refresh\"/>" ∷ codes "<b class=\"a\"id=\"b\">" ∷ [])
    ≡ refused ∷ refused ∷ refused ∷ refused ∷ refused ∷ refused ∷ refused ∷ []
attributes_refused = refl

-- an element, a reference and a value that don't end
no_end : map (read (within [])) (codes "<p><b>a</b>" ∷ codes "a &#60" ∷ codes "<b class=\"a" ∷ [])
    ≡ within (codes "p" ∷ []) ∷ at (content digits) [] ∷ at (value letters) (codes "b" ∷ []) ∷ []
no_end = refl

written : element_html tag.Cell (attributes_html (with.Columns 1 ∷ with.Columns 12 ∷ with.Open ∷ [])) (codes "a<b")
    ++ (void_html void.Meta (attributes_html (with.Utf8 ∷ [])) ++ style_html (style_part (codes "p>a{}")))
    ≡ codes "<td colspan=\"12\" open=\"\">a&#60;b</td><meta charset=\"utf-8\"/>\n<style>p>a{}</style>\n"
unfolding number_digits start_tag end_tag
written = refl

-- no part of a style could end it
no_style : style_part (codes "</style>") ≡ []
no_style = refl
