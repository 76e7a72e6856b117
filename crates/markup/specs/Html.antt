-- Elements and attributes as HTML.
use Rattle.std.specs.Prelude.{ℕ, ◌==◌, ◌&&◌, not, Bool, true, false, List, [], ◌++◌, codes, decimal, if◌then◌else◌}
use Rattle.std.specs.List.{flat_map, list_all}
pub use Rattle.html.specs.Text.{escaped}
use Rattle.markup.specs.Reader.{is_ascii}
use Rattle.markup.specs.declared.attribute.Attribute.{Attribute}
use Rattle.markup.specs.declared.attribute.Attribute.TheVariants as with
use Rattle.markup.specs.declared.attribute.Piece.{Piece}
use Rattle.markup.specs.declared.attribute.Piece.TheVariants as piece
use Rattle.markup.specs.declared.tag.Tag.{Tag}
use Rattle.markup.specs.declared.tag.Tag.TheVariants as tag
use Rattle.markup.specs.declared.tag.Void.{Void}
use Rattle.markup.specs.declared.tag.Void.TheVariants as void

abbrev pub tag_name : Tag → List ℕ
tag_name tag.Html = codes "html"
tag_name tag.Head = codes "head"
tag_name tag.Body = codes "body"
tag_name tag.Header = codes "header"
tag_name tag.Nav = codes "nav"
tag_name tag.Main = codes "main"
tag_name tag.Section = codes "section"
tag_name tag.H1 = codes "h1"
tag_name tag.H2 = codes "h2"
tag_name tag.H3 = codes "h3"
tag_name tag.Paragraph = codes "p"
tag_name tag.List = codes "ul"
tag_name tag.Item = codes "li"
tag_name tag.Table = codes "table"
tag_name tag.Caption = codes "caption"
tag_name tag.TableHead = codes "thead"
tag_name tag.TableBody = codes "tbody"
tag_name tag.Row = codes "tr"
tag_name tag.HeadCell = codes "th"
tag_name tag.Cell = codes "td"
tag_name tag.Link = codes "a"
tag_name tag.Bold = codes "b"
tag_name tag.Emphasis = codes "em"
tag_name tag.Small = codes "small"
tag_name tag.Span = codes "span"
tag_name tag.Code = codes "code"
tag_name tag.Isolated = codes "bdi"
tag_name tag.Italic = codes "i"
tag_name tag.Division = codes "div"
tag_name tag.Details = codes "details"
tag_name tag.Summary = codes "summary"
tag_name tag.Form = codes "form"
tag_name tag.Button = codes "button"

-- a line feed follows its end
abbrev pub ends_line : Tag → Bool
ends_line tag.Html = false
ends_line tag.Caption = false
ends_line tag.TableBody = false
ends_line tag.HeadCell = false
ends_line tag.Cell = false
ends_line tag.Link = false
ends_line tag.Bold = false
ends_line tag.Emphasis = false
ends_line tag.Small = false
ends_line tag.Span = false
ends_line tag.Code = false
ends_line tag.Isolated = false
ends_line tag.Italic = false
ends_line tag.Division = false
ends_line tag.Button = false
ends_line _ = true

abbrev pub void_name : Void → List ℕ
void_name void.Meta = codes "meta"
void_name void.Input = codes "input"

abbrev pub void_ends_line : Void → Bool
void_ends_line void.Meta = true
void_ends_line void.Input = false

abbrev pub piece_html : Piece → List ℕ
piece_html (piece.Text bytes) = escaped bytes.now
piece_html (piece.Number n) = decimal n

-- a text of pieces
abbrev pub words : List Piece → List ℕ
words pieces = flat_map piece_html pieces

-- what is before a value, the value, and its last quote
abbrev pub valued : List ℕ → List ℕ → List ℕ
valued before value = before ++ (value ++ codes "\"")

abbrev pub attribute_html : Attribute → List ℕ
attribute_html (with.Class classes) = valued (codes " class=\"") (escaped classes.now)
attribute_html (with.Id pieces) = valued (codes " id=\"") (words pieces.now)
attribute_html (with.ToPart pieces) = valued (codes " href=\"#") (words pieces.now)
attribute_html (with.Title pieces) = valued (codes " title=\"") (words pieces.now)
attribute_html (with.Label pieces) = valued (codes " aria-label=\"") (words pieces.now)
attribute_html (with.Columns count) = if count == 1 then [] else valued (codes " colspan=\"") (decimal count)
attribute_html (with.Flex share) = valued (codes " style=\"flex:") (decimal share)
attribute_html with.Scrolls = codes " role=\"region\" tabindex=\"0\""
attribute_html with.Open = codes " open=\"\""
attribute_html with.English = codes " lang=\"en\""
attribute_html with.Utf8 = codes " charset=\"utf-8\""
attribute_html with.Policy = codes " http-equiv=\"Content-Security-Policy\""
attribute_html (with.Name name) = valued (codes " name=\"") (escaped name.now)
attribute_html (with.Content value) = valued (codes " content=\"") (escaped value.now)

abbrev pub attributes_html : List Attribute → List ℕ
attributes_html attributes = flat_map attribute_html attributes

-- a tag of this name, with these attributes, that ends so
abbrev pub tag_html : List ℕ → List ℕ → List ℕ → List ℕ
tag_html name attributes end = codes "<" ++ (name ++ (attributes ++ end))

unfoldable pub start_tag : Tag → List ℕ → List ℕ
start_tag t attributes = tag_html (tag_name t) attributes (codes ">")

unfoldable pub end_tag : Tag → List ℕ
end_tag t = codes "</" ++ (tag_name t ++ (if ends_line t then codes ">\n" else codes ">"))

-- an element with this text in it, and one without an end
abbrev pub element_html : Tag → List ℕ → List ℕ → List ℕ
element_html t attributes bytes = start_tag t attributes ++ (escaped bytes ++ end_tag t)

abbrev pub void_html : Void → List ℕ → List ℕ
void_html v attributes = tag_html (void_name v) attributes (if void_ends_line v then codes "/>\n" else codes "/>")

abbrev pub title_html : List Piece → List ℕ
title_html pieces = codes "<title>" ++ (words pieces ++ codes "</title>\n")

-- a byte of a style
abbrev pub is_style : ℕ → Bool
is_style b = is_ascii b && not (b == 60)

-- a part of a style, if it has no `<` and is ASCII
abbrev pub style_part : List ℕ → List ℕ
style_part bytes = if list_all is_style bytes then bytes else []

abbrev pub style_html : List ℕ → List ℕ
style_html style = codes "<style>" ++ (style ++ codes "</style>\n")

abbrev pub doctype : List ℕ
doctype = codes "<!DOCTYPE html>\n"
