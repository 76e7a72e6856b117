-- Characters, texts and readings computed.
use Rattle.std.proofs.Common.{◌≡◌, [], ◌∷◌, ◌++◌, Some, None, codes, map, refl}
use Rattle.std.specs.Fmt.{digits}
use Rattle.html.specs.Characters.{chars_of}
use Rattle.html.specs.Reading.{text_read}
use Rattle.html.specs.Text.{characters, escaped}

-- one, two, three and four bytes: A, an e with an acute accent, the euro sign, a face
utf8 : chars_of (65 ∷ 195 ∷ 169 ∷ 226 ∷ 130 ∷ 172 ∷ 240 ∷ 159 ∷ 152 ∷ 128 ∷ 66 ∷ [])
    ≡ 65 ∷ 233 ∷ 8364 ∷ 128512 ∷ 66 ∷ []
utf8 = refl

-- the least and the greatest of each length
ends : map chars_of ((194 ∷ 128 ∷ []) ∷ (223 ∷ 191 ∷ []) ∷ (224 ∷ 160 ∷ 128 ∷ []) ∷ (239 ∷ 191 ∷ 191 ∷ [])
    ∷ (240 ∷ 144 ∷ 128 ∷ 128 ∷ []) ∷ (244 ∷ 143 ∷ 191 ∷ 191 ∷ []) ∷ [])
    ≡ (128 ∷ []) ∷ (2047 ∷ []) ∷ (2048 ∷ []) ∷ (65535 ∷ []) ∷ (65536 ∷ []) ∷ (1114111 ∷ []) ∷ []
ends = refl

-- a cut one, a later byte alone, what fewer bytes write, a surrogate, one past the last: each byte by itself
no_utf8 : map chars_of
    ((195 ∷ []) ∷ (226 ∷ 130 ∷ 65 ∷ []) ∷ (128 ∷ 191 ∷ []) ∷ (192 ∷ 128 ∷ []) ∷ (224 ∷ 159 ∷ 191 ∷ [])
    ∷ (237 ∷ 160 ∷ 128 ∷ []) ∷ (244 ∷ 144 ∷ 128 ∷ 128 ∷ []) ∷ [])
    ≡ (195 ∷ []) ∷ (226 ∷ 130 ∷ 65 ∷ []) ∷ (128 ∷ 191 ∷ []) ∷ (192 ∷ 128 ∷ []) ∷ (224 ∷ 159 ∷ 191 ∷ [])
    ∷ (237 ∷ 160 ∷ 128 ∷ []) ∷ (244 ∷ 144 ∷ 128 ∷ 128 ∷ []) ∷ []
no_utf8 = refl

marks : escaped (codes "<a b='c'>&\"</script>")
    ≡ codes "&#60;a b=&#39;c&#39;&#62;&#38;&#34;&#60;/script&#62;"
unfolding digits
marks = refl

-- a degree sign in UTF-8 and in Latin-1, and a face
beyond_ascii : escaped (194 ∷ 176 ∷ 67 ∷ 176 ∷ 240 ∷ 159 ∷ 152 ∷ 128 ∷ []) ≡ codes "&#176;C&#176;&#128512;"
unfolding digits
beyond_ascii = refl

-- NUL, tab, line feed, carriage return, escape, delete, a control character of Latin-1, and U+FFFE
controls : escaped (0 ∷ 9 ∷ 10 ∷ 13 ∷ 27 ∷ 127 ∷ 133 ∷ 239 ∷ 191 ∷ 190 ∷ [])
    ≡ codes "&#9216;" ++ (9 ∷ 10 ∷ codes "&#9243;&#65533;&#65533;&#65533;")
unfolding digits
controls = refl

shown_so : characters (codes "a<" ++ (13 ∷ 0 ∷ 176 ∷ [])) ≡ 97 ∷ 60 ∷ 9216 ∷ 176 ∷ []
shown_so = refl

reads : map text_read (codes "a &#60;b&#9216;" ∷ [] ∷ []) ≡ Some (97 ∷ 32 ∷ 60 ∷ 98 ∷ 9216 ∷ []) ∷ Some [] ∷ []
reads = refl

-- a tag, a quote, a lone ampersand, references that are cut or have no digits or a name, a byte above ASCII, NUL
reads_not : map text_read (codes "<b>" ∷ codes "a\"" ∷ codes "a'" ∷ codes "&" ∷ codes "& " ∷ codes "&#60" ∷ codes "&#;"
    ∷ codes "&lt;" ∷ codes "&#x3c;" ∷ (176 ∷ []) ∷ (0 ∷ []) ∷ [])
    ≡ None ∷ None ∷ None ∷ None ∷ None ∷ None ∷ None ∷ None ∷ None ∷ None ∷ None ∷ []
reads_not = refl
