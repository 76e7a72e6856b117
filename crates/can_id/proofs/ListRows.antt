-- Rows of identifiers in the order of their numbers, computed.
use Rattle.std.proofs.Common.{◌≡◌, List, [], ◌∷◌, map, refl}
use Rattle.std.specs.Ordering.{nat_cmp, on}
use Rattle.base.specs.Keyed.{put}
use Rattle.can_id.specs.Ident.{dbc_number}
use Rattle.can_id.specs.declared.ident.Ident.{Ident}
use Rattle.can_id.specs.declared.ident.Ident.TheVariants.{Std, Ext}

abbrev put_ident : Ident → List Ident → List Ident
put_ident = put (on dbc_number nat_cmp)

-- one is put twice, and one has 29 bits
abbrev four : List Ident
four = put_ident (Std 9) (put_ident (Std 300) (put_ident (Std 7) (put_ident (Ext 0) (put_ident (Std 300) []))))

idents_ascend : four ≡ Std 7 ∷ Std 9 ∷ Std 300 ∷ Ext 0 ∷ []
idents_ascend = refl

before_the_second : put_ident (Std 8) four ≡ Std 7 ∷ Std 8 ∷ Std 9 ∷ Std 300 ∷ Ext 0 ∷ []
before_the_second = refl

at_each : map (λ ident. put_ident ident four) (Std 7 ∷ Std 9 ∷ Std 300 ∷ Ext 0 ∷ []) ≡ four ∷ four ∷ four ∷ four ∷ []
at_each = refl
