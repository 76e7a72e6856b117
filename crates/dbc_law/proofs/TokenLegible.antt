-- Legible pieces: each is spelled as its kind requires, and no word goes on where the next begins.
use Rattle.dbc_law.proofs.Common.{◌≡◌, ℕ, List, [], ◌∷◌, ◌++◌, refl, sym, subst, append_assoc, All, flat_map, All-head}
use Rattle.dbc_law.proofs.Common.{All-tail, Piece, line_text, Spells, IsGap, TokenKind, Name, Text, Mark}
use Rattle.std.proofs.lemmas.Grind.{flat_map-append}
use Rattle.dbc_grammar.specs.declared.token.TokenKind.TheVariants.{Number}
use Rattle.dbc_law.proofs.TokenEnds.{Ends}
use Rattle.dbc_law.proofs.TokenLengths.{Breaks}

-- the bytes of pieces
abbrev pub pieces_text : List Piece → List ℕ
pieces_text ps = flat_map (λ (p : Piece). p.gap ++ p.text) ps

-- a piece, and those after it in its line
pub record IsLegible (p : Piece) (after : List Piece) : Type 0 where
  pub gap : IsGap p.gap
  pub spelled : Spells p.kind p.text
  pub ends : Ends p.kind (line_text after)

abbrev pub AreLegible : List Piece → Type 0
AreLegible [] = Unit {0}
AreLegible (p ∷ ps) = IsLegible p ps × AreLegible ps

-- legible pieces that may occur after any piece: they begin with a byte that continues no word
pub record CanFollow (ps : List Piece) : Type 0 where
  pub legible : AreLegible ps
  pub breaks : Breaks (line_text ps)

pub no_pieces : CanFollow []
no_pieces = record { legible = tt; breaks = refl }

-- ---- pieces after others

-- at the first of the bytes, or where there are none at the first of what follows
breaks_before : (bytes more : List ℕ) → Breaks (bytes ++ 10 ∷ []) → Breaks more → Breaks (bytes ++ more)
breaks_before [] more h k = k
breaks_before (b ∷ bytes) more h k = h

pub ends_before : (kind : TokenKind) (bytes more : List ℕ) → Ends kind (bytes ++ 10 ∷ []) → Breaks more
    → Ends kind (bytes ++ more)
ends_before Name bytes more h k = breaks_before bytes more h k
ends_before Number bytes more h k = breaks_before bytes more h k
ends_before Text bytes more h k = tt
ends_before Mark bytes more h k = tt

line_text-append : (ps qs : List Piece) → line_text (ps ++ qs) ≡ pieces_text ps ++ line_text qs
line_text-append ps qs = simp (flat_map-append, append_assoc)

legible_append : (ps qs : List Piece) → AreLegible ps → CanFollow qs → AreLegible (ps ++ qs)
legible_append [] qs h more = more.legible
legible_append (p ∷ ps) qs h more =
    let ends = ends_before p.kind (pieces_text ps) (line_text qs) h.0.ends more.breaks in (
      record { gap = h.0.gap; spelled = h.0.spelled; ends = subst (Ends p.kind) (sym (line_text-append ps qs)) ends },
      legible_append ps qs h.1 more,
    )

pub follow_append : {ps qs : List Piece} → CanFollow ps → CanFollow qs → CanFollow (ps ++ qs)
follow_append {ps} {qs} h more = record {
  legible = legible_append ps qs h.legible more;
  breaks = subst Breaks (sym (line_text-append ps qs))
      (breaks_before (pieces_text ps) (line_text qs) h.breaks more.breaks);
}

module _ {A : Type 0} (P : A → Type 0) (pieces : A → List Piece) (each : (x : A) → P x → CanFollow (pieces x)) where
  pub each_follows : (xs : List A) → All P xs → CanFollow (flat_map pieces xs)
  each_follows [] h = no_pieces
  each_follows (x ∷ xs) h = follow_append (each x (All-head P x xs h)) (each_follows xs (All-tail P x xs h))
