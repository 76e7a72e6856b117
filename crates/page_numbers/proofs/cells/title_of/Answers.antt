use Rattle.page_numbers.proofs.Common.{◌≡◌, ◌-◌, ◌++◌, ◌∙◌, List, ap, append_assoc, codes, decimal, length, map, subst}
use Rattle.page_numbers.proofs.Common.{sym, Message, flat_map-append, piece_html, words}
use Rattle.std.proofs.lemmas.List.{length-map, take-map}
use Rattle.markup.specs.declared.attribute.Piece.{Piece}
use Rattle.page_numbers.specs.CellHtml.{IsLater, more_words}
use Rattle.page_numbers.specs.Elements.{ArePieces}
use Rattle.page_numbers.specs.Index.{Numbered, message_at}
use Rattle.page_numbers.proofs.cells.title_of.Goals as goal

pub returns : goal.returns
returns c =
    let others : List Numbered = c.args.others.now in
    let named = c.in_ok-add_named.ensures in
    let later = c.in_ok-add_later.ensures in
    let start = decimal c.args.number ++ codes " " in
    let more = more_words (length (map message_at others) - 3) in
    let begun : words c.extend_from_slice.new.self.items ≡ start =
    ap words c.in_ok-extend_from_slice.ensures.items
    ∙ flat_map-append piece_html c.new-title.result.items _
    ∙ ap (λ (v : List Piece). words v ++ start) c.new-title.ensures.items in
    let counted : more_words c.saturating_sub.result ≡ more =
    ap more_words (c.saturating_sub.ensures ∙ ap (λ k. k - 3) (sym (length-map others message_at))) in
    record {
      named = named.0;
      is_named = named.1.0;
      later = later.0;
      are_later = subst (λ (v : List Message). ArePieces IsLater v later.0)
          (ap (map message_at) c.named_of.ensures ∙ sym (take-map message_at 3 others)) later.1.0;
      is = c.in_ok-add_more.ensures
          ∙ ap (λ v. v ++ more_words c.saturating_sub.result) (later.1.1 ∙ ap (λ v. v ++ later.0) (named.1.1
          ∙ ap (λ v. v ++ named.0) begun))
          ∙ ap (λ v. ((start ++ named.0) ++ later.0) ++ v) counted
          ∙ simp append_assoc;
    }
