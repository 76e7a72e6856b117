use Rattle.dbc_lint.proofs.Common.{◌∙◌, ap, List, ℕ, Bor, count_by, has_name, node_name, Message, Node}
use Rattle.dbc_lint.specs.OfMessage.{is_over_8}
use Rattle.dbc_lint.specs.OfNode.{has_text, names_used}
use Rattle.dbc_lint.specs.OfSpn.{first_place, places}
use Rattle.dbc_lint.specs.Whole.{text_of}
use Rattle.dbc_lint.proofs.UsedNames.{has_borrowed}
use Rattle.dbc_lint.proofs.whole.Whole.of.Goals as goal

pub invariant_of-result : goal.invariant_of-result
invariant_of-result c = record {
  nodes = λ n. c.in_ok-names_of_nodes.ensures n
      ∙ ap (λ (nodes : List Node). has_name node_name nodes n) c.nodes.ensures.nodes;
  used = λ n. c.in_ok-set_of.ensures n
      ∙ ap (λ (names : List (Bor (List ℕ))). has_name text_of names n) c.deref.ensures.value
      ∙ has_borrowed c.in_ok-used.used.items n
      ∙ ap (λ (names : List (List ℕ)). has_text names n)
      (c.in_ok-used.ensures ∙ ap names_used c.messages.ensures.messages);
  spns = λ n. c.in_ok-of.ensures n
      ∙ ap (λ (messages : List Message). first_place (places messages) n) c.messages-2.ensures.messages;
  over_8 = c.count_over_8.ensures
      ∙ ap (λ (messages : List Message). count_by is_over_8 messages) c.messages-3.ensures.messages;
}
