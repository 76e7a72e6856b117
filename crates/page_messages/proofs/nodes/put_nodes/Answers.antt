use Rattle.page_messages.proofs.Common.{◌≡◌, ◌==◌, ◌∙◌, Bool, true, false, List, None, ap, codes, cond, length, refl}
use Rattle.page_messages.proofs.Common.{subst, sym, Message, Becomes, Writing, beginning, ending, next, with_part}
use Rattle.page_messages.proofs.Common.{messages_of}
use Rattle.dbc_sheet.specs.declared.node.Node.{Node}
use Rattle.markup.specs.declared.tag.Tag.TheVariants as tag
use Rattle.page_messages.specs.Nodes.{is_large, with_matrix, with_matrix_in, with_node_table, with_nodes_in}
use Rattle.page_messages.proofs.Choosing.{else_so, then_so}
use Rattle.page_messages.proofs.nodes.put_nodes.Goals as goal

either_keeps : (b : Bool) (x y : Writing) → x.is_lost ≡ y.is_lost → (cond b x y).is_lost ≡ x.is_lost
either_keeps true x y e = refl
either_keeps false x y e = sym e

-- the matrix, if it is there, loses nothing
matrix_keeps : (messages : List Message) (nodes : List Node) (w : Writing)
    → (with_matrix messages nodes w).is_lost ≡ w.is_lost
matrix_keeps messages nodes w = either_keeps (is_large messages nodes) w (with_matrix_in messages nodes w) refl

pub returns : goal.returns
returns c =
    let page = c.args.page.now in
    let messages = messages_of c.args.subject.now in
    let nodes = c.args.subject.now.sheet.now.nodes in
    let opened = c.open.new.self in
    let table : Becomes c.put_node_table.new.page (with_node_table messages nodes opened) =
    subst (λ (v : List Node). Becomes c.put_node_table.new.page (with_node_table messages v opened))
    c.nodes-nodes.ensures.nodes
    (subst (λ (v : List Message). Becomes c.put_node_table.new.page (with_node_table v c.nodes-nodes.result.now opened))
    c.messages-messages.ensures.messages c.in_ok-put_node_table.ensures) in
    let matrix : Becomes c.put_matrix.new.page (with_matrix messages nodes c.put_node_table.new.page) =
    subst (λ (v : List Node). Becomes c.put_matrix.new.page (with_matrix messages v c.put_node_table.new.page))
    c.nodes-nodes.ensures.nodes
    (subst (λ (v : List Message).
    Becomes c.put_matrix.new.page (with_matrix v c.nodes-nodes.result.now c.put_node_table.new.page))
    c.messages-messages.ensures.messages c.put_matrix.ensures) in
    let f0 : Writing → Writing = with_part (codes "nodes") (codes "Nodes") None in
    let f1 : Writing → Writing = λ w. beginning tag.Division (codes " class=\"pair\"") (f0 w) in
    let f2 : Writing → Writing = λ w. with_node_table messages nodes (f1 w) in
    let f3 : Writing → Writing = λ w. with_matrix messages nodes (f2 w) in
    let f4 : Writing → Writing = λ w. ending (f3 w) in
    else_so (length nodes == 0) page (with_nodes_in messages nodes page) _
    (ap (λ (v : List Node). length v == 0) (sym c.nodes-nodes.ensures.nodes) ∙ sym c.is_empty.ensures
    ∙ c.if-is_empty.false)
    (next page f4 ending (λ w. refl)
    (next page f3 ending (λ w. refl)
    (next page f2 (with_matrix messages nodes) (matrix_keeps messages nodes)
    (next page f1 (with_node_table messages nodes) (λ w. refl)
    (next page f0 (beginning tag.Division (codes " class=\"pair\"")) (λ w. refl)
    c.open_part.ensures c.open.ensures) table) matrix) c.close.ensures) c.close-2.ensures)

pub returns-then-is_empty : goal.returns-then-is_empty
returns-then-is_empty c =
    let page = c.args.page.now in
    let nodes = c.args.subject.now.sheet.now.nodes in
    then_so (length nodes == 0) page (with_nodes_in (messages_of c.args.subject.now) nodes page) page
    (ap (λ (v : List Node). length v == 0) (sym c.nodes-nodes.ensures.nodes) ∙ sym c.is_empty.ensures
    ∙ c.if-is_empty.true) (λ kept. refl)
