use Rattle.dbc_read.proofs.Common.{◌≡◌, ◌∙◌, [], ap, length, replicate, subst, sym, length-map, Integer, node_names_of}
use Rattle.dbc_read.proofs.Common.{numbers_of, signal_keys_of, statements_of}
use Rattle.dbc_read.specs.Gathered.{IsNothing}
use Rattle.dbc_read.specs.Gathering.{with_empty, with_nothing_attached}
use Rattle.dbc_read.specs.Keys.{key_of, text_of}
use Rattle.dbc_read.specs.declared.gathered.Gathered.{Gathered}
use Rattle.dbc_read.proofs.OneByOne.{is_nothing}
use Rattle.dbc_read.proofs.gathered.start_gathering.Goals as goal

pub returns : goal.returns
returns c =
    let ss = statements_of c.args.statements.now in
    let are = c.in_ok-lookups.ensures ss c.in_ok-keys.ensures in
    let nodes : c.len.result ≡ length (node_names_of ss) = c.len.ensures are.node_names are.nodes
    ∙ sym (length-map are.node_names text_of) ∙ ap length are.names in
    let messages : c.len-2.result ≡ length (numbers_of ss) = c.len-2.ensures (numbers_of ss) are.messages in
    let signals : c.len-3.result ≡ length (signal_keys_of ss) = c.len-3.ensures are.signal_keys are.signals
    ∙ sym (length-map are.signal_keys key_of) ∙ ap length are.keys in
    let begun : c.list_nothing.new.gathered ≡ with_nothing_attached ss c.empty-gathered.result
    = c.in_ok-list_nothing.ensures
    ∙ ap (λ (g : Gathered). record g {
      signal_comments = replicate c.len-3.result [];
      signal_values =
          replicate c.len-3.result [];
      signal_types = replicate c.len-3.result Integer;
      signal_spns =
          replicate c.len-3.result 0;
    }) c.in_ok-attach_nothing.ensures
    ∙ (λ i. with_empty (nodes i) (messages i) (signals i) c.empty-gathered.result) in
    record {
      nothing = subst (IsNothing ss) (sym begun) (is_nothing ss c.empty-gathered.result c.empty-gathered.ensures);
      indices = c.in_ok-cited.ensures ss are;
    }
