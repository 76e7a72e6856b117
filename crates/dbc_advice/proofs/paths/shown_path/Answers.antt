use Rattle.dbc_advice.proofs.Common.{encode_utf8_all, ◌∙◌, ap, sym, append-nil, subst, flat_map-append, is_control}
use Rattle.dbc_advice.proofs.Common.{NoCharPasses}
use Rattle.std.proofs.Common.{map-id}
use Rattle.std.proofs.lemmas.Iterator.{YieldsList-from_chars}
use Rattle.std.proofs.lemmas.Iterator.Consumers.{YieldsList-end}
use Rattle.std.proofs.lemmas.Str.{encodes-append}
use Rattle.dbc_advice.specs.ShownPath.{shown_character, shown_characters}
use Rattle.dbc_advice.proofs.ShownPaths.{plain_is_same, shown_is_plain}
use Rattle.dbc_advice.proofs.paths.shown_path.Goals as goal

pub loop-c-preserved : goal.loop-c-preserved
loop-c-preserved c =
    rw (flat_map-append, append-nil (shown_character c.in-Some.c), encodes-append, ← c.loop-c.invariant)
    c.in_ok-push_shown.ensures

pub returns-clause-shown : goal.returns-clause-shown
returns-clause-shown c =
    let done = YieldsList-end (YieldsList-from_chars c.args.path.now c.utf8.path cc) c.loop-c.yielded _
    c.loop-c.yielded_by _ _ c.in-None.is c.next.ensures.steps in
    c.loop-c.invariant ∙ ap (λ cs. encode_utf8_all (shown_characters cs)) (sym (map-id c.loop-c.yielded) ∙ done.0)

pub returns-clause-plain : goal.returns-clause-plain
returns-clause-plain c =
    subst (NoCharPasses is_control) (sym (returns-clause-shown c)) (shown_is_plain c.args.path.now)

pub returns-clause-same : goal.returns-clause-same
returns-clause-same c plain = returns-clause-shown c ∙ plain_is_same c.args.path.now c.utf8.path plain
