use Rattle.desk_send.proofs.Common.{view}
use Rattle.desk_send.proofs.ObjectTexts.{if_read}
use Rattle.desk_send.proofs.objects.value_text.Goals as goal

pub returns-clause-json : goal.returns-clause-json
returns-clause-json c =
    if_read c.to_string.result (view c.args.value.now) c.requires.shallow c.to_string.ensures.reads_back
