-- `placement_precedes` meets its contract: the reply is that of yes or no.
use Rattle.std.proofs.Common.{◌∙◌, ap}
use Rattle.replies.specs.Replies.{yes_no_reply}
use Rattle.replies.proofs.Laws.Answers.{yes-no-replied}
use Rattle.placement.proofs.rotation_calls.placement_precedes.Goals as goal

pub returns : goal.returns
returns c = yes-no-replied c.precedes.result c.into.ensures ∙ ap yes_no_reply c.precedes.ensures
