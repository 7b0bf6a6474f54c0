-- `placement_rotation_count` meets its contract: the reply is that of a number.
use Rattle.std.proofs.Common.{◌∙◌, ap}
use Rattle.replies.specs.Replies.{number_reply}
use Rattle.replies.proofs.Laws.Answers.{number-replied}
use Rattle.placement.proofs.rotation_calls.placement_rotation_count.Goals as goal

pub returns : goal.returns
returns c = number-replied c.count.result c.into.ensures ∙ ap number_reply c.count.ensures
