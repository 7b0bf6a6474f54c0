-- `placement_repair_mentor` meets its contract: the reply is that of a repair.
use Rattle.std.proofs.Common.{◌∙◌, ap}
use Rattle.replies.specs.Replies.{letter_reply}
use Rattle.replies.proofs.Laws.Answers.{letter-replied}
use Rattle.placement.proofs.repair_calls.placement_repair_mentor.Goals as goal

pub returns-clause-answer : goal.returns-clause-answer
returns-clause-answer c = letter-replied c.repair_mentor.result c.into.ensures ∙ ap letter_reply c.repair_mentor.ensures.reply
