-- `placement_repair` meets its contract: the reply is that of the answer to a request.
use Rattle.std.proofs.Common.{◌∙◌, ap}
use Rattle.replies.specs.Replies.{request_letters}
use Rattle.replies.proofs.Laws.Answers.{request-replied}
use Rattle.placement.proofs.repair_calls.placement_repair.Goals as goal

pub returns-clause-answer : goal.returns-clause-answer
returns-clause-answer c = request-replied c.repair.result c.into.ensures ∙ ap request_letters c.repair.ensures.reply
