-- `placement_grade` meets its contract: the reply is that of a grade.
use Rattle.std.proofs.Common.{◌∙◌, ap}
use Rattle.replies.specs.Replies.{graded_reply}
use Rattle.replies.proofs.Laws.Answers.{grade-replied}
use Rattle.placement.proofs.repair_calls.placement_grade.Goals as goal

pub returns : goal.returns
returns c = grade-replied c.grade.result c.into.ensures ∙ ap graded_reply c.grade.ensures
