-- `placement_check_matching` meets its contract: the reply is that of a check.
use Rattle.std.proofs.Common.{◌∙◌, ap}
use Rattle.format.specs.Verdict.{Verdict}
use Rattle.replies.specs.Replies.{reply_for}
use Rattle.replies.proofs.Laws.Answers.{check-replied}
use Rattle.placement.proofs.matching_calls.placement_check_matching.Goals as goal

pub returns : goal.returns
returns c = check-replied c.check.result 0 0 c.of_check.ensures ∙ ap (λ (v : Verdict). reply_for v 0 0) c.check.ensures
