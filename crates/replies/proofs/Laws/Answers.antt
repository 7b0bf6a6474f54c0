-- The reply that the code makes of an answer or of a check, where what is refused is a rule of the table: the one that
-- the definitions give. Assumes nothing.
use Rattle.std.specs.Prelude.{ℕ, ◌≡◌, Bool, Option, Result, Ok, Err, MatchResult}
use Rattle.laws.specs.Choice.{pick}
use Rattle.format.specs.declared.refusal.Refusal.{Refusal}
use Rattle.format.specs.Refusal.{rule_number, rule_place, rule_second}
use Rattle.format.specs.Verdict.{verdict_of}
use Rattle.format.specs.Outcome.{outcome, count_outcome}
use Rattle.repairs.specs.declared.answer.Answer.{Answer}
use Rattle.repairs.specs.declared.answer.RequestAnswer.{RequestAnswer}
use Rattle.repairs.specs.Repair.{repair_answer, repair_outcome}
use Rattle.repairs.specs.Pairs.{request_answer, request_outcome}
use Rattle.repairs.specs.Grade.{grade_answer, grade_outcome}
use Rattle.rotations.specs.Precedence.{precedence_outcome}
use Rattle.replies.specs.declared.reply.Reply.{Reply}
use Rattle.replies.specs.Replies.{granted, denied, reply_by, reply_for}
use Rattle.replies.specs.Replies.{number_reply, grade_value, graded_reply, yes_no_reply, letter_for, letter_reply}
use Rattle.replies.specs.Replies.{request_letters_for, request_letters}

-- The reply is that of the value, or that of the rule that is broken
abbrev pub Replied : {A : Type 0} → (A → Reply) → Result A Refusal → Reply → Type 0
Replied of answer r =
    MatchResult answer (λ x. r ≡ of x) (λ e. r ≡ denied (rule_number e) (rule_place e) (rule_second e))

-- it is then the reply for the answer that the code's stands for
replied : {A B : Type 0} (of : B → Reply) (value : A → B) (answer : Result A Refusal) {r : Reply} →
    Replied (λ x. of (value x)) answer r → r ≡ reply_by of (outcome value answer)
replied of value (Ok x) h = h
replied of value (Err e) h = h

-- a number
pub number-replied : (answer : Result ℕ Refusal) {r : Reply} → Replied (λ x. granted 0 x) answer r → r ≡ number_reply (count_outcome answer)
number-replied answer h = replied (granted 0) (λ k. k) answer h

-- a grade
pub grade-replied : (answer : Result (Option ℕ) Refusal) {r : Reply} →
    Replied (λ x. granted 0 (grade_value (grade_answer x))) answer r → r ≡ graded_reply (grade_outcome answer)
grade-replied answer h = replied (λ x. granted 0 (grade_value x)) grade_answer answer h

-- yes or no
pub yes-no-replied : (answer : Result Bool Refusal) {r : Reply} →
    Replied (λ x. granted 0 (pick x 1 0)) answer r → r ≡ yes_no_reply (precedence_outcome answer)
yes-no-replied answer h = replied (λ yes. granted 0 (pick yes 1 0)) (λ yes. yes) answer h

-- a repair
pub letter-replied : (answer : Result Answer Refusal) {r : Reply} →
    Replied (λ x. letter_for (repair_answer x)) answer r → r ≡ letter_reply (repair_outcome answer)
letter-replied answer h = replied letter_for repair_answer answer h

-- the answer to a request
pub request-replied : (answer : Result RequestAnswer Refusal) {r : Reply} →
    Replied (λ x. request_letters_for (request_answer x)) answer r → r ≡ request_letters (request_outcome answer)
request-replied answer h = replied request_letters_for request_answer answer h

-- and that of a check, with a place and a value where nothing is refused
pub check-replied : {A : Type 0} (checked : Result A Refusal) (place value : ℕ) {r : Reply} →
    Replied (λ _. granted place value) checked r → r ≡ reply_for (verdict_of checked) place value
check-replied (Ok x) place value h = h
check-replied (Err e) place value h = h
