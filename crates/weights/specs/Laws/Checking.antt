-- Rule 17 after a check whose refusals are rules of the table. Assumes nothing.
use Rattle.std.specs.Prelude.{ℕ, ◌≡◌, ◌≢◌, List, length, Result, Ok, Err, IfOk, IfErr, OnOk, IsErrOf, IsErrAnd}
use Rattle.std.proofs.Common.{refl, sym}
use Rattle.laws.specs.Choice.{same}
use Rattle.format.specs.declared.refusal.Refusal.{Refusal}
use Rattle.format.specs.declared.refusal.Refusal.TheVariants.{Weights}
use Rattle.format.specs.Verdict.{verdict_of, and_then}
use Rattle.repairs.specs.Weights.{check_weights}
use Rattle.repairs.proofs.Laws.Request.{weights-fine, weights-17}

module _ {A : Type 0} (n : ℕ) (k : List ℕ) where
  -- a refusal by 17, where there are not n weights
  told-17 :
      (checked result : Result A Refusal) → (length k ≡ n → ⊥) → IsErrAnd result (λ e. e ≡ Weights) →
      (verdict_of result ≡ check_weights n k) × IfOk result (λ x. checked ≡ Ok x)
  told-17 checked (Ok x) ne h = absurd h
  told-17 checked (Err e) ne h = rw h (sym (weights-17 n k ne), tt)

  -- What `check_weights` answers: the verdict is that of the check, and then of rule 17; and what is given is what the
  -- check gave
  pub weights-checked :
      (checked result : Result A Refusal) → IfErr checked (λ e. IsErrOf result e) →
      IfOk checked (λ x. length k ≡ n → result ≡ Ok x) → OnOk checked (length k ≢ n → IsErrAnd result (λ e. e ≡ Weights)) →
      (verdict_of result ≡ and_then (verdict_of checked) (check_weights n k)) × IfOk result (λ x. checked ≡ Ok x)
  weights-checked (Err e) result refused given rule_17 = rw refused (refl, tt)
  weights-checked (Ok x) result refused given rule_17 =
      same (length k) n
      (λ e. rw (given e) (sym (weights-fine n k e), refl))
      (λ ne. told-17 (Ok x) result ne (rule_17 ne))
