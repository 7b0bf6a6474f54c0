-- What `find` and `any` over a range of indices give: the first index at which a test passes, and whether there is one.
-- Assumes nothing.
use Rattle.std.specs.Prelude.{ℕ, zero, suc, ◌+◌, ◌<◌, ◌≡◌, refl, Bool, false, Option, Some, None, MatchOption, is_some}
use Rattle.std.specs.List.{find, list_any, range_with_len}
use Rattle.std.proofs.Common.{sym, ◌∙◌, arith, add-one, le-ltb, lt-ltb}
use Rattle.laws.specs.Choice.{tested}
use Rattle.laws.specs.First.{first_from, first, some}

-- What a search below `end` finds, where the first index at which the test passes is i, or `end` if there is none
abbrev FoundAt : ℕ → ℕ → Option ℕ → Type 0
FoundAt end i o = MatchOption o (i ≡ end) (λ (j : ℕ). (i ≡ j) × (j < end))

module _ (p : ℕ → Bool) where
  found-from : (i k end : ℕ) → i + k ≡ end → FoundAt end (first_from p i k) (find p (range_with_len i k))
  found-from i zero end e = omega arith
  found-from i (suc k) end e =
      tested (p i) (λ h. rw (h, first_from) (refl, omega arith))
      (λ h. rw (h, first_from, add-one) (found-from (suc i) k end (omega arith)))

  found : (k : ℕ) {o : Option ℕ} → o ≡ find p (range_with_len 0 k) → FoundAt k (first p k) o
  found k e = rw e (found-from 0 k k (omega arith))

  -- an index is found, or none
  pub found-at : {k j : ℕ} → Some j ≡ find p (range_with_len 0 k) → (first p k ≡ j) × (j < k)
  found-at {k} e = found k e

  pub found_none : {k : ℕ} → None ≡ find p (range_with_len 0 k) → first p k ≡ k
  found_none {k} e = found k e

  nobody : (k : ℕ) (o : Option ℕ) → FoundAt k (first p k) o → is_some o ≡ false → first p k ≡ k
  nobody k None h e = h
  nobody k (Some j) h e = cc

  pub found-nobody : {k : ℕ} {o : Option ℕ} → o ≡ find p (range_with_len 0 k) → is_some o ≡ false → first p k ≡ k
  found-nobody {k} {o} q e = nobody k o (found k q) e

  -- one is found where some index passes
  is_found : (k : ℕ) (o : Option ℕ) → FoundAt k (first p k) o → is_some o ≡ some p k
  is_found k None h = sym (le-ltb _ _ (omega arith))
  is_found k (Some j) h = sym (lt-ltb _ _ (omega arith))

  pub found_some : (k : ℕ) → is_some (find p (range_with_len 0 k)) ≡ some p k
  found_some k = is_found k _ (found k refl)

  any-from : (i k : ℕ) → list_any p (range_with_len i k) ≡ is_some (find p (range_with_len i k))
  any-from i zero = refl
  any-from i (suc k) = tested (p i) (λ h. rw h) (λ h. rw h (any-from (i + 1) k))

  pub any_some : (k : ℕ) → list_any p (range_with_len 0 k) ≡ some p k
  any_some k = any-from 0 k ∙ found_some k
