-- `lowest` meets its contract: some man has an entry, so the search finds one.
use Rattle.std.proofs.Common.{ℕ, ◌<◌, ◌≤◌, ◌≡◌, Option, None, Some, List, length, arith, rules, tests}
use Rattle.std.specs.Prelude.{MatchOption, IsSome}
use Rattle.std.proofs.lemmas.Iterator.{first_from_Range}
use Rattle.laws.specs.Values.{vec}
use Rattle.rotation_ordering.specs.Queue.{SomeFrom}
use Rattle.rotation_ordering.proofs.queue.lowest.Goals as goal

some-found :
    {ready : List ℕ} {low : ℕ} → SomeFrom ready low → (r : Option ℕ) (Found : ℕ → Type 0) →
    MatchOption r ((k : ℕ) → low ≤ k → k < length ready → vec ready k ≡ 0) Found → IsSome r
some-found S None Found h = absurd (omega (arith, S.some, h S.man S.upward S.inside))
some-found S (Some m) Found h = search rules

pub unwrap-requires : goal.unwrap-requires
unwrap-requires c =
    let ready = c.args.ready.now in
    some-found c.requires c.find.result _
    (first_from_Range _ _ _ _ (λ m. 0 < vec ready m) (λ m. vec ready m ≡ 0) c.find.ensures.ran
    (λ m q k. search (rules, tests)) (λ m q k. search (rules, tests)))
