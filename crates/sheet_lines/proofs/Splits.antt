-- What was read, split where the book ends, and the sheet of its parts.
use Rattle.std.specs.Prelude.{ℕ, min, ◌≡◌, List, length, take, drop}
use Rattle.std.proofs.Common.{sym, ◌∙◌, ap}
use Rattle.laws.specs.Cut.{take_rest}
use Rattle.format.specs.Format.{people, extent}
use Rattle.sheets.specs.Sheet.{sheet_for, weighted_sheet_for, sheet_of, weighted_sheet_of}
use Rattle.sheet_lines.specs.Laws.Parts.{rest, sheet-parts, weighted-parts}

module _ (input : List ℕ) {end : ℕ} (e : end ≡ min (extent input) (length input)) {b r : List ℕ} (front : b ≡ take end input) (back : r ≡ drop end input) where
  -- the rest, as it is sliced
  pub rest-split : r ≡ rest input end
  rest-split = back ∙ sym (take_rest input end)

  pub sheet-split : sheet_for b r ≡ sheet_of input
  sheet-split = rw (front, rest-split) (sym (sheet-parts input e))

  pub weighted-split :
      {n : ℕ} {m w : List ℕ} → n ≡ min (people input) (length r) → m ≡ take n r → w ≡ drop n r → weighted_sheet_for b m w ≡ weighted_sheet_of input
  weighted-split {n} q x y =
      rw (x, y, ← take_rest r n, front, rest-split) (sym (weighted-parts input e (q ∙ ap (λ (l : List ℕ). min (people input) (length l)) rest-split)))
