-- `load_complete` meets its contract: where the frame is right and no rank is left, the tables are those of the book's
-- men and women.
use Rattle.std.proofs.Common.{◌≡◌, refl, sym, ◌∙◌, false}
use Rattle.format.specs.Format.{partial}
use Rattle.record.specs.Laws.Recorded.{recorded-full}
use Rattle.record.proofs.tables.load_complete.Goals as goal

pub returns-clause-recorded : goal.returns-clause-recorded
returns-clause-recorded c =
    let complete : partial c.args.book.now ≡ false = sym c.is_partial.ensures ∙ c.if-is_partial.false in
    recorded-full c.in_ok-n.ensures complete c.lists_from.ensures c.lists_from-2.ensures c.fill_side.ensures
    c.fill_side-2.ensures c.if-not-fill_side.false c.if-not-fill_side-2.false refl refl refl
