-- How long the lines are, for each step that counts or puts one.
use Rattle.sheet_text.specs.Laws.Put.{number-length}
use Rattle.sheet_text.specs.Laws.Lines.{top-length, pair-length, alone-length}
use Rattle.move_text.specs.Laws.Lengths.{move-length}

pub ruleset line_lengths = (top-length, pair-length, alone-length, move-length, number-length)
