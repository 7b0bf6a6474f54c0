-- How long numbers and the parts of a line are, for each step that puts one.
use Rattle.sheet_text.specs.Laws.Decimal.{one-digit, two_digits, three-digits, four-digits, five-digits}
use Rattle.sheet_text.specs.Laws.Put.{number-length}
use Rattle.sheet_text.specs.Laws.Lines.{top-length, pair-length, alone-length, zero-length, refusal-length}

pub ruleset number_lengths = (one-digit, two_digits, three-digits, four-digits, five-digits)

pub ruleset line_lengths = (top-length, pair-length, alone-length, zero-length, refusal-length, number-length)
