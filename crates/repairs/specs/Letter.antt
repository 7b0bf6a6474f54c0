-- The letter of an answer and the byte that stands for it in a sheet. Assumes nothing.
use Rattle.std.specs.Prelude.{ℕ, Bool, true, false, List, get_or}
use Rattle.repairs.specs.declared.letter.Letter.{Letter}
use Rattle.repairs.specs.declared.letter.Letter.TheVariants.{Up, Down, Fixed}

-- The byte of a letter
abbrev pub letter_code : Letter → ℕ
letter_code Up = 85
letter_code Down = 68
letter_code Fixed = 70

-- The bytes of the letters of a list, as a function, and past its end that of the first variant
abbrev pub codes : List Letter → ℕ → ℕ
codes letters s = letter_code (get_or letters s Up)

-- Whether a letter is that of a repair
abbrev pub is_repair : Letter → Bool
is_repair Up = true
is_repair Down = true
is_repair Fixed = false
