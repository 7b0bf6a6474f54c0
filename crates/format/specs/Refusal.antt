-- The number and the places of each rule of the table, as the code names them. Assumes nothing.
use Rattle.std.specs.Prelude.{ℕ}
use Rattle.format.specs.declared.refusal.Refusal.{Refusal}
use Rattle.format.specs.declared.refusal.Refusal.TheVariants.{Short, Edition, Crowd, Overlong, Directory, Stranger, Repeat, Length, Clash, Unstable, Unknown, Apart, Request, Room, Marks, Open, Weights, OneSided, Unlisted}

-- The number of a rule in document 01's table
abbrev pub rule_number : Refusal → ℕ
rule_number (Short given) = 1
rule_number Edition = 2
rule_number Crowd = 3
rule_number (Overlong size) = 4
rule_number (Directory at) = 5
rule_number (Stranger at) = 6
rule_number (Repeat at) = 7
rule_number Length = 8
rule_number (Clash at) = 9
rule_number (Unstable man woman) = 10
rule_number Unknown = 11
rule_number Apart = 12
rule_number Request = 13
rule_number Room = 14
rule_number Marks = 15
rule_number Open = 16
rule_number Weights = 17
rule_number OneSided = 18
rule_number Unlisted = 19

-- The place given: 1 for rule 3, and 0 where a rule has none
abbrev pub rule_place : Refusal → ℕ
rule_place (Short given) = given
rule_place Edition = 0
rule_place Crowd = 1
rule_place (Overlong size) = size
rule_place (Directory at) = at
rule_place (Stranger at) = at
rule_place (Repeat at) = at
rule_place Length = 0
rule_place (Clash at) = at
rule_place (Unstable man woman) = man.0
rule_place Unknown = 0
rule_place Apart = 0
rule_place Request = 0
rule_place Room = 0
rule_place Marks = 0
rule_place Open = 0
rule_place Weights = 0
rule_place OneSided = 0
rule_place Unlisted = 0

-- The second place, which rule 10 alone has
abbrev pub rule_second : Refusal → ℕ
rule_second (Short given) = 0
rule_second Edition = 0
rule_second Crowd = 0
rule_second (Overlong size) = 0
rule_second (Directory at) = 0
rule_second (Stranger at) = 0
rule_second (Repeat at) = 0
rule_second Length = 0
rule_second (Clash at) = 0
rule_second (Unstable man woman) = woman.0
rule_second Unknown = 0
rule_second Apart = 0
rule_second Request = 0
rule_second Room = 0
rule_second Marks = 0
rule_second Open = 0
rule_second Weights = 0
rule_second OneSided = 0
rule_second Unlisted = 0
