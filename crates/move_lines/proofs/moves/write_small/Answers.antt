-- `write_small` meets its contract: the tables that it lends are long enough for a small book.
use Rattle.std.specs.Prelude.{refl}
use Rattle.format.proofs.Laws.LongTables.{small-tables}
use Rattle.move_lines.proofs.moves.write_small.Goals as goal

pub write_with-requires-clause-mlists_long_tables : goal.write_with-requires-clause-mlists_long_tables
write_with-requires-clause-mlists_long_tables c = let T = small-tables refl c.requires.small in T.0

pub write_with-requires-clause-wlists_long_tables : goal.write_with-requires-clause-wlists_long_tables
write_with-requires-clause-wlists_long_tables c = let T = small-tables refl c.requires.small in T.1

pub write_with-requires-clause-rows_long_tables : goal.write_with-requires-clause-rows_long_tables
write_with-requires-clause-rows_long_tables c = let T = small-tables refl c.requires.small in T.0
