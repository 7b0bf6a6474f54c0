-- `write_large` meets its contract: the tables that it lends are long enough for every book.
use Rattle.format.proofs.Laws.LongTables.{large-tables}
use Rattle.move_lines.proofs.moves.write_large.Goals as goal

pub write_with-requires-clause-mlists_long_tables : goal.write_with-requires-clause-mlists_long_tables
write_with-requires-clause-mlists_long_tables c = large-tables.0

pub write_with-requires-clause-wlists_long_tables : goal.write_with-requires-clause-wlists_long_tables
write_with-requires-clause-wlists_long_tables c = large-tables.1

pub write_with-requires-clause-rows_long_tables : goal.write_with-requires-clause-rows_long_tables
write_with-requires-clause-rows_long_tables c = large-tables.0
