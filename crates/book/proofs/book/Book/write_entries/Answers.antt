use Rattle.files.specs.Placing.{file_of}
use Rattle.table.specs.Tables.{slots_of}
use Rattle.book.proofs.book.Book.write_entries.Goals as goal

pub returns : goal.returns
unfolding file_of slots_of
returns g c = c.write_file.ensures
