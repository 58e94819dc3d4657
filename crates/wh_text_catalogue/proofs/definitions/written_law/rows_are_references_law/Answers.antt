use Rattle.wh_text_catalogue.proofs.WrittenHeaders.{columns-stand-in-rows, read-shapes-are-named, rows-are-references}
use Rattle.wh_text_catalogue.proofs.definitions.written_law.rows_are_references_law.Goals as goal

pub returns-clause-places : goal.returns-clause-places
returns-clause-places c = columns-stand-in-rows

pub returns-clause-read : goal.returns-clause-read
returns-clause-read c = read-shapes-are-named

pub returns-clause-rows : goal.returns-clause-rows
returns-clause-rows c = rows-are-references
