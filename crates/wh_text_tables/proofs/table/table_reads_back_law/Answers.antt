use Rattle.wh_text_tables.proofs.NamesText.{names-are-text}
use Rattle.wh_text_tables.proofs.TableReadingBack.{table-reads-back}
use Rattle.wh_text_tables.proofs.table.table_reads_back_law.Goals as goal

pub returns-clause-back : goal.returns-clause-back
returns-clause-back c = table-reads-back

pub returns-clause-names : goal.returns-clause-names
returns-clause-names c = names-are-text
