use Rattle.wh_core.proofs.Sessions.{read_tables}
use Rattle.wh_core.proofs.laws.sessions_read_tables.Goals as goal

pub returns : goal.returns
returns c = read_tables c.pages_join_law.ensures c.versions_stay_law.ensures
