use Rattle.thread_laws.proofs.Accounts.{progress_keeps_account}
use Rattle.thread_laws.proofs.laws.progress_keeps_account.Goals as goal

pub returns : goal.returns
returns c = progress_keeps_account
