use Rattle.host_io.proofs.Named.{exposed_of_differ}
use Rattle.host_io.proofs.mem_files.MemFiles.new.Goals as goal

pub returns-clause-exposed : goal.returns-clause-exposed
returns-clause-exposed c = exposed_of_differ c.args.files.items c.requires
