use Rattle.rd_conf.proofs.FirstVersion.{first_version}
use Rattle.rd_conf.proofs.defaults.default_settings.Goals as goal

pub returns-clause-version_1 : goal.returns-clause-version_1
returns-clause-version_1 c = first_version
