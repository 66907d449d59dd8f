use Rattle.ipc_schema.specs.FooterExamples as examples
use Rattle.ipc_schema.proofs.footer.laws.footer_is_read.Goals as goal

pub returns-clause-footer : goal.returns-clause-footer
returns-clause-footer c = examples.worked

pub returns-clause-unversioned : goal.returns-clause-unversioned
returns-clause-unversioned c = examples.unversioned

pub returns-clause-versions : goal.returns-clause-versions
returns-clause-versions c = examples.versions
