use Rattle.ipc_schema.specs.FileEndExamples.{short_file, no_magic, empty_footer, long_footer, negative_footer, one_byte_footer}
use Rattle.ipc_schema.proofs.footer.laws.invalid_ends_fail.Goals as goal

pub returns-clause-short_file : goal.returns-clause-short_file
returns-clause-short_file c = short_file

pub returns-clause-no_magic : goal.returns-clause-no_magic
returns-clause-no_magic c = no_magic

pub returns-clause-empty_footer : goal.returns-clause-empty_footer
returns-clause-empty_footer c = empty_footer

pub returns-clause-long_footer : goal.returns-clause-long_footer
returns-clause-long_footer c = long_footer

pub returns-clause-negative_footer : goal.returns-clause-negative_footer
returns-clause-negative_footer c = negative_footer

pub returns-clause-one_byte_footer : goal.returns-clause-one_byte_footer
returns-clause-one_byte_footer c = one_byte_footer
