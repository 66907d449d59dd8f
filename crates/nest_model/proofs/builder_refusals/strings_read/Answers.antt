use Rattle.nest_model.specs.BuilderExamples.{IsIterator, StepsOf, strings_input}
use Rattle.nest_model.specs.BuilderReadingLaws.{took-texts, took-given, refused-texts}
use Rattle.nest_model.proofs.builder_refusals.strings_read.Goals as goal

pub returns-clause-several : goal.returns-clause-several
returns-clause-several c = took-texts

pub returns-clause-all : goal.returns-clause-all
returns-clause-all c = took-given strings_input

pub returns-clause-refused_some : goal.returns-clause-refused_some
returns-clause-refused_some c = refused-texts IsIterator StepsOf
