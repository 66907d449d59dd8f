use Rattle.ipc_arrays.specs.ReadExamples.{dense_union_are, past_dense_union_are, other_dense_union_are, negative_dense_union_are, odd_dense_union_are, bare_dense_union_are}
use Rattle.ipc_arrays.proofs.read_examples.dense_union_is_read.Goals as goal

pub returns-clause-read : goal.returns-clause-read
returns-clause-read c = dense_union_are

pub returns-clause-past : goal.returns-clause-past
returns-clause-past c = past_dense_union_are

pub returns-clause-other : goal.returns-clause-other
returns-clause-other c = other_dense_union_are

pub returns-clause-negative : goal.returns-clause-negative
returns-clause-negative c = negative_dense_union_are

pub returns-clause-odd : goal.returns-clause-odd
returns-clause-odd c = odd_dense_union_are

pub returns-clause-bare : goal.returns-clause-bare
returns-clause-bare c = bare_dense_union_are
