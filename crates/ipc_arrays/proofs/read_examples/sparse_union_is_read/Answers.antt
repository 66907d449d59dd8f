use Rattle.ipc_arrays.specs.ReadExamples.{sparse_union_are, short_sparse_union_are, odd_sparse_union_are, unnamed_sparse_union_are, negative_sparse_union_are}
use Rattle.ipc_arrays.proofs.read_examples.sparse_union_is_read.Goals as goal

pub returns-clause-read : goal.returns-clause-read
returns-clause-read c = sparse_union_are

pub returns-clause-short : goal.returns-clause-short
returns-clause-short c = short_sparse_union_are

pub returns-clause-odd : goal.returns-clause-odd
returns-clause-odd c = odd_sparse_union_are

pub returns-clause-unnamed : goal.returns-clause-unnamed
returns-clause-unnamed c = unnamed_sparse_union_are

pub returns-clause-negative : goal.returns-clause-negative
returns-clause-negative c = negative_sparse_union_are
