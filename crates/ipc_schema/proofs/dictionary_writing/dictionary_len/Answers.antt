use Rattle.std.proofs.Common.{Option, length, sym, ap, ◌∙◌}
use Rattle.ipc_schema.specs.declared.dictionaries.Encoding.{Encoding}
use Rattle.ipc_schema.specs.SchemaBytes.{encoding_bytes}
use Rattle.ipc_schema.specs.FieldLaws.{encoding_long}
use Rattle.ipc_schema.proofs.dictionary_writing.dictionary_len.Goals as goal

pub returns-in-Some-clause-len : goal.returns-in-Some-clause-len
returns-in-Some-clause-len c = sym (ap (λ (d : Option Encoding). length (encoding_bytes d)) c.in-Some.is ∙ encoding_long _)
