use Rattle.std.proofs.Common.{◌≡◌, ◌++◌}
use Rattle.ipc_schema.specs.DictionaryModels.{seen_of}
use Rattle.ipc_schema.specs.OutermostIds.{spec_outermost_ids}
use Rattle.ipc_schema.proofs.Passed.{kept}
use Rattle.ipc_schema.proofs.dictionary_ids.outermost_ids.Given as goal

abbrev pub invariant-loop-id : goal.invariant-loop-id
invariant-loop-id l = l.outer.items ++ kept (seen_of l.dictionaries).named l.inside l.id-index l.ids ≡ spec_outermost_ids (seen_of l.dictionaries).named l.ids
