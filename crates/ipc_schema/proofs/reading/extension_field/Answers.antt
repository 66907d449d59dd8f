use Rattle.std.proofs.Common.{rules, ◌≡◌, None, sym, ◌∙◌}
use Rattle.nest_memory.specs.TypeOf.{entries_of}
use Rattle.nest_memory.specs.declared.datatypes.DataType.{the_lemmas}
use Rattle.ipc_schema.specs.Extensions.{extension_name, metadata_value}
use Rattle.ipc_schema.specs.ExtensionLaws.{free_stays}
use Rattle.ipc_schema.proofs.reading.extension_field.Goals as goal

pub returns-in-None : goal.returns-in-None
returns-in-None c =
    let free : metadata_value extension_name (entries_of c.args.all.entries) ≡ None = sym c.in-None.ensures.value in
    let same : entries_of c.take.new.metadata.entries ≡ entries_of c.args.all.entries = c.in-None.ensures.rest ∙ free_stays extension_name (entries_of c.args.all.entries) free in
    rw (free, ← same) (search (rules, the_lemmas))
