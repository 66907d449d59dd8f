use Rattle.std.proofs.Common.{◌≡◌, Some, None, sym, ap, ◌∙◌}
use Rattle.std.specs.Prelude.{string_bytes}
use Rattle.std.specs.Option.{option_map}
use Rattle.nest_memory.specs.TypeOf.{entries_of}
use Rattle.ipc_schema.specs.StoredTypes.{spec_is_reserved_name}
use Rattle.ipc_schema.specs.Extensions.{extension_name, metadata_value, is_reserved_name_of}
use Rattle.ipc_schema.proofs.Maps.{value_found}
use Rattle.ipc_schema.proofs.metadata.names_reserved.Goals as goal

pub returns-in-None : goal.returns-in-None
returns-in-None c =
    let es = c.args.metadata.now.entries in
    let none : metadata_value extension_name (entries_of es) ≡ None = value_found extension_name es ∙ ap (option_map string_bytes) (sym c.in-None.ensures.value) in
    sym (ap is_reserved_name_of none)

pub returns-in-Some : goal.returns-in-Some
returns-in-Some c =
    let es = c.args.metadata.now.entries in
    let some : metadata_value extension_name (entries_of es) ≡ Some (string_bytes c.in-Some.name.now) = value_found extension_name es ∙ ap (option_map string_bytes) (sym c.in-Some.ensures.value) in
    c.is_reserved_name.ensures ∙ ap spec_is_reserved_name c.as_str.ensures.value ∙ sym (ap is_reserved_name_of some)
