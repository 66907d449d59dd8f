use Rattle.std.proofs.Common.{◌≡◌, false, map, string_bytes, take}
use Rattle.nest_memory.specs.TypeOf.{field_list_of}
use Rattle.json_write.specs.JsonText.{prefixes_of}
use Rattle.json_write.proofs.MemberPrefixes.{comes_after}
use Rattle.json_write.proofs.struct_rows.member_prefixes.Given as goal

abbrev pub invariant-loop-field : goal.invariant-loop-field
invariant-loop-field l =
    (map string_bytes l.prefixes.items ≡ prefixes_of (field_list_of (take l.field-index l.fields)) false) × (l.after ≡ comes_after false l.field-index)
