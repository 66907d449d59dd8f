use Rattle.std.proofs.Common.{◌≡◌, ◌+◌, ℕ, List, false, map, string_bytes}
use Rattle.std.specs.Fmt.{HasWritten, IsPlainFormatter}
use Rattle.nest_memory.specs.TypeTree.{FieldTrees}
use Rattle.nest_model.specs.Fits.{EachCovers, EachType}
use Rattle.nest_model.specs.Meaning.{each}
use Rattle.json_write.specs.JsonText.{prefixes_of, json_members}
use Rattle.nest_array.specs.Seen.{layouts_of}
use Rattle.json_write.proofs.MemberPrefixes.{IsBehind}
use Rattle.json_write.proofs.struct_rows.write_prefixed_members.Given as goal

abbrev pub invariant-loop-prefix : goal.invariant-loop-prefix
invariant-loop-prefix g l =
    EachCovers (layouts_of l.prefix-iterator.b.rest.now) (l.i + 1)
    × ((fs : FieldTrees) → EachType fs (layouts_of l.children) → map string_bytes l.prefixes ≡ prefixes_of fs false → IsPlainFormatter l.initial.f
    → (done : List ℕ) × HasWritten g.W.Write.write_str_gives l.initial.f done l.f
    × IsBehind (map string_bytes l.prefix-iterator.a.rest.now) (layouts_of l.prefix-iterator.b.rest.now) l.i done (json_members fs false (each (layouts_of l.children) l.i)))
