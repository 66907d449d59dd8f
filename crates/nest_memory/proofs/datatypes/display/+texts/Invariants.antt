use Rattle.std.proofs.Common.{◌≡◌, ℕ, List, ◌++◌, false, drop}
use Rattle.std.specs.Prelude.{option_map}
use Rattle.std.specs.Fmt.{HasWritten, IsPlainFormatter}
use Rattle.nest_memory.specs.TypeOf.{field_list_of}
use Rattle.nest_memory.specs.TypeText.{text_of_fields, text_of_picks}
use Rattle.nest_memory.proofs.datatypes.display.+texts.Given as goal

abbrev pub invariant-write_fields-loop-field : goal.invariant-write_fields-loop-field
invariant-write_fields-loop-field g l =
    IsPlainFormatter l.initial.f → (done : List ℕ) × HasWritten g.W.Write.write_str_gives l.initial.f done l.f
    × (done ++ text_of_fields l.after (field_list_of (drop l.field-index l.fields)) ≡ text_of_fields false (field_list_of l.fields))

abbrev pub invariant-write_union-loop-k : goal.invariant-write_union-loop-k
invariant-write_union-loop-k g l =
    let ids = option_map (λ v. v.items) l.ids in
    IsPlainFormatter l.initial.f → (done : List ℕ) × HasWritten g.W.Write.write_str_gives l.initial.f done l.f
    × (done ++ text_of_picks ids l.k (field_list_of (drop l.k l.fields)) ≡ text_of_picks ids 0 (field_list_of l.fields))
