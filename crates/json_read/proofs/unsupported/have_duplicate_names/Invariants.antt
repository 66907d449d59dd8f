use Rattle.std.proofs.Common.{◌≡◌, ◌≤◌, drop, false, length}
use Rattle.nest_memory.specs.TypeOf.{field_list_of}
use Rattle.json_read.specs.UnsupportedTypes.{has_duplicate_names}
use Rattle.json_read.proofs.Twins.{HasNames}
use Rattle.json_read.proofs.unsupported.have_duplicate_names.Given as goal

abbrev pub invariant-fields : goal.invariant-fields
invariant-fields l =
    let later = field_list_of (drop l.i l.fields.items) in
    record {
      within : l.i ≤ length l.fields.items;
      distinct : has_duplicate_names later ≡ false;
      names : HasNames l.seen later;
    }

abbrev pub decreases-fields : goal.decreases-fields
decreases-fields l = l.i
