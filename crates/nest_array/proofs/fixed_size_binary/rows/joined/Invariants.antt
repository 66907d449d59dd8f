use Rattle.std.proofs.Common.{◌≡◌, length, take}
use Rattle.std.specs.List.{concat, All}
use Rattle.nest_array.proofs.fixed_size_binary.rows.joined.Given as goal

abbrev pub invariant-loop-row : goal.invariant-loop-row
invariant-loop-row g l =
    record {
      bytes : l.bytes.items ≡ concat (take l.row-index l.rows);
      each : All (λ row. length row ≡ g.row.N) (take l.row-index l.rows);
    }
