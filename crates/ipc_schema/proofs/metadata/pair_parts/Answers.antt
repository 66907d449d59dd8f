use Rattle.std.proofs.Common.{◌≡◌, ◌≤◌, ◌++◌, ◌∷◌, List, ℕ, length, map, sym, ap, ◌∙◌, refl, arith}
use Rattle.std.specs.Prelude.{string_bytes}
use Rattle.std.specs.Map.Iter.{deref_pair}
use Rattle.std.proofs.lemmas.Map.Iter.{rest_more}
use Rattle.std.proofs.lemmas.Result.{err_from_is_err_and}
use Rattle.nest_memory.specs.TypeOf.{entries_of}
use Rattle.ipc_flatbuf.specs.PartBytes.{concatenated, bytes_of_each}
use Rattle.ipc_flatbuf.specs.WriteErrors.{size_error_of_whole}
use Rattle.ipc_schema.specs.SchemaBytes.{pair_bytes}
use Rattle.ipc_schema.specs.MetadataLaws.{one_of}
use Rattle.ipc_schema.proofs.Maps.{Texts}
use Rattle.ipc_schema.proofs.metadata.pair_parts.Goals as goal

pub returns-in_err-part-clause-size : goal.returns-in_err-part-clause-size
returns-in_err-part-clause-size c =
    let p = err_from_is_err_and c.from_residual.result c.from_residual.ensures.1 in
    let front : List (List ℕ) = bytes_of_each c.loop-key.parts.items in
    let rest : List (List ℕ) = map pair_bytes (entries_of c.next.new.self) in
    let left = rest_more deref_pair c.loop-key.key-iterator c.next.new.self c.next.result (c.in-Some.key, c.in-Some.value) c.in-Some.is c.next.ensures.steps in
    let part : List ℕ = pair_bytes (c.as_str.result.now, c.as_str-in-loop-key.result.now) in
    let same : part ≡ pair_bytes (string_bytes c.in-Some.key.now, string_bytes c.in-Some.value.now) = rw (c.as_str.ensures.value, c.as_str-in-loop-key.ensures.value) refl in
    let all : front ++ pair_bytes (string_bytes c.in-Some.key.now, string_bytes c.in-Some.value.now) ∷ rest ≡ map pair_bytes (entries_of c.args.metadata.now.entries) =
    ap (λ (es : Texts). front ++ map pair_bytes (entries_of es)) (sym left) ∙ c.loop-key.invariant.parts in
    let le : length part ≤ length (concatenated (map pair_bytes (entries_of c.args.metadata.now.entries))) = omega (arith, ap length same, ap (λ (l : List (List ℕ)). length (concatenated l)) all, one_of front (pair_bytes (string_bytes c.in-Some.key.now, string_bytes c.in-Some.value.now)) rest) in
    rw (p.1, p.2) (size_error_of_whole _ _ _ le c.in_err-part.ensures.size)
