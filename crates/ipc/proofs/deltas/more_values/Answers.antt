use mir.Syntax.{w64}
use mir.Val.{to_z, of_z}
use Rattle.std.proofs.Common.{rules, ◌≡◌, true, Result, Ok, sym, ap, ◌∙◌}
use Rattle.std.proofs.lemmas.Int.{to_z-of_z}
use Rattle.std.specs.Prelude.{ℤ}
use Rattle.std.specs.Option.{option_copied}
use Rattle.std.specs.Map.{lookup}
use Rattle.std.specs.BTreeMap.{is_at}
use Rattle.std.specs.Ordering.{int_cmp}
use Rattle.nest_array.specs.Seen.{layout_of}
use Rattle.ipc_flatbuf.specs.declared.error.IpcReadError.{IpcReadError}
use Rattle.ipc.specs.Streams.{StateTree, state_of, spec_contains_id, with_delta}
use Rattle.ipc.proofs.DeltaParts.{shown, shown_known, more_fails, more_known}
use Rattle.ipc.proofs.deltas.more_values.Goals as goal

abbrev known_as : StateTree → Result StateTree IpcReadError
known_as x = Ok x

pub returns-in-Err-clause-known : goal.returns-in-Err-clause-known
returns-in-Err-clause-known c =
    let s : StateTree = state_of c.args.state.now in
    let es = c.args.state.now.known.entries in
    let id : ℤ = c.args.id in
    let same : to_z w64 (of_z w64 id) ≡ id = to_z-of_z w64 id c.ranges.id in
    let appendable : spec_contains_id s.appendable id ≡ true = search rules in
    let found : option_copied c.get.result ≡ lookup (is_at (int_cmp id)) es = c.get.ensures.value ∙ ap (λ (k : ℤ). lookup (is_at (int_cmp k)) es) same in
    more_fails s id (layout_of c.args.more) (shown c.get.result) c.in-Err.error appendable (shown_known es id c.get.result found) c.in-Err.ensures

pub returns-in_ok-insert_delta-in-Ok-clause-known : goal.returns-in_ok-insert_delta-in-Ok-clause-known
returns-in_ok-insert_delta-in-Ok-clause-known c =
    let s : StateTree = state_of c.args.state.now in
    let es = c.args.state.now.known.entries in
    let id : ℤ = c.args.id in
    let same : to_z w64 (of_z w64 id) ≡ id = to_z-of_z w64 id c.ranges.id in
    let appendable : spec_contains_id s.appendable id ≡ true = search rules in
    let found : option_copied c.get.result ≡ lookup (is_at (int_cmp id)) es = c.get.ensures.value ∙ ap (λ (k : ℤ). lookup (is_at (int_cmp k)) es) same in
    let new : state_of c.insert_delta.new.self ≡ with_delta s id (layout_of c.in-Ok.values) = c.in_ok-insert_delta-in-Ok.ensures.known ∙ ap (λ (k : ℤ). with_delta s k (layout_of c.in-Ok.values)) same in
    more_known s id (layout_of c.args.more) (shown c.get.result) (layout_of c.in-Ok.values) appendable (shown_known es id c.get.result found) c.in-Ok.ensures
    ∙ ap known_as (sym new)
