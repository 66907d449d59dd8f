use mir.Syntax.{w64}
use mir.Val.{to_z, of_z}
use Rattle.std.proofs.Common.{◌≡◌, Bor, Option, Some, None, refl, sym, ap, ◌∙◌}
use Rattle.std.proofs.lemmas.Int.{to_z-of_z}
use Rattle.std.specs.Prelude.{ℤ, is_some}
use Rattle.std.specs.Option.{option_map, option_copied}
use Rattle.std.specs.Map.{lookup}
use Rattle.std.specs.BTreeMap.{is_at}
use Rattle.std.specs.Ordering.{int_cmp}
use Rattle.nest_model.specs.Layout.{Layout}
use Rattle.nest_array.specs.Seen.{layout_of}
use Rattle.nest_array.specs.declared.any.AnyArray.{AnyArray}
use Rattle.ipc.proofs.Entries.{viewed_found}
use Rattle.ipc.proofs.dictionary.is_known.Goals as goal

copied : (r : Option (Bor AnyArray)) → is_some r ≡ is_some (option_copied r)
copied None = refl
copied (Some a) = refl

seen : (r : Option AnyArray) → is_some r ≡ is_some (option_map layout_of r)
seen None = refl
seen (Some a) = refl

pub returns : goal.returns
returns c =
    let es = c.args.state.now.known.entries in
    let id = c.args.id in
    let same : to_z w64 (of_z w64 id) ≡ id = to_z-of_z w64 id c.ranges.id in
    let found : option_copied c.get.result ≡ lookup (is_at (int_cmp id)) es = c.get.ensures.value ∙ ap (λ (k : ℤ). lookup (is_at (int_cmp k)) es) same in
    c.is_some.ensures ∙ copied c.get.result ∙ ap (λ (v : Option AnyArray). is_some v) found ∙ seen (lookup (is_at (int_cmp id)) es) ∙ ap (λ (v : Option Layout). is_some v) (sym (viewed_found layout_of (is_at (int_cmp id)) es))
