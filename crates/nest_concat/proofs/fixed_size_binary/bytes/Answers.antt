use Rattle.std.proofs.Common.{ap, sym, ◌∙◌, subst}
use Rattle.std.specs.List.{flat_map}
use Rattle.std.proofs.lemmas.Result.{IfOk-weaker}
use Rattle.nest_model.specs.Layout.{layout_type}
use Rattle.nest_concat.specs.Joined.{IsWithin}
use Rattle.nest_concat.specs.Windows.{blocks_in}
use Rattle.nest_concat.proofs.Grown.{flat-all}
use Rattle.nest_concat.proofs.Logical.{kind-alike, size-alike}
use Rattle.nest_concat.proofs.Made.{fixed-kind}
use Rattle.nest_concat.proofs.fixed_size_binary.bytes.Goals as goal

pub blocks-requires-clause-kind : goal.blocks-requires-clause-kind
blocks-requires-clause-kind c =
    let t = layout_type c.args.array.now in
    let w = c.window-item.result in
    let h = subst (IsWithin t) (sym c.window-item.is) (c.requires.within c.loop-window.window-index w c.loop-window-test.true) in
    kind-alike (layout_type w.array) t _ h.same_type (fixed-kind c.args.array.now _ _ _ c.known.ensures.fits c.known.ensures.kind)

pub blocks-requires-clause-size : goal.blocks-requires-clause-size
blocks-requires-clause-size c =
    let t = layout_type c.args.array.now in
    let w = c.window-item.result in
    let h = subst (IsWithin t) (sym c.window-item.is) (c.requires.within c.loop-window.window-index w c.loop-window-test.true) in
    c.size-size.ensures.typed ∙ sym (size-alike (layout_type w.array) t h.same_type)

pub returns-clause-ok : goal.returns-clause-ok
returns-clause-ok c =
    let ws = c.args.windows.now in
    IfOk-weaker c.from_vec.result _ _
    (λ b h. h ∙ c.loop-window.invariant ∙ flat-all (blocks_in c.size-size.result) ws c.loop-window.window-index c.loop-window-test.false ∙ ap (λ s. flat_map (blocks_in s) ws) c.size-size.ensures.typed)
    c.from_vec.ensures.ok
