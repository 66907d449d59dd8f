use Rattle.std.proofs.Common.{◌≡◌, ◌+◌, ◌*◌, ◌≤◌, length, ap, sym, ◌∙◌, subst, arith}
use Rattle.std.proofs.lemmas.List.{with_items_is}
use Rattle.nest_memory.specs.TypeOf.{type_of}
use Rattle.nest_memory.specs.TypeTree.{size_of}
use Rattle.nest_model.specs.Layout as layouts
use Rattle.nest_model.specs.Layout.{weight, weight_all}
use Rattle.nest_model.specs.Meaning.{len, first_len}
use Rattle.nest_model.specs.Fits.{EachCovers}
use Rattle.nest_model.specs.FactLaws.{struct-facts}
use Rattle.nest_model.specs.Slice.{slice_layout, slice_layouts}
use Rattle.nest_model.specs.SliceLaws.{first_len-cut}
use Rattle.nest_model.specs.FitsLaws.{top-fits-cut}
use Rattle.nest_model.specs.Runs.{product-fits}
use Rattle.nest_array.specs.Seen.{layout_of, layouts_of}
use Rattle.nest_array.proofs.Children.{covers, covers-at, weight-at, cut-all}
use Rattle.nest_array.proofs.FixedSizes.{size-cut-fits, size-cut-len}
use Rattle.nest_array.proofs.+cut.Goals as goal

pub fixed_size_list::FixedSizeListArray::cut-cut-requires : goal.fixed_size_list::FixedSizeListArray::cut-cut-requires
fixed_size_list::FixedSizeListArray::cut-cut-requires t c =
    let v = ap layout_of c.deref_mut.ensures.value in
    let w = ap weight v in
    let m = ap len v in
    let s = ap weight c.self.view_is in
    let e = ap len c.self.view_is in
    let k = product-fits c.args.o c.args.n (len (layout_of c.self.inside.values.value)) (size_of (type_of c.self.inside.data_type)) (omega (arith, e, c.requires)) in
    (omega (arith, w, s), rw (c.self.invariant.1.0) (omega (arith, m, k)))

pub fixed_size_list::FixedSizeListArray::cut-invariant_of-self : goal.fixed_size_list::FixedSizeListArray::cut-invariant_of-self
fixed_size_list::FixedSizeListArray::cut-invariant_of-self t c =
    let e = ap len c.self.view_is in
    let child = c.cut.ensures ∙ ap (λ a. slice_layout (layout_of a) (c.args.o * c.self.inside.size) (c.args.n * c.self.inside.size)) c.deref_mut.ensures.value in
    let within : c.args.o + c.args.n ≤ len (layouts.fixed_size_list (type_of c.self.inside.data_type) (layout_of c.self.inside.values.value) c.self.inside.validity) = omega (arith, e, c.requires) in (
      size-cut-fits (type_of c.self.inside.data_type) (layout_of c.self.inside.values.value) (layout_of c.cut.new.self) c.self.inside.validity c.slice.new.validity c.self.inside.size c.args.o c.args.n child c.slice.ensures c.self.invariant.1.0 c.self.invariant.0 within,
      (c.self.invariant.1.0, size-cut-len (type_of c.self.inside.data_type) (layout_of c.self.inside.values.value) (layout_of c.cut.new.self) c.self.inside.validity c.slice.new.validity c.self.inside.size c.args.o c.args.n child c.slice.ensures c.self.invariant.1.0 within),
    )

pub struct_::StructArray::cut-cut_all-requires : goal.struct_::StructArray::cut-cut_all-requires
struct_::StructArray::cut-cut_all-requires t c =
    let v = ap layouts_of c.deref_mut.ensures.value in
    let w = ap weight_all v in
    let s = ap weight c.self.view_is in
    let e = ap len c.self.view_is in
    let k : c.args.o + c.args.n ≤ first_len (layouts_of c.self.inside.values.items) = omega (arith, e, c.requires) in (
      omega (arith, w, s),
      subst (λ cs. EachCovers cs (c.args.o + c.args.n)) (sym v)
          (covers (layouts_of c.self.inside.values.items) (first_len (layouts_of c.self.inside.values.items)) (c.args.o + c.args.n) (struct-facts (type_of c.self.inside.data_type) (layouts_of c.self.inside.values.items) c.self.inside.validity c.self.invariant.0).each_len k),
    )

pub struct_::StructArray::cut-invariant_of-self : goal.struct_::StructArray::cut-invariant_of-self
struct_::StructArray::cut-invariant_of-self t c =
    let e = ap len c.self.view_is in
    let k : c.args.o + c.args.n ≤ first_len (layouts_of c.self.inside.values.items) = omega (arith, e, c.requires) in
    let a = ap length c.deref_mut.ensures.value in
    let l : length c.cut_all.new.children ≡ c.self.inside.values.len = omega (arith, c.cut_all.auto.children, c.deref_mut.ensures.len) in
    let w = with_items_is c.self.inside.values c.cut_all.new.children l in
    let x = c.cut_all.ensures ∙ ap (λ xs. slice_layouts (layouts_of xs) c.args.o c.args.n) c.deref_mut.ensures.value in
    let f = top-fits-cut (layouts.struct (type_of c.self.inside.data_type) (layouts_of c.self.inside.values.items) c.self.inside.validity) c.args.o c.args.n c.self.invariant.0 k in
    let g = first_len-cut (layouts_of c.self.inside.values.items) c.args.o c.args.n k in
    rw (w, x, c.slice.ensures) (f, sym g)

pub struct_::cut_all-cut-requires : goal.struct_::cut_all-cut-requires
struct_::cut_all-cut-requires t c =
    let d = c.index-children-i.result in
    let same = c.loop-i.invariant.left c.loop-i.i d (omega arith) in
    let w = weight-at c.args.children.now c.loop-i.i d (omega arith) in
    let h = covers-at c.args.children.now c.loop-i.i (c.args.o + c.args.n) d c.requires (omega arith) in
    rw same (omega arith, h)

pub struct_::cut_all-returns : goal.struct_::cut_all-returns
struct_::cut_all-returns t c =
    cut-all c.loop-i.children c.args.children.now c.args.o c.args.n c.loop-i.invariant.same_length (λ k d h. c.loop-i.invariant.done k d (omega arith))
