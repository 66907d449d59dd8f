use Rattle.std.proofs.Common.{◌≡◌, ◌+◌, [], ◌++◌, map, string_bytes, false, sym, ap, ◌∙◌, subst, inl, inr, rules, arith}
use Rattle.std.proofs.Output.{has_written_append, has_written_of_eq, writes_in_calls_nil}
use Rattle.nest_model.specs.Fits.{EachCovers}
use Rattle.nest_model.specs.Meaning.{each}
use Rattle.json_write.specs.JsonText.{json_members, slot_json}
use Rattle.nest_array.specs.Seen.{layout_of, layouts_of}
use Rattle.json_write.proofs.MemberPrefixes.{IsBehind, behind-start, behind-more, behind-end, rest-covers}
use Rattle.json_write.proofs.struct_rows.write_prefixed_members.Goals as goal

pub loop-prefix-init : goal.loop-prefix-init
loop-prefix-init g c =
    let hs = c.args.prefixes.now in
    let cs = c.args.children.now in
    let it = c.into_iter-prefix-iterator.result in
    let e : it.a.rest.now ≡ hs = ap (λ z. z.a.rest.now) c.into_iter-prefix-iterator.ensures.into_iter_gives ∙ ap (λ z. z.rest.now) c.zip-prefix-items.ensures.first ∙ c.iter.ensures.rest in
    let h : it.b.rest.now ≡ cs = ap (λ z. z.b.rest.now) c.into_iter-prefix-iterator.ensures.into_iter_gives ∙ c.zip-prefix-items.ensures.second.0 in (
      subst (λ xs. EachCovers (layouts_of xs) (c.args.i + 1)) (sym h) c.requires,
      λ fs typed heads plain. (
        [],
        record { wrote = writes_in_calls_nil _ _; plain = plain },
        subst (λ xs. IsBehind (map string_bytes it.a.rest.now) (layouts_of xs) c.args.i [] (json_members fs false (each (layouts_of cs) c.args.i))) (sym h)
            (subst (λ ks. IsBehind (map string_bytes ks) (layouts_of cs) c.args.i [] (json_members fs false (each (layouts_of cs) c.args.i))) (sym e)
            (behind-start fs (map string_bytes hs) (layouts_of cs) c.args.i typed heads)),
      ),
    )

pub write_slot-requires : goal.write_slot-requires
write_slot-requires g c =
    let (covers, text) = c.loop-prefix.invariant in
    let x = rest-covers c.in-Some.child.now c.loop-prefix.prefix-iterator.b.rest.now c.next.new.self.b.rest.now (c.args.i + 1) c.in-Some.ensures.steps.1 covers in
    omega (arith, x.0)

pub loop-prefix-preserved : goal.loop-prefix-preserved
loop-prefix-preserved g c =
    let (covers, text) = c.loop-prefix.invariant in
    let l = c.loop-prefix.prefix-iterator in
    let e = c.in-Some.ensures.steps.0 in
    let h = c.in-Some.ensures.steps.1 in (
      (rest-covers c.in-Some.child.now l.b.rest.now c.next.new.self.b.rest.now (c.args.i + 1) h covers).1,
      λ fs typed heads plain.
          let (done, wrote, behind) = text fs typed heads plain in
          let one = c.write_str.ensures.writes wrote.plain (search rules) in
          let two = c.write_slot.ensures one.plain (search rules) in (
            (done ++ string_bytes c.in-Some.prefix.now) ++ slot_json (layout_of c.in-Some.child.now) c.args.i,
            has_written_of_eq _ _ _ _ _ (ap (λ b. (done ++ b) ++ slot_json (layout_of c.in-Some.child.now) c.args.i) c.as_str.ensures.value) (has_written_append _ _ _ _ _ _ (has_written_append _ _ _ _ _ _ wrote one) two),
            behind-more c.in-Some.child.now c.in-Some.prefix.now l.a.rest.now c.next.new.self.a.rest.now l.b.rest.now c.next.new.self.b.rest.now c.args.i done _ e h behind,
          ),
    )

pub returns : goal.returns
returns g c fs typed heads plain ok =
    let (covers, text) = c.loop-prefix.invariant in
    let l = c.loop-prefix.prefix-iterator in
    let (done, wrote, behind) = text fs typed heads plain in
    has_written_of_eq _ _ _ _ _ (behind-end l.a.rest.now l.b.rest.now c.args.i done _ (elim c.in-None.ensures.steps [ inl x ↦ inl x.1.0 | inr x ↦ inr x.1.0 ]) behind) wrote
