use Rattle.std.proofs.Common.{◌≡◌, true, ap, ◌∙◌, subst}
use Rattle.std.specs.Str.{is_utf8}
use Rattle.std.proofs.lemmas.Result.{on_ok_weaker}
use Rattle.nest_memory.specs.TypeOf.{type_of, field_of, entries_of}
use Rattle.nest_memory.specs.TypeTree.{Letters, Entries, TypeTree}
use Rattle.ipc_schema.specs.Extensions.{spec_table_type, all_metadata_of}
use Rattle.ipc_schema.specs.MetadataLaws.{AreUtf8, AreSorted}
use Rattle.ipc_schema.specs.TypeLaws.{TypeFits}
use Rattle.ipc_schema.specs.FieldLaws.{own_entries, own_type, all_of}
use Rattle.ipc_schema.proofs.Maps.{rising_is}
use Rattle.ipc_schema.proofs.writing.field_part_over.Goals as goal

pub returns-in-None-clause-fits : goal.returns-in-None-clause-fits
returns-in-None-clause-fits c =
    let f = field_of c.args.field.now in
    let own : entries_of c.own_metadata-own.result.now.entries ≡ own_entries f = c.own_metadata-own.ensures in
    let type : type_of c.table_type-data_type.result.now ≡ own_type f = c.table_type-data_type.ensures ∙ ap spec_table_type c.data_type.ensures in
    let told : entries_of c.own_metadata-own.result.now.entries ≡ all_metadata_of (type_of c.data_type-2.result.now) (entries_of c.own_metadata-own.result.now.entries) = rw c.in-None.is at c.in_ok-all_metadata.ensures in
    let all : entries_of c.own_metadata-own.result.now.entries ≡ all_of f = told ∙ (λ i. all_metadata_of (c.data_type-2.ensures i) (own i)) in
    on_ok_weaker c.field_part_of_type.result
    (λ h. (subst (λ (text : Letters). is_utf8 text ≡ true) c.field_name-name.ensures h.0, subst (λ (t : TypeTree). TypeFits t) type h.1, subst (λ (es : Entries). AreUtf8 es) all h.2, subst (λ (es : Entries). AreSorted es) all (rising_is c.own_metadata-own.result.now.entries c.field_part_of_type.ensures.rising)))
    c.field_part_of_type.ensures.fits

pub returns-in-Some-clause-fits : goal.returns-in-Some-clause-fits
returns-in-Some-clause-fits c =
    let f = field_of c.args.field.now in
    let own : entries_of c.own_metadata-own.result.now.entries ≡ own_entries f = c.own_metadata-own.ensures in
    let type : type_of c.table_type-data_type.result.now ≡ own_type f = c.table_type-data_type.ensures ∙ ap spec_table_type c.data_type.ensures in
    let told : entries_of c.in-Some.all.entries ≡ all_metadata_of (type_of c.data_type-2.result.now) (entries_of c.own_metadata-own.result.now.entries) = rw c.in-Some.is at c.in_ok-all_metadata.ensures in
    let all : entries_of c.in-Some.all.entries ≡ all_of f = told ∙ (λ i. all_metadata_of (c.data_type-2.ensures i) (own i)) in
    on_ok_weaker c.field_part_of_type-in-Some.result
    (λ h. (subst (λ (text : Letters). is_utf8 text ≡ true) c.field_name-name.ensures h.0, subst (λ (t : TypeTree). TypeFits t) type h.1, subst (λ (es : Entries). AreUtf8 es) all h.2, subst (λ (es : Entries). AreSorted es) all (rising_is c.in-Some.all.entries c.field_part_of_type-in-Some.ensures.rising)))
    c.field_part_of_type-in-Some.ensures.fits
