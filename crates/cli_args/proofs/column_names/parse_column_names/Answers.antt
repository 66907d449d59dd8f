use Rattle.std.proofs.Common.{◌≡◌, ◌∙◌, List, [], ◌∷◌, ◌++◌, Option, Bor, ap, length, map, subst, sym, arith, ℕ}
use Rattle.std.specs.Prelude.{option_map, string_bytes}
use Rattle.std.proofs.lemmas.List.{map-append}
use Rattle.cli_args.specs.ColumnNames.{column_names}
use Rattle.cli_args.proofs.NameLists.{IsRead, read-all, read-fails, read-first, size-shorter}
use Rattle.cli_args.proofs.column_names.parse_column_names.Goals as goal

abbrev nows : Option (Bor (List ℕ)) → Option (List ℕ)
nows = option_map (λ r. r.now)

pub returns-in-Err : goal.returns-in-Err
returns-in-Err c =
    let len = length c.args.text.now in
    let ns = map string_bytes c.names.names.items in
    let total = column_names c.args.text.now in
    let so_far = subst (λ (r : Option (Bor (List ℕ))). IsRead len ns (nows r) total) c.in-Some.is c.names.invariant in
    read-fails len ns c.in-Some.current.now c.in-Err.error total c.in-Err.ensures.name so_far

pub names-preserved : goal.names-preserved
names-preserved c =
    let len = length c.args.text.now in
    let ns = map string_bytes c.names.names.items in
    let total = column_names c.args.text.now in
    let so_far = subst (λ (r : Option (Bor (List ℕ))). IsRead len ns (nows r) total) c.in-Some.is c.names.invariant in
    let less = size-shorter c.in-Ok.next (length c.in-Some.current.now) c.in-Ok.ensures.shorter in
    let read = read-first len ns c.in-Some.current.now (string_bytes c.in-Ok.name) (nows c.in-Ok.next) total c.in-Ok.ensures.name less so_far in
    let pushed = ap (map string_bytes) c.in_ok-push-in-Ok.ensures.items ∙ map-append string_bytes c.names.names.items (c.in-Ok.name ∷ []) in
    subst (λ (ms : List (List ℕ)). IsRead len ms (nows c.in-Ok.next) total) (sym pushed) read

pub returns : goal.returns
returns c =
    let len = length c.args.text.now in
    let ns = map string_bytes c.names.names.items in
    let total = column_names c.args.text.now in
    let read = subst (λ (r : Option (Bor (List ℕ))). IsRead len ns (nows r) total) c.in_default.is c.names.invariant in
    read-all len ns total read
