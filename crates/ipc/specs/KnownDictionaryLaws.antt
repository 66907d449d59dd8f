-- After the pending dictionaries of columns, all that the columns name is known: nested dictionaries come first, and a reader knows the values emitted last.
use Rattle.std.proofs.Common.{◌≡◌, ℕ, suc, ◌+◌, ◌<◌, ◌≤◌, Bool, true, false, cond, List, [], ◌∷◌, ◌++◌, Option, Some, None, refl, sym, ap, subst, ◌∙◌, arith}
use Rattle.std.specs.Prelude.{ℤ, pos, ◌&&◌, if◌then◌else◌}
use Rattle.std.specs.BTreeMap.{insert_entry}
use Rattle.std.specs.Cmp.{Equal-is, first_so, second_so}
use Rattle.std.specs.List.{AllByRecursion}
use Rattle.std.specs.Ordering.{int_cmp, is_eq, match_ordering}
use Rattle.std.specs.declared.cmp.Ordering.{Ordering}
use Rattle.std.specs.declared.cmp.Ordering.TheVariants.{Less, Equal, Greater}
use Rattle.std.proofs.lemmas.Cmp.{tied_itself, int_cmp_total}
use Rattle.std.proofs.lemmas.Map.Lookups.{exact_signed}
use Rattle.std.proofs.lemmas.Option.{same_Some}
use Rattle.nest_memory.specs.TypeTree.{logical_type}
use Rattle.nest_model.specs.Layout.{Layout, Layouts, fixed_size_list, list as list_of, map as map_of, struct, union, dictionary, no_layouts, more_layouts}
use Rattle.nest_model.specs.SameArray.{IsSameArray, same_array}
use Rattle.nest_model.specs.SameArrayLaws.{same_array-decides, same-refl}
use Rattle.ipc_arrays.specs.ReplacedValues.{AreSameValues}
use Rattle.ipc.specs.DictionaryEntries.{DictionaryEntries, count_dictionaries, count_each_dictionaries, own_entries, each_own, columns_own, entries_in, each_entries, columns_entries}
use Rattle.ipc.specs.PendingDictionaries.{entry_at, with_entries, is_same, is_none, pending_in, each_pending, columns_pending, pending}
use Rattle.ipc.specs.KnownDictionaries.{IsKnown, Follows, read_values, number_of, known_with, AreInOrder, AreAllKnown}

-- ---- entries

write_at : (r : Ordering) (e : ℤ × Layout) (es rest : DictionaryEntries) (id : ℤ) (c : Layout) → int_cmp id e.0 ≡ r → entry_at rest id ≡ Some c → entry_at (match_ordering r ((id, c) ∷ e ∷ es) ((e.0, c) ∷ es) (e ∷ rest)) id ≡ Some c
write_at Less e es rest id c is more = rw (tied_itself int_cmp_total id) refl
write_at Equal e es rest id c is more = rw is refl
write_at Greater e es rest id c is more = rw is more

-- an id has the values set for it
pub entry_put : (entries : DictionaryEntries) (id : ℤ) (c : Layout) → entry_at (insert_entry int_cmp entries id c) id ≡ Some c
entry_put [] id c = rw (tied_itself int_cmp_total id) refl
entry_put (e ∷ es) id c = write_at (int_cmp id e.0) e es (insert_entry int_cmp es id c) id c refl (entry_put es id c)

-- another id
abbrev pub IsOther : ℤ → ℤ → Type 0
IsOther id other = is_eq (int_cmp other id) ≡ false

kept_at : (r : Ordering) (e : ℤ × Layout) (es rest : DictionaryEntries) (id other : ℤ) (c : Layout) → int_cmp id e.0 ≡ r → IsOther id other → entry_at rest other ≡ entry_at es other
    → entry_at (match_ordering r ((id, c) ∷ e ∷ es) ((e.0, c) ∷ es) (e ∷ rest)) other ≡ entry_at (e ∷ es) other
kept_at Less e es rest id other c is apart more = rw apart refl
kept_at Equal e es rest id other c is apart more =
    let away : IsOther e.0 other = subst (λ (k : ℤ). IsOther k other) (exact_signed id e.0 is) apart in
    rw away refl
kept_at Greater e es rest id other c is apart more = ap (λ (o : Option Layout). cond (is_eq (int_cmp other e.0)) (Some e.1) o) more

-- the others are unchanged
pub entry_kept : (entries : DictionaryEntries) (id other : ℤ) (c : Layout) → IsOther id other → entry_at (insert_entry int_cmp entries id c) other ≡ entry_at entries other
entry_kept [] id other c apart = rw apart refl
entry_kept (e ∷ es) id other c apart = kept_at (int_cmp id e.0) e es (insert_entry int_cmp es id c) id other c refl apart (entry_kept es id other c apart)

-- ---- ids

-- each id is one of these numbers
abbrev pub AreWithin : ℕ → ℕ → DictionaryEntries → Type 0
AreWithin first end entries = AllByRecursion (λ e. (id : ℕ) × (e.0 ≡ pos id) × (first ≤ id) × (id < end)) entries

pub all_both : {A : Type 0} (P : A → Type 0) (xs ys : List A) → AllByRecursion P xs → AllByRecursion P ys → AllByRecursion P (xs ++ ys)
all_both P [] ys xs-are ys-are = ys-are
all_both P (x ∷ xs) ys (one, rest) ys-are = (one, all_both P xs ys rest ys-are)

pub all_parts : {A : Type 0} (P : A → Type 0) (xs ys : List A) → AllByRecursion P (xs ++ ys) → AllByRecursion P xs × AllByRecursion P ys
all_parts P [] ys all = (tt, all)
all_parts P (x ∷ xs) ys (one, rest) = let parts = all_parts P xs ys rest in ((one, parts.0), parts.1)

within_more : (first end a b : ℕ) (entries : DictionaryEntries) → first ≤ a → b ≤ end → AreWithin a b entries → AreWithin first end entries
within_more first end a b [] low high are = tt
within_more first end a b (e ∷ es) low high (one, rest) = ((one.0, one.1, omega (arith, low, one.2), omega (arith, high, one.3)), within_more first end a b es low high rest)

within_both : (first middle end : ℕ) (xs ys : DictionaryEntries) → first ≤ middle → middle ≤ end → AreWithin first middle xs → AreWithin middle end ys → AreWithin first end (xs ++ ys)
within_both first middle end xs ys low high xs-are ys-are =
    all_both _ xs ys (within_more first end first middle xs (omega arith) high xs-are) (within_more first end middle end ys low (omega arith) ys-are)

-- the ids of an array are consecutive numbers
mutual
  pub entries_within : (id : ℕ) (a : Layout) → AreWithin id (id + count_dictionaries a) (entries_in id a)
  entries_within id (fixed_size_list t c va) = entries_within id c
  entries_within id (list_of large t os c va) = entries_within id c
  entries_within id (map_of t os c va) = entries_within id c
  entries_within id (struct t cs va) = each_within id cs
  entries_within id (union t ks cs os start) = each_within id cs
  entries_within id (dictionary t ks c) =
      let end : ℕ = id + suc (count_dictionaries c) in
      all_both _ (entries_in (suc id) c) ((pos id, c) ∷ []) (within_more id end (suc id) (suc id + count_dictionaries c) (entries_in (suc id) c) (omega arith) (omega arith) (entries_within (suc id) c)) ((id, refl, omega arith, omega arith), tt)
  entries_within id a = tt

  pub each_within : (id : ℕ) (cs : Layouts) → AreWithin id (id + count_each_dictionaries cs) (each_entries id cs)
  each_within id no_layouts = tt
  each_within id (more_layouts c cs) =
      let n : ℕ = count_dictionaries c in
      let others : AreWithin (id + n) (id + (n + count_each_dictionaries cs)) (each_entries (id + n) cs) = within_more (id + n) (id + (n + count_each_dictionaries cs)) (id + n) (id + n + count_each_dictionaries cs) (each_entries (id + n) cs) (omega arith) (omega arith) (each_within (id + n) cs) in
      within_both id (id + n) (id + (n + count_each_dictionaries cs)) (entries_in id c) (each_entries (id + n) cs) (omega arith) (omega arith) (entries_within id c) others

-- what holds of all dictionaries of columns holds of those nested in no other
mutual
  own_of : (P : ℤ × Layout → Type 0) (id : ℕ) (a : Layout) → AllByRecursion P (entries_in id a) → AllByRecursion P (own_entries id a)
  own_of P id (fixed_size_list t c va) all = own_of P id c all
  own_of P id (list_of large t os c va) all = own_of P id c all
  own_of P id (map_of t os c va) all = own_of P id c all
  own_of P id (struct t cs va) all = each_own_of P id cs all
  own_of P id (union t ks cs os start) all = each_own_of P id cs all
  own_of P id (dictionary t ks c) all = (all_parts P (entries_in (suc id) c) ((pos id, c) ∷ []) all).1
  own_of P id a all = tt

  each_own_of : (P : ℤ × Layout → Type 0) (id : ℕ) (cs : Layouts) → AllByRecursion P (each_entries id cs) → AllByRecursion P (each_own id cs)
  each_own_of P id no_layouts all = tt
  each_own_of P id (more_layouts c cs) all =
      let parts = all_parts P (entries_in id c) (each_entries (id + count_dictionaries c) cs) all in
      all_both P (own_entries id c) (each_own (id + count_dictionaries c) cs) (own_of P id c parts.0) (each_own_of P (id + count_dictionaries c) cs parts.1)

pub columns_own_of : (P : ℤ × Layout → Type 0) (id : ℕ) (columns : List Layout) → AllByRecursion P (columns_entries id columns) → AllByRecursion P (columns_own id columns)
columns_own_of P id [] all = tt
columns_own_of P id (a ∷ columns) all =
    let parts = all_parts P (entries_in id a) (columns_entries (id + count_dictionaries a) columns) all in
    all_both P (own_entries id a) (columns_own (id + count_dictionaries a) columns) (own_of P id a parts.0) (columns_own_of P (id + count_dictionaries a) columns parts.1)

-- and of the pending ones
one_needed : (P : ℤ × Layout → Type 0) (b : Bool) (id : ℕ) (c : Layout) (inside : DictionaryEntries) → AllByRecursion P inside → P (pos id, c) → AllByRecursion P (if b then [] else inside ++ (pos id, c) ∷ [])
one_needed P true id c inside all one = tt
one_needed P false id c inside all one = all_both P inside ((pos id, c) ∷ []) all (one, tt)

mutual
  pending_dictionaries : (P : ℤ × Layout → Type 0) (emitted : DictionaryEntries) (id : ℕ) (a : Layout) → AllByRecursion P (entries_in id a) → AllByRecursion P (pending_in emitted id a)
  pending_dictionaries P emitted id (fixed_size_list t c va) all = pending_dictionaries P emitted id c all
  pending_dictionaries P emitted id (list_of large t os c va) all = pending_dictionaries P emitted id c all
  pending_dictionaries P emitted id (map_of t os c va) all = pending_dictionaries P emitted id c all
  pending_dictionaries P emitted id (struct t cs va) all = each_needed_of P emitted id cs all
  pending_dictionaries P emitted id (union t ks cs os start) all = each_needed_of P emitted id cs all
  pending_dictionaries P emitted id (dictionary t ks c) all =
      let parts = all_parts P (entries_in (suc id) c) ((pos id, c) ∷ []) all in
      let inside : DictionaryEntries = pending_in emitted (suc id) c in
      one_needed P (is_none inside && is_same (entry_at emitted (pos id)) c) id c inside (pending_dictionaries P emitted (suc id) c parts.0) parts.1.0
  pending_dictionaries P emitted id a all = tt

  pub each_needed_of : (P : ℤ × Layout → Type 0) (emitted : DictionaryEntries) (id : ℕ) (cs : Layouts) → AllByRecursion P (each_entries id cs) → AllByRecursion P (each_pending emitted id cs)
  each_needed_of P emitted id no_layouts all = tt
  each_needed_of P emitted id (more_layouts c cs) all =
      let parts = all_parts P (entries_in id c) (each_entries (id + count_dictionaries c) cs) all in
      all_both P (pending_in emitted id c) (each_pending emitted (id + count_dictionaries c) cs) (pending_dictionaries P emitted id c parts.0) (each_needed_of P emitted (id + count_dictionaries c) cs parts.1)

pub columns_needed_of : (P : ℤ × Layout → Type 0) (emitted : DictionaryEntries) (id : ℕ) (columns : List Layout) → AllByRecursion P (columns_entries id columns) → AllByRecursion P (columns_pending emitted id columns)
columns_needed_of P emitted id [] all = tt
columns_needed_of P emitted id (a ∷ columns) all =
    let parts = all_parts P (entries_in id a) (columns_entries (id + count_dictionaries a) columns) all in
    all_both P (pending_in emitted id a) (columns_pending emitted (id + count_dictionaries a) columns) (pending_dictionaries P emitted id a parts.0) (columns_needed_of P emitted (id + count_dictionaries a) columns parts.1)

-- ---- unchanged entries

-- all of them have other ids
abbrev AreOthers : ℤ → DictionaryEntries → Type 0
AreOthers id new = AllByRecursion (λ e. IsOther e.0 id) new

pub other_by : (r : Ordering) (k n : ℕ) → int_cmp (pos n) (pos k) ≡ r → (n ≡ k → ⊥) → is_eq r ≡ false
other_by Less k n is apart = refl
other_by Equal k n is apart = absurd (apart (ap number_of (exact_signed (pos n) (pos k) is)))
other_by Greater k n is apart = refl

outside : (first end n : ℕ) (new : DictionaryEntries) → ((k : ℕ) → first ≤ k → k < end → n ≡ k → ⊥) → AreWithin first end new → AreOthers (pos n) new
outside first end n [] out are = tt
outside first end n (e ∷ es) out (one, rest) =
    (subst (λ (k : ℤ). IsOther k (pos n)) (sym one.1) (other_by (int_cmp (pos n) (pos one.0)) one.0 n refl (out one.0 one.2 one.3)), outside first end n es out rest)

others_kept : (new emitted : DictionaryEntries) (id : ℤ) → AreOthers id new → entry_at (with_entries emitted new) id ≡ entry_at emitted id
others_kept [] emitted id apart = refl
others_kept (e ∷ new) emitted id (one, rest) = others_kept new (insert_entry int_cmp emitted e.0 e.1) id rest ∙ entry_kept emitted e.0 id e.1 one

-- from an id on nothing changed
abbrev Agrees : DictionaryEntries → DictionaryEntries → ℕ → Type 0
Agrees base emitted id = (n : ℕ) → id ≤ n → entry_at emitted (pos n) ≡ entry_at base (pos n)

agrees_behind : (base emitted new : DictionaryEntries) (id end : ℕ) → id ≤ end → AreWithin id end new → Agrees base emitted id → Agrees base (with_entries emitted new) end
agrees_behind base emitted new id end le are agrees =
    λ n low. others_kept new emitted (pos n) (outside id end n new (λ k from to same. omega (arith, low, to, same)) are) ∙ agrees n (omega (arith, le, low))

-- ---- emitted dictionaries

-- an id has these values, or equal ones
abbrev pub IsSent : DictionaryEntries → ℤ × Layout → Type 0
IsSent emitted e = is_same (entry_at emitted e.0) e.1 ≡ true

-- the dictionaries nested in each were emitted before it
abbrev pub AreSentInOrder : DictionaryEntries → DictionaryEntries → Type 0
AreSentInOrder emitted [] = Unit {0}
AreSentInOrder emitted (e ∷ new) = AllByRecursion (IsSent emitted) (own_entries (suc (number_of e.0)) e.1) × AreSentInOrder (insert_entry int_cmp emitted e.0 e.1) new

-- these were emitted after the pending ones
pub record AreSent (emitted new entries : DictionaryEntries) : Type 0 where
  pub order : AreSentInOrder emitted new
  pub each : AllByRecursion (IsSent (with_entries emitted new)) entries

with_more : (emitted xs ys : DictionaryEntries) → with_entries emitted (xs ++ ys) ≡ with_entries (with_entries emitted xs) ys
with_more emitted [] ys = refl
with_more emitted (x ∷ xs) ys = with_more (insert_entry int_cmp emitted x.0 x.1) xs ys

order_both : (emitted xs ys : DictionaryEntries) → AreSentInOrder emitted xs → AreSentInOrder (with_entries emitted xs) ys → AreSentInOrder emitted (xs ++ ys)
order_both emitted [] ys xs-are ys-are = ys-are
order_both emitted (x ∷ xs) ys (one, rest) ys-are = (one, order_both (insert_entry int_cmp emitted x.0 x.1) xs ys rest ys-are)

still_sent : (emitted new entries : DictionaryEntries) (a b first end : ℕ) → ((k n : ℕ) → first ≤ k → k < end → a ≤ n → n < b → n ≡ k → ⊥) → AreWithin first end new → AreWithin a b entries
    → AllByRecursion (IsSent emitted) entries → AllByRecursion (IsSent (with_entries emitted new)) entries
still_sent emitted new [] a b first end apart new-are are all = tt
still_sent emitted new (e ∷ es) a b first end apart new-are (one, rest) (is, all) =
    let others : AreOthers e.0 new = subst (λ (k : ℤ). AreOthers k new) (sym one.1) (outside first end one.0 new (λ k low high. apart k one.0 low high one.2 one.3) new-are) in
    (ap (λ (o : Option Layout). is_same o e.1) (others_kept new emitted e.0 others) ∙ is, still_sent emitted new es a b first end apart new-are rest all)

-- entries in order, with distinct ids
sent_both : (emitted xs ys entries others : DictionaryEntries) (a b first end : ℕ) → ((k n : ℕ) → first ≤ k → k < end → a ≤ n → n < b → n ≡ k → ⊥) → AreWithin first end ys → AreWithin a b entries
    → AreSent emitted xs entries → AreSent (with_entries emitted xs) ys others → AreSent emitted (xs ++ ys) (entries ++ others)
sent_both emitted xs ys entries others a b first end apart ys-are are front behind =
    let whole = with_more emitted xs ys in
    record {
      order = order_both emitted xs ys front.order behind.order;
      each = subst (λ (l : DictionaryEntries). AllByRecursion (IsSent l) (entries ++ others)) (sym whole) (all_both (IsSent (with_entries (with_entries emitted xs) ys)) entries others (still_sent (with_entries emitted xs) ys entries a b first end apart ys-are are front.each) behind.each);
    }

same_itself : (c : Layout) → same_array c c ≡ true
same_itself c = (same_array-decides c c).1 (same-refl c)

-- values after the dictionaries nested in them
one_sent : (emitted : DictionaryEntries) (id : ℕ) (c : Layout) → AllByRecursion (IsSent emitted) (own_entries (suc id) c) → AreSent emitted ((pos id, c) ∷ []) ((pos id, c) ∷ [])
one_sent emitted id c inside = record { order = (inside, tt); each = (ap (λ (o : Option Layout). is_same o c) (entry_put emitted (pos id) c) ∙ same_itself c, tt) }

-- values that are not pending
none_again : (emitted inside entries : DictionaryEntries) (id : ℕ) (c : Layout) → is_none inside ≡ true → is_same (entry_at emitted (pos id)) c ≡ true → AreSent emitted inside entries → AreSent emitted [] (entries ++ (pos id, c) ∷ [])
none_again emitted [] entries id c none same front = record { order = tt; each = all_both (IsSent emitted) entries ((pos id, c) ∷ []) front.each (same, tt) }
none_again emitted (e ∷ inside) entries id c none same front = absurd (cc none)

own_sent : (b : Bool) (emitted inside entries : DictionaryEntries) (id end : ℕ) (c : Layout) → (is_none inside && is_same (entry_at emitted (pos id)) c) ≡ b → AreWithin (suc id) end entries
    → AllByRecursion (IsSent (with_entries emitted inside)) (own_entries (suc id) c) → AreSent emitted inside entries → AreSent emitted (if b then [] else inside ++ (pos id, c) ∷ []) (entries ++ (pos id, c) ∷ [])
own_sent true emitted inside entries id end c is are own front = none_again emitted inside entries id c (first_so (is_none inside) (is_same (entry_at emitted (pos id)) c) is) (second_so (is_none inside) (is_same (entry_at emitted (pos id)) c) is) front
own_sent false emitted inside entries id end c is are own front =
    sent_both emitted inside ((pos id, c) ∷ []) entries ((pos id, c) ∷ []) (suc id) end id (suc id) (λ k n low high from to same. omega (arith, high, from, same)) ((id, refl, omega arith, omega arith), tt) are front
    (one_sent (with_entries emitted inside) id c own)

pub needed_within : (emitted : DictionaryEntries) (id : ℕ) (a : Layout) → AreWithin id (id + count_dictionaries a) (pending_in emitted id a)
needed_within emitted id a = pending_dictionaries _ emitted id a (entries_within id a)

-- after the pending dictionaries of an array, all that it names was emitted, if its values are those taken from its first id on
mutual
  sent_in : (base emitted : DictionaryEntries) (id : ℕ) (a : Layout) → Agrees base emitted id → AreSent emitted (pending_in base id a) (entries_in id a)
  sent_in base emitted id (fixed_size_list t c va) agrees = sent_in base emitted id c agrees
  sent_in base emitted id (list_of large t os c va) agrees = sent_in base emitted id c agrees
  sent_in base emitted id (map_of t os c va) agrees = sent_in base emitted id c agrees
  sent_in base emitted id (struct t cs va) agrees = sent_each base emitted id cs agrees
  sent_in base emitted id (union t ks cs os start) agrees = sent_each base emitted id cs agrees
  sent_in base emitted id (dictionary t ks c) agrees =
      let inside : DictionaryEntries = pending_in base (suc id) c in
      let front : AreSent emitted inside (entries_in (suc id) c) = sent_in base emitted (suc id) c (λ n low. agrees n (omega (arith, low))) in
      let test : (is_none inside && is_same (entry_at emitted (pos id)) c) ≡ (is_none inside && is_same (entry_at base (pos id)) c) = ap (λ (o : Option Layout). is_none inside && is_same o c) (agrees id (omega arith)) in
      own_sent (is_none inside && is_same (entry_at base (pos id)) c) emitted inside (entries_in (suc id) c) id (suc id + count_dictionaries c) c test (entries_within (suc id) c) (own_of _ (suc id) c front.each) front
  sent_in base emitted id a agrees = record { order = tt; each = tt }

  sent_each : (base emitted : DictionaryEntries) (id : ℕ) (cs : Layouts) → Agrees base emitted id → AreSent emitted (each_pending base id cs) (each_entries id cs)
  sent_each base emitted id no_layouts agrees = record { order = tt; each = tt }
  sent_each base emitted id (more_layouts c cs) agrees =
      let n : ℕ = count_dictionaries c in
      let xs : DictionaryEntries = pending_in base id c in
      let ys : DictionaryEntries = each_pending base (id + n) cs in
      let ys-are : AreWithin (id + n) (id + n + count_each_dictionaries cs) ys = each_needed_of _ base (id + n) cs (each_within (id + n) cs) in
      sent_both emitted xs ys (entries_in id c) (each_entries (id + n) cs) id (id + n) (id + n) (id + n + count_each_dictionaries cs) (λ k m low high from to same. omega (arith, low, to, same)) ys-are (entries_within id c)
      (sent_in base emitted id c agrees) (sent_each base (with_entries emitted xs) (id + n) cs (agrees_behind base emitted xs id (id + n) (omega arith) (needed_within base id c) agrees))

abbrev pub count_columns : List Layout → ℕ
count_columns [] = 0
count_columns (a ∷ columns) = count_dictionaries a + count_columns columns

pub columns_within : (id : ℕ) (columns : List Layout) → AreWithin id (id + count_columns columns) (columns_entries id columns)
columns_within id [] = tt
columns_within id (a ∷ columns) =
    let n : ℕ = count_dictionaries a in
    let others : AreWithin (id + n) (id + (n + count_columns columns)) (columns_entries (id + n) columns) = within_more (id + n) (id + (n + count_columns columns)) (id + n) (id + n + count_columns columns) (columns_entries (id + n) columns) (omega arith) (omega arith) (columns_within (id + n) columns) in
    within_both id (id + n) (id + (n + count_columns columns)) (entries_in id a) (columns_entries (id + n) columns) (omega arith) (omega arith) (entries_within id a) others

sent_columns : (base emitted : DictionaryEntries) (id : ℕ) (columns : List Layout) → Agrees base emitted id → AreSent emitted (columns_pending base id columns) (columns_entries id columns)
sent_columns base emitted id [] agrees = record { order = tt; each = tt }
sent_columns base emitted id (a ∷ columns) agrees =
    let n : ℕ = count_dictionaries a in
    let xs : DictionaryEntries = pending_in base id a in
    let ys : DictionaryEntries = columns_pending base (id + n) columns in
    let ys-are : AreWithin (id + n) (id + n + count_columns columns) ys = columns_needed_of _ base (id + n) columns (columns_within (id + n) columns) in
    sent_both emitted xs ys (entries_in id a) (columns_entries (id + n) columns) id (id + n) (id + n) (id + n + count_columns columns) (λ k m low high from to same. omega (arith, low, to, same)) ys-are (entries_within id a)
    (sent_in base emitted id a agrees) (sent_columns base (with_entries emitted xs) (id + n) columns (agrees_behind base emitted xs id (id + n) (omega arith) (needed_within base id a) agrees))

-- after the pending dictionaries of columns, each of their dictionaries was emitted, nested ones first
pub needed_sent : (emitted : DictionaryEntries) (columns : List Layout) → AreSent emitted (pending emitted columns) (columns_entries 0 columns)
needed_sent emitted columns = sent_columns emitted emitted 0 columns (λ n low. refl)

-- ---- nothing is pending twice

mutual
  none_in : (emitted : DictionaryEntries) (id : ℕ) (a : Layout) → AllByRecursion (IsSent emitted) (entries_in id a) → pending_in emitted id a ≡ []
  none_in emitted id (fixed_size_list t c va) all = none_in emitted id c all
  none_in emitted id (list_of large t os c va) all = none_in emitted id c all
  none_in emitted id (map_of t os c va) all = none_in emitted id c all
  none_in emitted id (struct t cs va) all = none_each emitted id cs all
  none_in emitted id (union t ks cs os start) all = none_each emitted id cs all
  none_in emitted id (dictionary t ks c) all =
      let parts = all_parts (IsSent emitted) (entries_in (suc id) c) ((pos id, c) ∷ []) all in
      rw (none_in emitted (suc id) c parts.0, parts.1.0) refl
  none_in emitted id a all = refl

  none_each : (emitted : DictionaryEntries) (id : ℕ) (cs : Layouts) → AllByRecursion (IsSent emitted) (each_entries id cs) → each_pending emitted id cs ≡ []
  none_each emitted id no_layouts all = refl
  none_each emitted id (more_layouts c cs) all =
      let parts = all_parts (IsSent emitted) (entries_in id c) (each_entries (id + count_dictionaries c) cs) all in
      λ w. none_in emitted id c parts.0 w ++ none_each emitted (id + count_dictionaries c) cs parts.1 w

none_columns : (emitted : DictionaryEntries) (id : ℕ) (columns : List Layout) → AllByRecursion (IsSent emitted) (columns_entries id columns) → columns_pending emitted id columns ≡ []
none_columns emitted id [] all = refl
none_columns emitted id (a ∷ columns) all =
    let parts = all_parts (IsSent emitted) (entries_in id a) (columns_entries (id + count_dictionaries a) columns) all in
    λ w. none_in emitted id a parts.0 w ++ none_columns emitted (id + count_dictionaries a) columns parts.1 w

-- after the pending dictionaries of columns, nothing of theirs is pending
pub needed_again : (emitted : DictionaryEntries) (columns : List Layout) → pending (with_entries emitted (pending emitted columns)) columns ≡ []
needed_again emitted columns = none_columns (with_entries emitted (pending emitted columns)) 0 columns (needed_sent emitted columns).each

-- ---- known dictionaries

-- what holds of equal values holds of these
pub known_by : (known : DictionaryEntries) (id : ℤ) (o : Option Layout) (c : Layout) → ((d : Layout) → o ≡ Some d → IsKnown known (id, d)) → is_same o c ≡ true → IsKnown known (id, c)
known_by known id None c follows same = absurd (cc same)
known_by known id (Some d) c follows same =
    let x = follows d refl in
    let alike : IsSameArray d c = (same_array-decides d c).0 same in
    (x.0, x.1, record { logical = x.2.logical ∙ ap logical_type alike.0; slots = x.2.slots ∙ alike.1 })

all_known : (known emitted entries : DictionaryEntries) → Follows known emitted → AllByRecursion (IsSent emitted) entries → AllByRecursion (IsKnown known) entries
all_known known emitted [] follows all = tt
all_known known emitted (e ∷ es) follows (is, all) = (known_by known e.0 (entry_at emitted e.0) e.1 (λ d at. follows e.0 d at) is, all_known known emitted es follows all)

-- an id has new values in both
follows_at : (b : Bool) (known emitted : DictionaryEntries) (id other : ℤ) (c d old : Layout) → is_eq (int_cmp other id) ≡ b → Follows known emitted → AreSameValues c d → entry_at (insert_entry int_cmp emitted id c) other ≡ Some old
    → IsKnown (insert_entry int_cmp known id d) (other, old)
follows_at true known emitted id other c d old is follows same at =
    let here : other ≡ id = exact_signed other id ((Equal-is (int_cmp other id)).0 is) in
    let new : Some c ≡ Some old = sym (entry_put emitted id c) ∙ ap (λ (k : ℤ). entry_at (insert_entry int_cmp emitted id c) k) (sym here) ∙ at in
    (d, ap (λ (k : ℤ). entry_at (insert_entry int_cmp known id d) k) here ∙ entry_put known id d, subst (λ (x : Layout). AreSameValues x d) (same_Some c old new) same)
follows_at false known emitted id other c d old is follows same at =
    let x = follows other old (sym (entry_kept emitted id other c is) ∙ at) in
    (x.0, entry_kept known id other d is ∙ x.1, x.2)

follows_more : (known emitted : DictionaryEntries) (id : ℤ) (c d : Layout) → Follows known emitted → AreSameValues c d → Follows (insert_entry int_cmp known id d) (insert_entry int_cmp emitted id c)
follows_more known emitted id c d follows same = λ other old at. follows_at (is_eq (int_cmp other id)) known emitted id other c d old refl follows same at

-- values with this property are known as they are read, if the dictionaries nested in them are known
abbrev pub AreReadTo : (Layout → Type 0) → Type 0
AreReadTo P = (known : DictionaryEntries) (id : ℕ) (c : Layout) → P c → AllByRecursion (IsKnown known) (own_entries (suc id) c) → AreSameValues c (read_values known id c)

known_in_order : (P : Layout → Type 0) → AreReadTo P → (known emitted new : DictionaryEntries) → Follows known emitted → AreSentInOrder emitted new → AllByRecursion (λ e. P e.1) new → AreInOrder known new × Follows (known_with known new) (with_entries emitted new)
known_in_order P read known emitted [] follows order all = (tt, follows)
known_in_order P read known emitted (e ∷ new) follows (inside, order) (one, all) =
    let id : ℕ = number_of e.0 in
    let known-are : AllByRecursion (IsKnown known) (own_entries (suc id) e.1) = all_known known emitted (own_entries (suc id) e.1) follows inside in
    let d : Layout = read_values known id e.1 in
    let rest = known_in_order P read (insert_entry int_cmp known e.0 d) (insert_entry int_cmp emitted e.0 e.1) new (follows_more known emitted e.0 e.1 d follows (read known id e.1 one known-are)) order all in
    ((known-are, rest.0), rest.1)

-- a reader that knows the values emitted last knows all that columns name after their pending dictionaries
pub needed_known : (P : Layout → Type 0) → AreReadTo P → (known emitted : DictionaryEntries) (columns : List Layout) → Follows known emitted → AllByRecursion (λ e. P e.1) (pending emitted columns) → AreAllKnown known emitted columns
needed_known P read known emitted columns follows all =
    let are = needed_sent emitted columns in
    let new : DictionaryEntries = pending emitted columns in
    let behind = known_in_order P read known emitted new follows are.order all in
    record { order = behind.0; own = all_known (known_with known new) (with_entries emitted new) (columns_own 0 columns) behind.1 (columns_own_of _ 0 columns are.each); follows = behind.1 }
