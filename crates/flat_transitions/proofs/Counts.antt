-- How many choices and flat transitions there are.
use Rattle.std.proofs.Common.{◌≡◌, ◌∙◌, inl, inr, ℕ, zero, suc, ◌+◌, ◌*◌, ◌^◌, ◌-◌, ◌≤◌, min, List, [], ◌∷◌, ◌++◌, length, map, refl, ap, sym, subst, arith, append-nil, length-append, mul_assoc, mul_comm, mul-suc, add-mul, mul-zero, mul-one, one-mul, zero-add, pow-suc}
use Rattle.std.specs.Prelude.{fold}
use Rattle.std.specs.List.{flat_map}
use Rattle.std.proofs.Math.Nat.{pow-zero, pow-succ'}
use Rattle.std.proofs.lemmas.Bool.{cases_lt}
use Rattle.std.proofs.lemmas.Grind.{flat_map-append}
use Rattle.std.proofs.lemmas.List.{length-map, map-append}
use Rattle.pascal_values.specs.Shapes.{item_count}
use Rattle.estelle_tree.specs.declared.tree.name.Name.{Name}
use Rattle.estelle_tree.specs.declared.tree.clause.AnyDom.{AnyDom}
use Rattle.estelle_tree.specs.declared.tree.clause.Block.{Block}
use Rattle.estelle_tree.specs.declared.tree.clause.Clause.{Clause}
use Rattle.estelle_tree.specs.declared.tree.clause.TransBody.{TransBody, out-TransBody, roll-TransBody, map-TransBody, fold_out-TransBody, fold-roll-TransBody}
use Rattle.estelle_tree.specs.declared.tree.clause.TransBody.TheOpen.{TransBody-F, Group-F}
use Rattle.estelle_tree.specs.declared.tree.clause.TransBody.TheFolds.{map-Group, fold_out-Group, fold-roll-Group, ind-TransBody}
use Rattle.estelle_tree.specs.declared.tree.clause.Group.{Group, out-Group, roll-Group}
use Rattle.estelle_tree.specs.declared.tree.specification.Trans.{Trans}
use Rattle.estelle_model.specs.declared.denoter.Denoter.{Denoter}
use Rattle.estelle_model.specs.Meant.{Meanings}
use Rattle.estelle_model.specs.Denoted.{ordinal_type}
use Rattle.estelle_model.specs.Definitions.{domains_of}
use Rattle.estelle_model.specs.Bodies.{Way, behind, ways, trans_body_layer, group_layer}
use Rattle.estelle_model.specs.Transitions.{Choice, choices, choices_on, names_of_domain, flat_one, flat_way}
use Rattle.meaning_table.specs.Known.{Known, meanings_of}
use Rattle.flat_transitions.specs.declared.any_names.AnyName.{AnyName}
use Rattle.flat_transitions.specs.Flat.{with_chosen, transitions_in}
use Rattle.estelle_model.specs.Bodies.{ways_in}
use Rattle.flat_transitions.specs.Choices.{any_name, choice_count, choices_from, names_in}
use Rattle.flat_transitions.specs.Counts.{size, domain_count, domains_count, count_layer, count_group_layer, count_body, count_group, count}
use Rattle.flat_transitions.proofs.Numbered.{all_numbered}
use Rattle.flat_transitions.proofs.Walks.{group_ways}

-- ---- counts that stand still at a number

le_times : (a b : ℕ) → a ≤ a * suc b
le_times a b = let e = mul-suc a b in omega (arith, e)

pub left_capped : (n a b : ℕ) → min n (min n a * b) ≡ min n (a * b)
left_capped n a zero = ap (min n) (mul-zero (min n a) ∙ sym (mul-zero a))
left_capped n a (suc b) = elim (cases_lt a n) [
  | inl less ↦ (let e : min n a ≡ a = omega arith in ap (λ k. min n (k * suc b)) e)
  | inr more ↦ (
      let e : min n a ≡ n = omega arith in
      let one : n ≤ n * suc b = le_times n b in
      let two : a ≤ a * suc b = le_times a b in
      ap (λ k. min n (k * suc b)) e ∙ omega (arith, one, two, more))
]

pub times_capped : (n a b : ℕ) → min n (min n a * min n b) ≡ min n (a * b)
times_capped n a b =
    left_capped n a (min n b)
    ∙ ap (min n) (mul_comm a (min n b))
    ∙ left_capped n b a
    ∙ ap (min n) (mul_comm b a)

pub plus_capped : (n a b : ℕ) → min n (min n a + min n b) ≡ min n (a + b)
plus_capped n a b = omega arith

pub pow_capped : (n s k : ℕ) → min n (min n s ^ k) ≡ min n (s ^ k)
pow_capped n s zero = ap (min n) (pow-zero (min n s) ∙ sym (pow-zero s))
pow_capped n s (suc k) =
    ap (min n) (pow-suc (min n s) k)
    ∙ sym (left_capped n (min n s ^ k) (min n s))
    ∙ ap (λ p. min n (p * min n s)) (pow_capped n s k)
    ∙ times_capped n (s ^ k) s
    ∙ ap (min n) (sym (pow-suc s k))

-- ---- choices

choices_length : (xs : List AnyName) (k n : ℕ) → length (choices_from xs k n) ≡ n
choices_length xs k zero = refl
choices_length xs k (suc n) = ap suc (choices_length xs (suc k) n)

abbrev Named : Type 0
Named = Name × Denoter

count_append : (xs ys : List AnyName) → choice_count (xs ++ ys) ≡ choice_count xs * choice_count ys
count_append [] ys = sym (one-mul (choice_count ys))
count_append (x ∷ xs) ys =
    ap (λ k. item_count x.low x.high * k) (count_append xs ys) ∙ sym (mul_assoc (item_count x.low x.high) (choice_count xs) (choice_count ys))

count_same : (t : Denoter) (xs : List Name) → choice_count (map any_name (map (λ x. (x, t)) xs)) ≡ size t ^ length xs
count_same t [] = sym (pow-zero (size t))
count_same t (x ∷ xs) = ap (λ k. size t * k) (count_same t xs) ∙ sym (pow-succ' (size t) (length xs))

module _ (known : Meanings) where
  choices_count : (xs : List Named) → length (choices known xs) ≡ choice_count (map any_name xs)
  choices_count xs = ap length (all_numbered known xs) ∙ choices_length (map any_name xs) 0 (choice_count (map any_name xs))

  count_named : (xs ys : List Named) → choice_count (map any_name (xs ++ ys)) ≡ choice_count (map any_name xs) * choice_count (map any_name ys)
  count_named xs ys = ap choice_count (map-append any_name xs ys) ∙ count_append (map any_name xs) (map any_name ys)

  counts_from : (ds : List AnyDom) (n : ℕ) → fold (λ k d. k * domain_count known d) n ds ≡ n * choice_count (map any_name (names_in known ds))
  counts_from [] n = sym (mul-one n)
  counts_from (d ∷ ds) n =
      let more = choice_count (map any_name (names_in known ds)) in
      counts_from ds (n * domain_count known d)
      ∙ mul_assoc n (domain_count known d) more
      ∙ ap (λ k. n * (k * more)) (sym (count_same (ordinal_type known d.domain) d.names.names))
      ∙ ap (λ k. n * k) (sym (count_named (names_of_domain known d) (names_in known ds)))

  pub domains_counted : (ds : List AnyDom) → choice_count (map any_name (names_in known ds)) ≡ domains_count known ds
  domains_counted ds = sym (one-mul (choice_count (map any_name (names_in known ds)))) ∙ sym (counts_from ds 1)

-- ---- flat transitions

module _ (means : List Choice → Meanings) where
  abbrev known : Meanings
  known = means []

  abbrev found : List Way → ℕ
  found ws = length (flat_map (flat_way means) ws)

  found_more : (ws vs : List Way) → found (ws ++ vs) ≡ found ws + found vs
  found_more ws vs = ap length (flat_map-append (flat_way means) ws vs) ∙ length-append (flat_map (flat_way means) ws) (flat_map (flat_way means) vs)

  -- the names on a way
  abbrev names_on : Way → List Named
  names_on w = names_in known (flat_map domains_of w.clauses)

  of_way : (w : Way) → length (flat_way means w) ≡ choice_count (map any_name (names_on w))
  of_way w = length-map (choices_on means w) (flat_one means w) ∙ choices_count known (names_on w)

  of_behind : (c : Clause) (w : Way) → length (flat_way means (behind c w)) ≡ domains_count known (domains_of c) * length (flat_way means w)
  of_behind c w =
      of_way (behind c w)
      ∙ ap (λ xs. choice_count (map any_name xs)) (flat_map-append (names_of_domain known) (domains_of c) (flat_map domains_of w.clauses))
      ∙ count_named known (names_in known (domains_of c)) (names_on w)
      ∙ ap (λ k. k * choice_count (map any_name (names_on w))) (domains_counted known (domains_of c))
      ∙ ap (λ k. domains_count known (domains_of c) * k) (sym (of_way w))

  all_behind : (c : Clause) (ws : List Way) → found (map (behind c) ws) ≡ domains_count known (domains_of c) * found ws
  all_behind c [] = sym (mul-zero (domains_count known (domains_of c)))
  all_behind c (w ∷ ws) =
      let n = domains_count known (domains_of c) in
      length-append (flat_way means (behind c w)) (flat_map (flat_way means) (map (behind c) ws))
      ∙ ap (λ k. k + found (map (behind c) ws)) (of_behind c w)
      ∙ ap (λ k. n * length (flat_way means w) + k) (all_behind c ws)
      ∙ spread n (length (flat_way means w)) (found ws)
      ∙ ap (λ k. n * k) (sym (length-append (flat_way means w) (flat_map (flat_way means) ws)))
    where
      spread : (n a b : ℕ) → n * a + n * b ≡ n * (a + b)
      spread n a b = omega (arith, add-mul a b n, mul_comm n a, mul_comm n b, mul_comm n (a + b))

  abbrev BodyCounted : TransBody → Type 0
  BodyCounted x = found (ways x) ≡ count_body known x

  abbrev GroupCounted : Group → Type 0
  GroupCounted x = found (group_ways x) ≡ count_group known x

  abbrev ways_at : TransBody-F TransBody Group → List Way
  ways_at l = trans_body_layer (map-TransBody TransBody Group (List Way) (List Way) ways group_ways l)

  ways_made : (l : TransBody-F TransBody Group) → ways (roll-TransBody l) ≡ ways_at l
  unfolding ways group_ways
  ways_made l = fold-roll-TransBody (List Way) (List Way) trans_body_layer group_layer l

  group_ways_made : (l : Group-F TransBody Group) → group_ways (roll-Group l) ≡ map (behind l.clause) (ways l.body)
  unfolding ways group_ways
  group_ways_made l = fold-roll-Group (List Way) (List Way) trans_body_layer group_layer l

  abbrev count_at : TransBody-F TransBody Group → ℕ
  count_at l = count_layer known (map-TransBody TransBody Group ℕ ℕ (count_body known) (count_group known) l)

  count_made : (l : TransBody-F TransBody Group) → count_body known (roll-TransBody l) ≡ count_at l
  unfolding count_body count_group
  count_made l = fold-roll-TransBody ℕ ℕ (count_layer known) (count_group_layer known) l

  group_count_made : (l : Group-F TransBody Group) → count_group known (roll-Group l) ≡ domains_count known (domains_of l.clause) * count_body known l.body
  unfolding count_body count_group
  group_count_made l = fold-roll-Group ℕ ℕ (count_layer known) (count_group_layer known) l

  abbrev ShownBody : Type 0
  ShownBody = (x : TransBody) × BodyCounted x

  abbrev ShownGroup : Type 0
  ShownGroup = (x : Group) × GroupCounted x

  abbrev opened_body : TransBody-F ShownBody ShownGroup → TransBody-F TransBody Group
  opened_body y = map-TransBody ShownBody ShownGroup TransBody Group (λ e. e.0) (λ e. e.0) y

  abbrev opened_group : Group-F ShownBody ShownGroup → Group-F TransBody Group
  opened_group y = map-Group ShownBody ShownGroup TransBody Group (λ e. e.0) (λ e. e.0) y

  sum_from : (ns : List ℕ) (n : ℕ) → fold (λ a k. a + k) n ns ≡ n + fold (λ a k. a + k) 0 ns
  sum_from [] n = omega arith
  sum_from (k ∷ ns) n =
      let one = sum_from ns (n + k) in
      let two : fold (λ a b. a + b) 0 (k ∷ ns) ≡ k + fold (λ a b. a + b) 0 ns = ap (λ m. fold (λ a b. a + b) m ns) (zero-add k) ∙ sum_from ns k in
      one ∙ omega (arith, two)

  groups_counted : (xs : List ShownGroup) → found (flat_map (λ ws. ws) (map group_ways (map (λ e. e.0) xs))) ≡ fold (λ a k. a + k) 0 (map (count_group known) (map (λ e. e.0) xs))
  groups_counted [] = refl
  groups_counted (x ∷ xs) =
      let rest = flat_map (λ ws. ws) (map group_ways (map (λ e. e.0) xs)) in
      let counts = map (count_group known) (map (λ e. e.0) xs) in
      found_more (group_ways x.0) rest
      ∙ ap (λ k. k + found rest) x.1
      ∙ ap (λ k. count_group known x.0 + k) (groups_counted xs)
      ∙ sym (sum_from counts (count_group known x.0))
      ∙ ap (λ n. fold (λ a k. a + k) n counts) (sym (zero-add (count_group known x.0)))

  block_counted : (b : Block) → found (record { clauses = []; block = b } ∷ []) ≡ 1
  block_counted b = ap length (append-nil (flat_way means (record { clauses = []; block = b }))) ∙ of_way (record { clauses = []; block = b })

  body_go : (y : TransBody-F ShownBody ShownGroup) → found (ways_at (opened_body y)) ≡ count_at (opened_body y)
  body_go (TransBody-F.Block b) = block_counted b
  body_go (TransBody-F.Groups groups span) = groups_counted groups

  body_shown : (x : TransBody-F TransBody Group) (y : TransBody-F ShownBody ShownGroup) → opened_body y ≡ x → BodyCounted (roll-TransBody x)
  body_shown x y is = subst (λ (z : TransBody-F TransBody Group). BodyCounted (roll-TransBody z)) is
      (ap found (ways_made (opened_body y)) ∙ body_go y ∙ sym (count_made (opened_body y)))

  group_shown : (x : Group-F TransBody Group) (y : Group-F ShownBody ShownGroup) → opened_group y ≡ x → GroupCounted (roll-Group x)
  group_shown x y is = subst (λ (z : Group-F TransBody Group). GroupCounted (roll-Group z)) is
      (ap found (group_ways_made (opened_group y)) ∙ all_behind y.clause (ways y.body.0) ∙ ap (λ k. domains_count known (domains_of y.clause) * k) y.body.1 ∙ sym (group_count_made (opened_group y)))

  body_counted : (x : TransBody) → BodyCounted x
  body_counted = ind-TransBody BodyCounted GroupCounted body_shown group_shown

  counted_from : (ts : List Trans) (n : ℕ) → fold (λ k t. k + count_body known t.body) n ts ≡ n + length (transitions_in means ts)
  counted_from [] n = omega arith
  counted_from (t ∷ ts) n =
      let here = body_counted t.body in
      let more = found_more (ways t.body) (ways_in ts) in
      counted_from ts (n + count_body known t.body) ∙ omega (arith, here, more)

-- so many flat transitions stand behind each `trans`
pub all_counted : (known : Known) (ts : List Trans) (n : ℕ) → n ≡ min (2 ^ 32 - 1) (count (meanings_of known) ts) → n ≡ min (2 ^ 32 - 1) (length (transitions_in (with_chosen known) ts))
all_counted known ts n is =
    let total = counted_from (with_chosen known) ts 0 in
    omega (arith, is, total)

-- ---- the equations that the count follows

abbrev body_count_at : Meanings → TransBody-F TransBody Group → ℕ
body_count_at means (TransBody-F.Block b) = 1
body_count_at means (TransBody-F.Groups groups span) = fold (λ n g. n + count_group means g) 0 groups

sum_mapped : {A : Type 0} (f : A → ℕ) (xs : List A) (n : ℕ) → fold (λ a k. a + k) n (map f xs) ≡ fold (λ a x. a + f x) n xs
sum_mapped f [] n = refl
sum_mapped f (x ∷ xs) n = sum_mapped f xs (n + f x)

layer_counted : (known : Meanings) (l : TransBody-F TransBody Group) → count_layer known (map-TransBody TransBody Group ℕ ℕ (count_body known) (count_group known) l) ≡ body_count_at known l
layer_counted means (TransBody-F.Block b) = refl
layer_counted means (TransBody-F.Groups groups span) = sum_mapped (count_group means) groups 0

pub body_count_is : (known : Meanings) (x : TransBody) → count_body known x ≡ body_count_at known (out-TransBody x)
unfolding count_body count_group
body_count_is known x = fold_out-TransBody ℕ ℕ (count_layer known) (count_group_layer known) x ∙ layer_counted known (out-TransBody x)

pub group_count_is : (known : Meanings) (x : Group) → count_group known x ≡ domains_count known (domains_of (out-Group x).clause) * count_body known (out-Group x).body
unfolding count_body count_group
group_count_is known x = fold_out-Group ℕ ℕ (count_layer known) (count_group_layer known) x

pub ruleset counts = (body_count_is, group_count_is, left_capped, times_capped, plus_capped, pow_capped)
