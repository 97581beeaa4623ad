-- What a change of the rows does to the timers in them.
use Rattle.std.specs.Prelude.{cond, IsSome, OnErr, Ok, Err}
use Rattle.std.specs.declared.result.Result.{Result}
use Rattle.std.proofs.Common.{◌≡◌, ℕ, Bool, true, false, List, [], ◌∷◌, Some, None, length, arith, refl, sym, ap, subst, ◌∙◌}
use Rattle.std.specs.Ordering.{is_eq, nat_cmp, eq_by_cmp}
use Rattle.std.specs.BTreeMap as tree
use Rattle.std.specs.Map.{lookup, KeepsOthers}
use Rattle.std.specs.declared.option.Option.{Option}
use Rattle.estelle_tree.specs.declared.transition.Pair.{Pair}
use Rattle.estelle_tree.specs.Paths.{Path, path_cmp}
use Rattle.estelle_tree.specs.Timers.{pair, pair_cmp}
use Rattle.delay_timers.specs.declared.kept.Running.{Running}
use Rattle.delay_timers.specs.Kept.{Row, Rows, key_cmp, row_of, in_row, running_at}
use Rattle.delay_timers.proofs.Orders.{same_path, by_parts, numbers_turned}

others : (path p : Path) (old new : Rows) (w : Option Row) → tree.UpdatesBy key_cmp (λ k. path_cmp path k.items) old new w → is_eq (path_cmp p path) ≡ false → row_of new p ≡ row_of old p
unfolding KeepsOthers
others path p old new w h apart =
    h.3 (λ k. is_eq (path_cmp p k.items))
    (λ x y e. ap (λ r. is_eq (path_cmp r y.items)) (same_path p x.items e))
    (λ k e. ap (λ r. is_eq (path_cmp p r)) (sym (same_path path k.items e)) ∙ apart)

-- another row at one path
pub row_after : (path : Path) (old new : Rows) (w : Option Row) → tree.UpdatesBy key_cmp (λ k. path_cmp path k.items) old new w → (p : Path) → row_of new p ≡ cond (is_eq (path_cmp p path)) w (row_of old p)
row_after path old new w h p =
    elim (is_eq (path_cmp p path)) as (λ b. is_eq (path_cmp p path) ≡ b → row_of new p ≡ cond b w (row_of old p)) [
      | true ↦ λ e. ap (row_of new) (same_path p path e) ∙ h.1
      | false ↦ λ e. others path p old new w h e
    ] refl

abbrev pub HasRow : Path → Rows → Rows → Option Row → Type 0
HasRow path old new w = (p : Path) → row_of new p ≡ cond (is_eq (path_cmp p path)) w (row_of old p)

at_path : (path : Path) (old new : Rows) (w : Option Row) → HasRow path old new w → (q : Pair) → running_at new q ≡ cond (is_eq (path_cmp q.path path)) (in_row q.trans w) (running_at old q)
at_path path old new w h q =
    ap (in_row q.trans) (h q.path)
    ∙ elim (is_eq (path_cmp q.path path)) as (λ b. in_row q.trans (cond b w (row_of old q.path)) ≡ cond b (in_row q.trans w) (running_at old q)) [ true ↦ refl | false ↦ refl ]

-- a row with the same timers
pub row_same : (path : Path) (old new : Rows) (w : Option Row) → HasRow path old new w → ((n : ℕ) → in_row n w ≡ in_row n (row_of old path)) → (q : Pair) → running_at new q ≡ running_at old q
row_same path old new w h same q =
    at_path path old new w h q
    ∙ elim (is_eq (path_cmp q.path path)) as (λ b. is_eq (path_cmp q.path path) ≡ b → cond b (in_row q.trans w) (running_at old q) ≡ running_at old q) [
      | true ↦ λ e. same q.trans ∙ ap (λ p. in_row q.trans (row_of old p)) (sym (same_path q.path path e))
      | false ↦ λ e. refl
    ] refl

swapped : (s t : Bool) (v : Option Running) (x y : Option Running) → (s ≡ true → x ≡ y) → cond s (cond t v x) y ≡ cond (cond s t false) v y
swapped true true v x y e = refl
swapped true false v x y e = e refl
swapped false t v x y e = refl

-- a row with another timer for one transition, or none
pub row_put : (path : Path) (trans : ℕ) (old new : Rows) (w : Option Row) (v : Option Running) → HasRow path old new w → ((n : ℕ) → in_row n w ≡ cond (is_eq (nat_cmp trans n)) v (in_row n (row_of old path)))
    → (q : Pair) → running_at new q ≡ cond (eq_by_cmp pair_cmp q (pair path trans)) v (running_at old q)
row_put path trans old new w v h put q =
    at_path path old new w h q
    ∙ ap (λ x. cond (is_eq (path_cmp q.path path)) x (running_at old q)) (put q.trans ∙ ap (λ b. cond b v (in_row q.trans (row_of old path))) (numbers_turned trans q.trans))
    ∙ swapped (is_eq (path_cmp q.path path)) (is_eq (nat_cmp q.trans trans)) v _ _ (λ e. ap (λ p. in_row q.trans (row_of old p)) (sym (same_path q.path path e)))
    ∙ ap (λ b. cond b v (running_at old q)) (sym (by_parts (path_cmp q.path path) (nat_cmp q.trans trans) _ refl))

-- a path that has no row
pub row_missing : (path : Path) (trans : ℕ) (rows : Rows) → row_of rows path ≡ None → (q : Pair) → running_at rows q ≡ cond (eq_by_cmp pair_cmp q (pair path trans)) None (running_at rows q)
row_missing path trans rows none =
    row_put path trans rows rows (row_of rows path) None
    (λ p. elim (is_eq (path_cmp p path)) as (λ b. is_eq (path_cmp p path) ≡ b → row_of rows p ≡ cond b (row_of rows path) (row_of rows p)) [ true ↦ λ e. ap (row_of rows) (same_path p path e) | false ↦ λ e. refl ] refl)
    (λ n. ap (in_row n) none ∙ sym (ap (λ r. cond (is_eq (nat_cmp n trans)) None (in_row n r)) none ∙ nothing (is_eq (nat_cmp n trans))) ∙ ap (λ b. cond b None (in_row n (row_of rows path))) (numbers_turned n trans))
  where
    nothing : (b : Bool) → cond b None None ≡ (let x : Option Running = None in x)
    nothing true = refl
    nothing false = refl

pub on_err : {T E : Type 0} {P : Type 0} (r : Result T E) → P → OnErr r P
on_err (Ok x) p = tt
on_err (Err e) p = p

pub is_there : {T : Type 0} (o : Option T) (x : T) → o ≡ Some x → IsSome o
is_there {T = T} o x e = subst (λ (r : Option T). IsSome r) (sym e) refl

none_found : (t : ℕ → Bool) (es : List (ℕ × Running)) → length es ≡ 0 → lookup t es ≡ None
none_found t [] e = refl
none_found t (x ∷ es) e = absurd (omega arith)

-- an empty row has no timer
pub row_empty : (row : Row) (n : ℕ) → length row.entries ≡ 0 → in_row n (Some row) ≡ None
row_empty row n e = none_found (λ k. is_eq (nat_cmp n k)) row.entries e
