-- A way that leads to no part.
use Rattle.std.proofs.Common.{◌≡◌, ℕ, zero, suc, List, [], ◌∷◌, set-set, Option, Some, None, refl, sym, ap, ◌∙◌}
use Rattle.std.specs.Prelude.{slice_get, slice_set, unwrap_or}
use Rattle.pascal_values.specs.declared.value.Value.{Value, out-Value, roll-Value, roll-out-Value}
use Rattle.pascal_values.specs.declared.value.Value.TheOpen.{Value-F}
use Rattle.pascal_values.specs.declared.value.Value.TheVariants.{rolls-Array, rolls-Fields}
use Rattle.pascal_values.specs.Values.{into, part_of, parts_at, parts_of, with_parts_at, with_parts, changed_by, changed_at, with_part}

pub same_some : {A : Type 0} (x y : A) → Some x ≡ Some y → x ≡ y
same_some x y e = ap (λ o. unwrap_or o x) e

set_same : {A : Type 0} (xs : List A) (k : ℕ) (x : A) → slice_get xs k ≡ Some x → slice_set xs k x ≡ xs
set_same [] k x e = absurd (cc)
set_same (y ∷ xs) zero x e = ap (λ z. z ∷ xs) (sym (same_some y x e))
set_same (y ∷ xs) (suc k) x e = ap (λ zs. y ∷ zs) (set_same xs k x e)

same_parts : (v : Value) → with_parts v (parts_of v) ≡ v
unfolding roll-Value denote.Hole.Carrier.roll
same_parts v = by (out-Value v) refl
  where
    by : (l : Value-F Value) → out-Value v ≡ l → with_parts_at l v (parts_at l) ≡ v
    by (Value-F.Array parts) e = rolls-Array parts ∙ ap roll-Value (sym e) ∙ roll-out-Value v
    by (Value-F.Fields parts) e = rolls-Fields parts ∙ ap roll-Value (sym e) ∙ roll-out-Value v
    by _ e = refl

-- what is put where nothing stands changes nothing
pub nowhere : (v : Value) (way : List ℕ) (new : Value) → part_of v way ≡ None → with_part v way new ≡ v
nowhere v [] new e = absurd (cc)
nowhere v (k ∷ way) new e = ap (with_parts v) (unchanged (slice_get (parts_of v) k) refl e (λ p h. nowhere p way new h)) ∙ same_parts v
  where
    unchanged : (o : Option Value) → slice_get (parts_of v) k ≡ o → into o (λ p. part_of p way) ≡ None → ((p : Value) → part_of p way ≡ None → with_part p way new ≡ p) → changed_by (parts_of v) k o (λ p. with_part p way new) ≡ parts_of v
    unchanged None is e same = refl
    unchanged (Some p) is e same = ap (slice_set (parts_of v) k) (same p e) ∙ set_same (parts_of v) k p is

-- what is put in the place of what was taken out
pub put_twice : (vs : List Value) (k : ℕ) (old mid new : Value) (change : Value → Value) → slice_get vs k ≡ Some old → new ≡ change old → slice_set (slice_set vs k mid) k new ≡ changed_at vs k change
put_twice vs k old mid new change e is = set-set vs k mid new ∙ ap (slice_set vs k) is ∙ ap (λ o. changed_by vs k o change) (sym e)
